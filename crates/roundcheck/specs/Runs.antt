-- The records of a round, run on a board: which lines come of them, and how the run ends.
use Rattle.std.specs.Prelude.{◌≡◌, ℕ, ◌*◌, ◌⊎◌, List, [], ◌∷◌, Some, None, Ok, Err, Option, Result}
use Rattle.board.specs.Calls.{Terms, judge_call, Happens}
use Rattle.board.specs.Rounds.{standing_of}
use Rattle.board.specs.States.{State}
use Rattle.board.specs.declared.events.Event.{Event}
use Rattle.board.specs.declared.events.Taken.{Taken}
use Rattle.board.specs.declared.events.Taken.TheVariants.{Posted, Closed, Stepped, Expelled}
use Rattle.board.specs.declared.verdict.Standing.{Standing}
use Rattle.elgamal.specs.declared.Ciphertext.{Ciphertext}
use Rattle.refusal.specs.Table.{refused_at}
use Rattle.refusal.specs.declared.Reason.{Reason}
use Rattle.refusal.specs.declared.Reason.TheVariants.{MisplacedRecord, NoElement}
use Rattle.refusal.specs.declared.Refusal.{Refusal}
use Rattle.roundfile.specs.Fields.{post_of, default_element}
use Rattle.roundfile.specs.Reading.{Place, Found, Step, gave, ended, refused, step}
use Rattle.roundfile.specs.Records.{Content, content, opening, draws, post, comparator, close, expel}
use Rattle.roundfile.specs.declared.parts.Post.{Post}
use Rattle.roundfile.specs.declared.reader.Entry.{Entry}
use Rattle.roundcheck.specs.Events.{call_of, EventRead}
use Rattle.roundcheck.specs.declared.report.Line.{Line}
use Rattle.roundcheck.specs.declared.report.Line.TheVariants.{Post as PostLine, Close as CloseLine, Step as StepLine, Expel as ExpelLine}

-- How a file ends: it was read to its end and stands so, or it is refused.
abbrev pub Ending : Type 0
Ending = Result Standing Refusal

-- a record of the code with its offset
abbrev pub found_in : Entry → Found
found_in entry = record { offset = entry.offset; holds = content entry.record }

-- the codes that a post has; the defaults in any other record
abbrev pub post_in : Content → Post
post_in (opening map fields) = record { alpha = default_element; beta = default_element }
post_in (draws map fields) = record { alpha = default_element; beta = default_element }
post_in (post map fields) = post_of map fields
post_in (comparator map fields) = record { alpha = default_element; beta = default_element }
post_in close = record { alpha = default_element; beta = default_element }
post_in expel = record { alpha = default_element; beta = default_element }

-- the line of a record, from what the board answered
abbrev pub line_of : Content → Taken → Line
line_of held (Posted wire) = PostLine wire (post_in held)
line_of held Closed = CloseLine
line_of held (Stepped server next on) = StepLine server next on
line_of held (Expelled server) = ExpelLine server

module _ {Point : Type 0} (T : Terms Point) (number : ℕ → ℕ) where
  -- What comes of the call that a record says. Its codes are read before the board is asked; the posting buffer has just the bytes that it needs.
  abbrev pub JudgesCall : Option (Event ℕ ℕ) → State (Ciphertext Point) → Found → Result Line Refusal → State (Ciphertext Point) → Type 0
  JudgesCall None s f (Ok line) s' = ⊥
  JudgesCall None s f (Err r) s' = (r ≡ refused_at MisplacedRecord f.offset) × (s' ≡ s)
  JudgesCall (Some codes) s f (Ok line) s' =
      (e : Event Point ℕ) × (t : Taken) × EventRead T.group number codes e × Happens T s e (11 * T.group.width) (Ok t) s' × (line ≡ line_of f.holds t)
  JudgesCall (Some codes) s f (Err r) s' =
      ((r ≡ refused_at NoElement f.offset) × ((e : Event Point ℕ) → EventRead T.group number codes e → ⊥) × (s' ≡ s))
      ⊎ ((e : Event Point ℕ) × (why : Reason) × EventRead T.group number codes e × (judge_call T s e (11 * T.group.width) ≡ Some why) × (r ≡ refused_at why f.offset) × (s' ≡ s))

  -- what comes of a record in the state s: a line, or a refusal at the record's offset; and the state after it
  abbrev pub Judges : State (Ciphertext Point) → Found → Result Line Refusal → State (Ciphertext Point) → Type 0
  Judges s f r s' = JudgesCall (call_of f.holds) s f r s'

  -- how a run ends where the reader's next step is this one
  abbrev pub Ends : State (Ciphertext Point) → Step → Ending → Type 0
  Ends s (gave f q) ending = (r : Refusal) × Judges s f (Err r) s × (ending ≡ Err r)
  Ends s ended ending = ending ≡ Ok (standing_of s)
  Ends s (refused r) ending = ending ≡ Err r

  -- From a place of the reader and a state of the board on: each line is that of a record that was taken, and then the run ends.
  abbrev pub Runs : Place → State (Ciphertext Point) → List Line → Ending → Type 0
  Runs p s [] ending = Ends s (step p) ending
  Runs p s (line ∷ lines) ending =
      (f : Found) × (q : Place) × (s' : State (Ciphertext Point)) × (step p ≡ gave f q) × Judges s f (Ok line) s' × Runs q s' lines ending

-- How a file is read, record by record.
use Rattle.std.specs.Prelude.{ℕ, ◌-◌, Bool, cond, ◌&&◌, List, [], ◌∷◌, length, drop, Some, None, Ok, Err, Option, Result, ◌==◌, nat_lt, slice_index}
use Rattle.refusal.specs.Table.{refused_at}
use Rattle.refusal.specs.declared.Reason.{Reason}
use Rattle.refusal.specs.declared.Reason.TheVariants.{NoRoundFile, MisplacedRecord}
use Rattle.refusal.specs.declared.Refusal.{Refusal}
use Rattle.roundfile.specs.Records.{Content, content, kind_in, parse}
use Rattle.roundfile.specs.declared.kind.Kind.{Kind}
use Rattle.roundfile.specs.declared.kind.Kind.TheVariants.{Opening, Draws, Post, Comparator, Close, Expel}
use Rattle.roundfile.specs.declared.reader.Entry.{Entry}
use Rattle.roundfile.specs.declared.reader.Reader.{Reader}
use Rattle.roundfile.specs.declared.reader.Stage.{Stage}
use Rattle.roundfile.specs.declared.reader.Stage.TheVariants.{Start, Opened, HalfDrawn, Drawn}

-- Where a reader stands: how far the file has come, its length, and what of it is still to be read.
pub record Place : Type 0 where
  pub stage : Stage
  pub end : ℕ
  pub rest : List ℕ

-- A record with its offset, counted from the file's first byte.
pub record Found : Type 0 where
  pub offset : ℕ
  pub holds : Content

abbrev pub offset_at : Place → ℕ
offset_at p = p.end - length p.rest

-- The mark at the front of every file: M, I, X and R.
abbrev pub mark : List ℕ
mark = 77 ∷ 73 ∷ 88 ∷ 82 ∷ []

abbrev pub marked : List ℕ → Bool
marked bytes = slice_index bytes 0 == 77 && (slice_index bytes 1 == 73 && (slice_index bytes 2 == 88 && slice_index bytes 3 == 82))

-- What follows the mark; none where there are over 65,536 bytes, or no mark.
abbrev pub unmarked : List ℕ → Option (List ℕ)
unmarked bytes = cond (nat_lt 65536 (length bytes)) None (cond (marked bytes) (Some (drop 4 bytes)) None)

-- The place of the first record, or the refusal of what is no round file.
abbrev pub open_at : ℕ → Option (List ℕ) → Result Place Refusal
open_at end None = Err (refused_at NoRoundFile 0)
open_at end (Some rest) = Ok (record { stage = Start; end = end; rest = rest })

abbrev pub open_file : List ℕ → Result Place Refusal
open_file bytes = open_at (length bytes) (unmarked bytes)

-- First an opening, then two draws, then no more of these.
abbrev pub after : Stage → Kind → Option Stage
after Start Opening = Some Opened
after Start Draws = None
after Start Post = None
after Start Comparator = None
after Start Close = None
after Start Expel = None
after Opened Opening = None
after Opened Draws = Some HalfDrawn
after Opened Post = None
after Opened Comparator = None
after Opened Close = None
after Opened Expel = None
after HalfDrawn Opening = None
after HalfDrawn Draws = Some Drawn
after HalfDrawn Post = None
after HalfDrawn Comparator = None
after HalfDrawn Close = None
after HalfDrawn Expel = None
after Drawn Opening = None
after Drawn Draws = None
after Drawn Post = Some Drawn
after Drawn Comparator = Some Drawn
after Drawn Close = Some Drawn
after Drawn Expel = Some Drawn

-- One call of a reader: it gives a record and goes on to the place behind it, comes to the end, or refuses.
pub data Step : Type 0 where
  gave : Found → Place → Step
  ended : Step
  refused : Refusal → Step

-- A file may end once the opening and both draws are there.
abbrev pub step_at_end : Stage → ℕ → Step
step_at_end Start n = refused (refused_at MisplacedRecord n)
step_at_end Opened n = refused (refused_at MisplacedRecord n)
step_at_end HalfDrawn n = refused (refused_at MisplacedRecord n)
step_at_end Drawn n = ended

-- A record that was taken off the front, as its place allows it.
abbrev pub step_placed : Place → Content × List ℕ → Option Stage → Step
step_placed p t None = refused (refused_at MisplacedRecord (offset_at p))
step_placed p t (Some stage) =
    gave (record { offset = offset_at p; holds = t.0 }) (record { stage = stage; end = p.end; rest = t.1 })

abbrev pub step_over : Place → Result (Content × List ℕ) Reason → Step
step_over p (Ok t) = step_placed p t (after p.stage (kind_in t.0))
step_over p (Err reason) = refused (refused_at reason (offset_at p))

abbrev pub step : Place → Step
step p = cond (length p.rest == 0) (step_at_end p.stage p.end) (step_over p (parse p.rest))

-- What the call answers, and where it leaves a reader that stood at p.
abbrev pub answer : Step → Result (Option Found) Refusal
answer (gave f q) = Ok (Some f)
answer ended = Ok None
answer (refused r) = Err r

abbrev pub left : Place → Step → Place
left p (gave f q) = q
left p ended = p
left p (refused r) = p

-- The same of the code's values.
abbrev pub place : Reader → Place
place reader = record { stage = reader.stage; end = reader.end; rest = reader.rest.now }

abbrev pub opened : Result Reader Refusal → Result Place Refusal
opened (Ok reader) = Ok (place reader)
opened (Err r) = Err r

abbrev pub found : Result (Option Entry) Refusal → Result (Option Found) Refusal
found (Ok None) = Ok None
found (Ok (Some entry)) = Ok (Some (record { offset = entry.offset; holds = content entry.record }))
found (Err r) = Err r

-- What holds where the call gave a record. (The calls come to an end, since each record that is given takes three bytes or more.)
abbrev pub GoesOn : Result (Option Entry) Refusal → Type 0 → Type 0
GoesOn (Ok None) P = Unit {0}
GoesOn (Ok (Some entry)) P = P
GoesOn (Err r) P = Unit {0}

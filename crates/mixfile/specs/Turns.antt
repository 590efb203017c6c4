-- A turn on a round file: where one begins, and the records that it adds.
use Rattle.std.specs.Prelude.{◌≡◌, ℕ, ◌+◌, ◌-◌, ◌*◌, ◌<◌, ◌≤◌, Bool, true, false, ◌⊎◌, List, [], ◌∷◌, ◌++◌, Ok, Err, length, take, drop, ◌==◌, nat_lt, slice_index_or}
use Rattle.std.specs.List.{flat_map}
use Rattle.board.specs.Calls.{Terms, after_call}
use Rattle.board.specs.Serving.{HonestStep}
use Rattle.board.specs.States.{State}
use Rattle.board.specs.declared.events.Event.TheVariants.{Step as StepCall}
use Rattle.board.specs.declared.verdict.Verdict.{Verdict}
use Rattle.board.specs.declared.verdict.Verdict.TheVariants.{Stands, Void, Unfinished}
use Rattle.elgamal.specs.declared.Ciphertext.{Ciphertext}
use Rattle.equivalence.specs.Judgement.{both}
use Rattle.group.specs.Codes.{four_bytes}
use Rattle.group.specs.Operations.{Operations}
use Rattle.plan.specs.Plans.{Permutation}
use Rattle.plan.specs.declared.Comparator.{Comparator as Crossing}
use Rattle.plan.specs.declared.Setting.{Setting}
use Rattle.prover.specs.States.{message_meaning}
use Rattle.prover.specs.declared.states.Message.{Message}
use Rattle.refusal.specs.Table.{refused_at}
use Rattle.refusal.specs.declared.Reason.{Reason}
use Rattle.refusal.specs.declared.Reason.TheVariants.{NoRoundFile, UnfitNumber, UnfitLength, NoPermutation, WrongStage, BeyondReach}
use Rattle.refusal.specs.declared.Refusal.{Refusal}
use Rattle.roundcheck.specs.Events.{message_of}
use Rattle.roundcheck.specs.Runs.{Ending}
use Rattle.roundcheck.specs.declared.report.Line.{Line}
use Rattle.roundcheck.specs.declared.report.Line.TheVariants.{Round, Post, Close, Step, Expel}
use Rattle.roundfile.specs.Writing.{comparator_bytes}
use Rattle.roundfile.specs.declared.parts.Comparator.{Comparator}

-- the codes are those of the message's elements; the numbers of exponents are taken as they are posted
abbrev pub MessageRead : {Point : Type 0} → Operations Point → (ℕ → ℕ) → Message ℕ ℕ → Message Point ℕ → Type 0
MessageRead G number codes m = message_meaning G.code (λ n. n) m ≡ message_meaning four_bytes number codes

module _ {Point : Type 0} (T : Terms Point) (number : ℕ → ℕ) where
  -- the message is the honest one on the comparator that is next, and the board goes from s to s' by it
  abbrev pub TakenStep : State (Ciphertext Point) → Setting → List ℕ → Message Point ℕ → State (Ciphertext Point) → Type 0
  TakenStep s setting words m s' = HonestStep T s setting words m × (s' ≡ after_call T s (StepCall m))

  -- the bytes are the record of such a message
  abbrev pub StepRecord : State (Ciphertext Point) → Setting → List ℕ → List ℕ → State (Ciphertext Point) → Type 0
  StepRecord s setting words bytes s' =
      (c : Comparator) × (bytes ≡ comparator_bytes c)
      × ((m : Message Point ℕ) × MessageRead T.group number (message_of c) m × TakenStep s setting words m s')

  -- a record for each setting, with six words each: those of honest messages, each made on what the ones before it left
  abbrev pub Posted : State (Ciphertext Point) → List Setting → List ℕ → List Comparator → Type 0
  Posted s [] words [] = Unit {0}
  Posted s [] words (c ∷ records) = ⊥
  Posted s (x ∷ settings) words [] = ⊥
  Posted s (x ∷ settings) words (c ∷ records) =
      (m : Message Point ℕ) × (s' : State (Ciphertext Point)) × MessageRead T.group number (message_of c) m × TakenStep s x (take 6 words) m s'
      × Posted s' settings (drop 6 words) records

-- behind this line the next turn begins, where a turn has so many comparators and the round is not finished
abbrev pub ends_turn : Line → ℕ → Bool
ends_turn (Round opening) count = false
ends_turn (Post wire post) count = false
ends_turn Close count = true
ends_turn (Step server k on) count = k + 1 == count
ends_turn (Expel server) count = true

abbrev pub last_ends : List Line → ℕ → Bool
last_ends lines count = both (nat_lt 0 (length lines)) (ends_turn (slice_index_or lines (length lines - 1) Close) count)

abbrev pub goes_on : Verdict → Bool
goes_on Stands = false
goes_on Void = false
goes_on Unfinished = true

-- a server's turn begins behind the lines of a file that ended so
abbrev pub turn_begins : List Line → Ending → ℕ → Bool
turn_begins lines (Ok standing) count = both (goes_on standing.verdict) (last_ends lines count)
turn_begins lines (Err f) count = false

-- an entry for each of n wires, and six words for each comparator
abbrev pub lengths_fit : ℕ → List Crossing → (permutation words : ℕ) → Bool
lengths_fit n cs permutation words = both (permutation == n) (words == 6 * length cs)

-- why a turn is refused before its first step: the first of these
abbrev pub Unready : ℕ → List Crossing → List Line → Ending → List ℕ → ℕ → Reason → Type 0
Unready n cs lines ending p words why =
    ((lengths_fit n cs (length p) words ≡ false) × (why ≡ UnfitLength))
    ⊎ ((lengths_fit n cs (length p) words ≡ true) × (turn_begins lines ending (length cs) ≡ false) × (why ≡ WrongStage))
    ⊎ ((lengths_fit n cs (length p) words ≡ true) × (turn_begins lines ending (length cs) ≡ true) × (Permutation n p → ⊥) × (why ≡ NoPermutation))

abbrev pub Ready : ℕ → List Crossing → List Line → Ending → List ℕ → ℕ → Type 0
Ready n cs lines ending p words =
    (lengths_fit n cs (length p) words ≡ true) × (turn_begins lines ending (length cs) ≡ true) × Permutation n p

-- Why a step is refused: the source does not reach its questions, or what was made cannot be written as a record. The
-- others are met by no turn that begins.
abbrev pub Stopped : Reason → Type 0
Stopped why = (why ≡ BeyondReach) ⊎ (why ≡ UnfitNumber) ⊎ (why ≡ WrongStage) ⊎ (why ≡ UnfitLength)

abbrev pub StoppedAt : ℕ → Refusal → Type 0
StoppedAt place f = (why : Reason) × Stopped why × (f ≡ refused_at why place)

-- the file with a record for each comparator behind it
abbrev pub Served : ℕ → List Crossing → List Line → Ending → List ℕ → List ℕ → ℕ → List ℕ → Type 0
Served n cs lines ending file p words out =
    Ready n cs lines ending p words
    × ((records : List Comparator) × (length records ≡ length cs) × (out ≡ file ++ flat_map comparator_bytes records))
    × (length out ≤ 65536)

abbrev pub Unserved : ℕ → List Crossing → List Line → Ending → List ℕ → List ℕ → ℕ → Reason → Type 0
Unserved n cs lines ending file p words why =
    Unready n cs lines ending p words why
    ⊎ (Ready n cs lines ending p words × Stopped why)
    ⊎ (Ready n cs lines ending p words × (65536 < length file + 51 * length cs) × (why ≡ NoRoundFile))

-- the same, refused at the file's length
abbrev pub UnservedAt : ℕ → List Crossing → List Line → Ending → List ℕ → List ℕ → ℕ → Refusal → Type 0
UnservedAt n cs lines ending file p words f = (why : Reason) × Unserved n cs lines ending file p words why × (f ≡ refused_at why (length file))

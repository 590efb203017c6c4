-- The calls on a board: why one is refused, and what one that is taken does. Over points and numbers.
use Rattle.std.specs.Prelude.{◌≡◌, ℕ, ◌+◌, ◌-◌, ◌*◌, Bool, true, false, List, length, Some, None, Ok, Err, Option, Result, ◌==◌, nat_lt}
use Rattle.elgamal.specs.Ciphertexts.{meaning}
use Rattle.elgamal.specs.declared.Ciphertext.{Ciphertext}
use Rattle.equivalence.specs.Judgement.{judge, unless}
use Rattle.group.specs.Exponents.{Exponents}
use Rattle.group.specs.Operations.{Operations}
use Rattle.plan.specs.Plans.{nth}
use Rattle.plan.specs.declared.Comparator.{Comparator}
use Rattle.posting.specs.Drawing.{buffer_fits}
use Rattle.posting.specs.declared.comparison.Pair.{Pair}
use Rattle.prover.specs.States.{message_meaning}
use Rattle.prover.specs.declared.states.Message.{Message}
use Rattle.refusal.specs.Table.{refused_at}
use Rattle.refusal.specs.declared.Reason.{Reason}
use Rattle.refusal.specs.declared.Reason.TheVariants.{UnfitLength, WrongStage, BoardFull, BoardShort}
use Rattle.refusal.specs.declared.Refusal.{Refusal}
use Rattle.source.specs.Words.{Words}
use Rattle.board.specs.Steps.{comparison_at}
use Rattle.board.specs.States.{State, posted_state, closed_state, stepped_state, expelled_state}
use Rattle.board.specs.declared.events.Event.{Event}
use Rattle.board.specs.declared.events.Event.TheVariants.{Post, Close, Step, Expel}
use Rattle.board.specs.declared.events.Stage.{Stage}
use Rattle.board.specs.declared.events.Stage.TheVariants.{Gathering, Turning, Finished}
use Rattle.board.specs.declared.events.Taken.{Taken}
use Rattle.board.specs.declared.events.Taken.TheVariants.{Posted, Closed, Stepped, Expelled}

-- what a round goes by
pub record Terms (Point : Type 0) : Type 0 where
  pub group : Operations Point
  pub exponents : Exponents
  pub source : Words
  pub key : Point
  pub comparators : List Comparator

-- a call of elements and posted numbers, as points and numbers
abbrev pub event_meaning : {Element Point N : Type 0} → (Element → Point) → (N → ℕ) → Event Element N → Event Point ℕ
event_meaning point number (Post c) = Post (meaning point c)
event_meaning point number Close = Close
event_meaning point number (Step m) = Step (message_meaning point number m)
event_meaning point number Expel = Expel

abbrev pub is_gathering : Stage → Bool
is_gathering Gathering = true
is_gathering Turning = false
is_gathering Finished = false

abbrev pub is_turning : Stage → Bool
is_turning Gathering = false
is_turning Turning = true
is_turning Finished = false

module _ {Point : Type 0} (T : Terms Point) where
  -- the first of the four questions of the next comparator: each server has as many as the plan has comparators
  abbrev pub question : State (Ciphertext Point) → ℕ
  question s = 4 * (length T.comparators * (s.server - 1) + s.next)

  -- A step is judged on the next comparator. That there is none, or none on these wires, no board from its opening on ever meets.
  abbrev pub judge_step : State (Ciphertext Point) → Message Point ℕ → Option Comparator → Option Reason
  judge_step s m None = Some WrongStage
  judge_step s m (Some c) =
      unless (nat_lt c.second (length s.wires)) WrongStage (judge T.group T.exponents T.source (comparison_at T.key s.wires c m.outputs) m.proofs (question s))

  -- why a call is refused, with a posting buffer of so many bytes
  abbrev pub judge_call : State (Ciphertext Point) → Event Point ℕ → ℕ → Option Reason
  judge_call s (Post c) bytes = unless (is_gathering s.stage) WrongStage (unless (nat_lt s.posted (length s.wires)) BoardFull None)
  judge_call s Close bytes = unless (is_gathering s.stage) WrongStage (unless (s.posted == length s.wires) BoardShort None)
  judge_call s (Step m) bytes =
      unless (buffer_fits T.group bytes) UnfitLength (unless (is_turning s.stage) WrongStage (judge_step s m (nth T.comparators s.next)))
  judge_call s Expel bytes = unless (is_turning s.stage) WrongStage None

  -- a step that is taken, on the comparator that was next
  abbrev pub after_step : State (Ciphertext Point) → Message Point ℕ → Option Comparator → State (Ciphertext Point)
  after_step s m None = s
  after_step s m (Some c) = stepped_state (length T.comparators) s c.first c.second m.outputs.first m.outputs.second

  -- the state after a call that is taken
  abbrev pub after_call : State (Ciphertext Point) → Event Point ℕ → State (Ciphertext Point)
  after_call s (Post c) = posted_state s c
  after_call s Close = closed_state s
  after_call s (Step m) = after_step s m (nth T.comparators s.next)
  after_call s Expel = expelled_state s

  -- what it answers
  abbrev pub Answers : State (Ciphertext Point) → Event Point ℕ → Taken → Type 0
  Answers s (Post c) t = t ≡ Posted s.posted
  Answers s Close t = t ≡ Closed
  Answers s (Step m) t = (c : Comparator) × (nth T.comparators s.next ≡ Some c) × (t ≡ Stepped s.server s.next c)
  Answers s Expel t = t ≡ Expelled s.server

  -- what happens by a judgement: a refusal alters nothing
  abbrev pub HappensBy : Option Reason → State (Ciphertext Point) → Event Point ℕ → Result Taken Refusal → State (Ciphertext Point) → Type 0
  HappensBy None s e (Ok t) s' = Answers s e t × (s' ≡ after_call s e)
  HappensBy None s e (Err f) s' = ⊥
  HappensBy (Some why) s e (Ok t) s' = ⊥
  HappensBy (Some why) s e (Err f) s' = (f ≡ refused_at why s.next) × (s' ≡ s)

  -- The one definition of what a call does: in the state s, with a posting buffer of so many bytes, it answers r and leaves s'.
  abbrev pub Happens : State (Ciphertext Point) → Event Point ℕ → ℕ → Result Taken Refusal → State (Ciphertext Point) → Type 0
  Happens s e bytes r s' = HappensBy (judge_call s e bytes) s e r s'

-- the terms of a round, from its parts
abbrev pub terms : {Point : Type 0} → Operations Point → Exponents → Words → Point → List Comparator → Terms Point
terms G E S y cs = record { group = G; exponents = E; source = S; key = y; comparators = cs }

-- what a step does to a board of elements, by a judgement
abbrev pub StepHappens : {X : Type 0} → Option Reason → List Comparator → State (Ciphertext X) → Pair X → Result Taken Refusal → State (Ciphertext X) → Type 0
StepHappens None cs s o (Ok t) s' =
    (c : Comparator) × (nth cs s.next ≡ Some c) × (t ≡ Stepped s.server s.next c) × (s' ≡ stepped_state (length cs) s c.first c.second o.first o.second)
StepHappens None cs s o (Err f) s' = ⊥
StepHappens (Some why) cs s o (Ok t) s' = ⊥
StepHappens (Some why) cs s o (Err f) s' = (f ≡ refused_at why s.next) × (s' ≡ s)

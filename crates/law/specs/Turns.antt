-- What a history tells of its round, by its calls and answers alone: the quotes posted, the turns, and the lists that they leave.
use Rattle.std.specs.Prelude.{ℕ, ◌+◌, cond, List, [], ◌∷◌, ◌++◌, length, Ok, Err, Result, ◌==◌, slice_set}
use Rattle.board.specs.Calls.{Terms}
use Rattle.board.specs.declared.events.Event.{Event}
use Rattle.board.specs.declared.events.Event.TheVariants.{Post, Close, Step, Expel}
use Rattle.board.specs.declared.events.Taken.{Taken}
use Rattle.elgamal.specs.declared.Ciphertext.{Ciphertext}
use Rattle.plan.specs.declared.Comparator.{Comparator}
use Rattle.posting.specs.declared.comparison.Pair.{Pair}
use Rattle.prover.specs.declared.states.Message.{Message}
use Rattle.refusal.specs.declared.Refusal.{Refusal}
use Rattle.law.specs.Histories.{Calls}

-- how a turn ended: by its last step, or by its server's expulsion
pub data Ending : Type 0 where
  completed : Ending
  expelled : Ending

-- a turn that is over, with the steps that were taken in it, in order
pub record Turn (Point : Type 0) : Type 0 where
  pub steps : List (Message Point ℕ)
  pub ending : Ending

-- The quotes posted, the turns that are over, and the steps of the present turn, each in order.
pub record Account (Point : Type 0) : Type 0 where
  pub posted : List (Ciphertext Point)
  pub past : List (Turn Point)
  pub present : List (Message Point ℕ)

-- 1 for a turn that was completed
abbrev pub whole : Ending → ℕ
whole completed = 1
whole expelled = 0

module _ {Point : Type 0} where
  abbrev pub quote_posted : Account Point → Ciphertext Point → Account Point
  quote_posted a c = record { posted = a.posted ++ c ∷ []; past = a.past; present = a.present }

  abbrev pub turn_ended : Account Point → List (Message Point ℕ) → Ending → Account Point
  turn_ended a steps ending = record { posted = a.posted; past = a.past ++ record { steps = steps; ending = ending } ∷ []; present = [] }

  -- the steps that count: those of turns that no expulsion ended
  abbrev pub kept_steps : Ending → List (Message Point ℕ) → List (Message Point ℕ)
  kept_steps completed steps = steps
  kept_steps expelled steps = []

  abbrev pub kept_past : List (Turn Point) → List (Message Point ℕ)
  kept_past [] = []
  kept_past (t ∷ ts) = kept_steps t.ending t.steps ++ kept_past ts

  abbrev pub kept : Account Point → List (Message Point ℕ)
  kept a = kept_past a.past ++ a.present

  -- how many servers completed their turns
  abbrev pub completed_turns : List (Turn Point) → ℕ
  completed_turns [] = 0
  completed_turns (t ∷ ts) = whole t.ending + completed_turns ts

  -- the server whose turn it is, from 1 on
  abbrev pub present_server : Account Point → ℕ
  present_server a = length a.past + 1

  -- two outputs on a comparator's wires
  abbrev pub put : Comparator → Pair Point → List (Ciphertext Point) → List (Ciphertext Point)
  put c outputs wires = slice_set (slice_set wires c.first outputs.first) c.second outputs.second

  -- a list with the outputs of a turn's steps written over it, on one comparator after another (no turn has more steps than there are comparators)
  abbrev pub written : List (Message Point ℕ) → List Comparator → List (Ciphertext Point) → List (Ciphertext Point)
  written [] cs wires = wires
  written (m ∷ ms) [] wires = wires
  written (m ∷ ms) (c ∷ cs) wires = written ms cs (put c m.outputs wires)

  -- an expelled server leaves the list that it started from
  abbrev pub turn_written : Ending → List (Message Point ℕ) → List Comparator → List (Ciphertext Point) → List (Ciphertext Point)
  turn_written completed steps cs wires = written steps cs wires
  turn_written expelled steps cs wires = wires

  abbrev pub turns_written : List (Turn Point) → List Comparator → List (Ciphertext Point) → List (Ciphertext Point)
  turns_written [] cs wires = wires
  turns_written (t ∷ ts) cs wires = turns_written ts cs (turn_written t.ending t.steps cs wires)

module _ {Point : Type 0} (T : Terms Point) where
  -- as many steps as the plan has comparators complete a turn
  abbrev pub step_taken : Account Point → Message Point ℕ → Account Point
  step_taken a m =
      cond (length a.present + 1 == length T.comparators)
      (turn_ended a (a.present ++ m ∷ []) completed)
      (record { posted = a.posted; past = a.past; present = a.present ++ m ∷ [] })

  abbrev pub call_taken : Account Point → Event Point ℕ → Account Point
  call_taken a (Post c) = quote_posted a c
  call_taken a Close = a
  call_taken a (Step m) = step_taken a m
  call_taken a Expel = turn_ended a a.present expelled

  abbrev pub noted : Account Point → Event Point ℕ → Result Taken Refusal → Account Point
  noted a e (Ok t) = call_taken a e
  noted a e (Err f) = a

  -- what a history tells: a refusal tells nothing
  abbrev pub account : Calls Point → Account Point
  account [] = record { posted = []; past = []; present = [] }
  account (c ∷ h) = noted (account h) c.event c.answer

  -- the list last completed, or the posted one: the present turn starts from it
  abbrev pub last_list : Account Point → List (Ciphertext Point)
  last_list a = turns_written a.past T.comparators a.posted

  -- what stands on the wires after the present turn's steps
  abbrev pub present_list : Account Point → List (Ciphertext Point)
  present_list a = written a.present T.comparators (last_list a)

-- An honest server's turn: a step on each comparator of the plan, set as a route of its permutation says, with six secret words each.
use Rattle.std.specs.Prelude.{◌≡◌, ℕ, ◌+◌, ◌*◌, Bool, true, false, cond, ◌⊎◌, List, [], ◌∷◌, length, take, drop, Some, None, Ok, Err, Option, Result, ◌==◌, nat_le, nat_lt, slice_index_or}
use Rattle.elgamal.specs.declared.Ciphertext.{Ciphertext}
use Rattle.equivalence.specs.Judgement.{both, unless}
use Rattle.plan.specs.Plans.{nth, Permutation, Brings}
use Rattle.plan.specs.declared.Comparator.{Comparator}
use Rattle.plan.specs.declared.Setting.{Setting}
use Rattle.posting.specs.Drawing.{buffer_fits}
use Rattle.posting.specs.declared.comparison.Pair.{Pair}
use Rattle.prover.specs.Secrets.{secrets_of}
use Rattle.prover.specs.States.{honest_message}
use Rattle.prover.specs.declared.states.Message.{Message}
use Rattle.refusal.specs.Table.{refused_at}
use Rattle.refusal.specs.declared.Reason.{Reason}
use Rattle.refusal.specs.declared.Reason.TheVariants.{UnfitLength, WrongStage, NoPermutation, BeyondReach}
use Rattle.refusal.specs.declared.Refusal.{Refusal}
use Rattle.board.specs.Calls.{Terms, question, is_turning, after_step}
use Rattle.board.specs.Rounds.{blank}
use Rattle.board.specs.States.{State}

-- what stands on a comparator's two wires; d stands for what is past the end of the list
abbrev pub inputs_on : {X : Type 0} → Pair X → List (Ciphertext X) → Comparator → Pair X
inputs_on d wires c = record { first = slice_index_or wires c.first d.first; second = slice_index_or wires c.second d.second }

-- the comparator that is next, where a turn is under way and it is on the wires
abbrev pub on_the_wires : {X : Type 0} → List X → Option Comparator → Option Comparator
on_the_wires wires None = None
on_the_wires wires (Some c) = cond (nat_lt c.second (length wires)) (Some c) None

abbrev pub next_comparator : {X : Type 0} → List Comparator → State X → Option Comparator
next_comparator cs s = cond (is_turning s.stage) (on_the_wires s.wires (nth cs s.next)) None

module _ {Point : Type 0} (T : Terms Point) where
  -- what stands on a comparator's two wires
  abbrev pub inputs_at : List (Ciphertext Point) → Comparator → Pair Point
  inputs_at wires c = record { first = slice_index_or wires c.first (blank T.group); second = slice_index_or wires c.second (blank T.group) }

  -- what an honest server posts for the comparator that is next, under a setting and with six words
  abbrev pub honest_step : State (Ciphertext Point) → Comparator → Setting → List ℕ → Message Point ℕ
  honest_step s c setting words =
      honest_message T.group T.exponents T.source T.key (inputs_at s.wires c) setting (secrets_of T.exponents words) (question T s)

  -- why no honest step is made, with so many words and bytes of posting buffer
  abbrev pub judge_reach : State (Ciphertext Point) → Option Comparator → Option Reason
  judge_reach s None = Some WrongStage
  judge_reach s (Some c) = unless (nat_lt (question T s + 3) T.source.reach) BeyondReach None

  abbrev pub judge_honest : State (Ciphertext Point) → (words bytes : ℕ) → Option Reason
  judge_honest s words bytes = unless (both (words == 6) (buffer_fits T.group bytes)) UnfitLength (judge_reach s (next_comparator T.comparators s))

  -- the message is the honest one on the comparator that is next
  abbrev pub HonestStep : State (Ciphertext Point) → Setting → List ℕ → Message Point ℕ → Type 0
  HonestStep s setting words m = (c : Comparator) × (next_comparator T.comparators s ≡ Some c) × (m ≡ honest_step s c setting words)

  -- the honest steps from the state s on, each made on what those before it left
  unfoldable pub honest_steps : List Comparator → List Setting → List ℕ → State (Ciphertext Point) → List (Message Point ℕ)
  honest_steps [] ss words s = []
  honest_steps (c ∷ cs) [] words s = []
  honest_steps (c ∷ cs) (x ∷ ss) words s =
      honest_step s c x (take 6 words) ∷ honest_steps cs ss (drop 6 words) (after_step T s (honest_step s c x (take 6 words)) (Some c))

  -- the state after steps that were taken, on one comparator after another
  unfoldable pub after_steps : List Comparator → List (Message Point ℕ) → State (Ciphertext Point) → State (Ciphertext Point)
  after_steps [] ms s = s
  after_steps (c ∷ cs) [] s = s
  after_steps (c ∷ cs) (m ∷ ms) s = after_steps cs ms (after_step T s m (Some c))

  -- the state after the honest steps
  abbrev pub turned : List Comparator → List Setting → List ℕ → State (Ciphertext Point) → State (Ciphertext Point)
  turned cs ss words s = after_steps cs (honest_steps cs ss words s) s

  module _ (n : ℕ) where
    -- the lists that serve is lent: the permutation, the working places, the secret words, the posting buffer
    abbrev pub lengths_fit : (permutation places words bytes : ℕ) → Bool
    lengths_fit permutation places words bytes =
        both (permutation == n) (both (places == length T.comparators) (both (words == 6 * length T.comparators) (buffer_fits T.group bytes)))

    -- A turn is at its comparator 0. That the lists are not as wide as the plan, no board from its opening on ever meets.
    abbrev pub at_start : State (Ciphertext Point) → Bool
    at_start s = both (is_turning s.stage) (both (s.next == 0) (length s.wires == n))

    -- the source reaches the last question of the turn
    abbrev pub reaches_through : State (Ciphertext Point) → Bool
    reaches_through s = nat_le (4 * (length T.comparators * s.server)) T.source.reach

    -- why a turn is refused: the first of these
    abbrev pub Unserved : State (Ciphertext Point) → List ℕ → Bool → Reason → Type 0
    Unserved s p lengths why =
        ((lengths ≡ false) × (why ≡ UnfitLength))
        ⊎ ((lengths ≡ true) × (at_start s ≡ false) × (why ≡ WrongStage))
        ⊎ ((lengths ≡ true) × (at_start s ≡ true) × (Permutation n p → ⊥) × (why ≡ NoPermutation))
        ⊎ ((lengths ≡ true) × (at_start s ≡ true) × Permutation n p × (reaches_through s ≡ false) × (why ≡ BeyondReach))

    -- What serve does in the state s, with a permutation, so many working places, secret words and a posting buffer of so many bytes:
    -- the steps that it makes, its answer, and the state that it leaves. Which route it takes is free.
    abbrev pub Serves : State (Ciphertext Point) → List ℕ → ℕ → List ℕ → ℕ → List (Message Point ℕ) → Result ℕ Refusal → State (Ciphertext Point) → Type 0
    Serves s p places words bytes steps (Ok server) s' =
        (lengths_fit (length p) places (length words) bytes ≡ true) × (at_start s ≡ true) × Permutation n p × (reaches_through s ≡ true) × (server ≡ s.server)
        × ((ss : List Setting) × Brings n T.comparators ss p × (steps ≡ honest_steps T.comparators ss words s))
        × (s' ≡ after_steps T.comparators steps s)
    Serves s p places words bytes steps (Err f) s' =
        ((why : Reason) × Unserved s p (lengths_fit (length p) places (length words) bytes) why × (f ≡ refused_at why s.next)) × (steps ≡ []) × (s' ≡ s)

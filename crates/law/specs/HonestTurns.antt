-- What an honest server's turn does to the round: every item ends where its permutation says, re-encrypted by the words of its route.
use Rattle.std.specs.Prelude.{◌≡◌, ℕ, zero, suc, ◌+◌, ◌%◌, ◌<◌, true, List, [], ◌∷◌, map, length, drop, Ok, Result, ◌≢◌, slice_index, slice_index_or}
use Rattle.board.specs.Calls.{Terms}
use Rattle.board.specs.Rounds.{blank}
use Rattle.board.specs.Serving.{honest_steps, lengths_fit, reaches_through, Serves}
use Rattle.board.specs.States.{State}
use Rattle.board.specs.declared.events.Stage.TheVariants.{Turning, Finished}
use Rattle.elgamal.specs.Ciphertexts.{reencrypted}
use Rattle.elgamal.specs.declared.Ciphertext.{Ciphertext}
use Rattle.plan.specs.Plans.{at, Permutation, Brings}
use Rattle.plan.specs.Sums.{route_sum}
use Rattle.plan.specs.declared.Setting.{Setting}
use Rattle.prover.specs.declared.states.Message.{Message}
use Rattle.refusal.specs.declared.Refusal.{Refusal}
use Rattle.law.specs.Histories.{Calls, asked, RunOfCalls, stepped}

-- Of each comparator's six secret words the two by which its outputs are re-encrypted: the first one's, and the second one's.
abbrev pub word_pairs : ℕ → List ℕ → List (ℕ × ℕ)
word_pairs zero words = []
word_pairs (suc count) words = (slice_index words 0, slice_index words 1) ∷ word_pairs count (drop 6 words)

module _ {Point : Type 0} (T : Terms Point) (n : ℕ) where
  -- a turn from s to s' in which a server routed p by these settings
  pub record ServedBy (settings : List Setting) (p words : List ℕ) (s s' : State (Ciphertext Point)) : Type 0 where
    -- Wire j has what was on wire p(j), re-encrypted by the sum of the words along its route.
    pub wires : (j : ℕ) → j < n
        → slice_index_or s'.wires j (blank T.group)
        ≡ reencrypted T.group T.key (slice_index_or s.wires (at p j) (blank T.group)) (route_sum T.comparators settings (word_pairs (length T.comparators) words) j % T.group.order)
    pub long : length s'.wires ≡ n
    pub start : s'.start ≡ s'.wires
    pub completed : s'.completed ≡ s.completed + 1
    pub servers : s'.servers ≡ s.servers
    pub next : s'.next ≡ 0
    -- the next server's turn begins, or the round is finished
    pub goes_on : (s.server ≢ s.servers) → (s'.stage ≡ Turning) × (s'.server ≡ s.server + 1)
    pub finishes : s.server ≡ s.servers → s'.stage ≡ Finished

  -- by some settings that bring p about
  abbrev pub Served : List ℕ → List ℕ → State (Ciphertext Point) → State (Ciphertext Point) → Type 0
  Served p words s s' = (settings : List Setting) × Brings n T.comparators settings p × ServedBy settings p words s s'

  -- the calls that bring an honest server's steps to a board, with the answers that take them
  abbrev pub honest_calls : List Setting → List ℕ → ℕ → State (Ciphertext Point) → Calls Point
  honest_calls settings words bytes s = stepped s.server bytes 0 T.comparators (honest_steps T T.comparators settings words s) []

  -- Step by step, from s to s': each step is taken, and whoever asks the same of the board is answered the same.
  pub record SteppedBy (settings : List Setting) (p words : List ℕ) (bytes : ℕ) (s s' : State (Ciphertext Point)) : Type 0 where
    pub taken : RunOfCalls T s (honest_calls settings words bytes s) s'
    pub only : (h : Calls Point) (other : State (Ciphertext Point)) → map asked h ≡ map asked (honest_calls settings words bytes s) → RunOfCalls T s h other
        → (h ≡ honest_calls settings words bytes s) × (other ≡ s')
    pub served : ServedBy settings p words s s'

  -- An honest turn, for a permutation p: serve takes it, and step takes each of its steps, under any settings that bring p about.
  pub record HonestTurn (p words : List ℕ) (places bytes : ℕ) (s : State (Ciphertext Point)) : Type 0 where
    pub by_serve : (steps : List (Message Point ℕ)) (r : Result ℕ Refusal) (s' : State (Ciphertext Point)) → Serves T n s p places words bytes steps r s'
        → (r ≡ Ok s.server) × Served p words s s'
    pub by_steps : (settings : List Setting) → Brings n T.comparators settings p → (s' : State (Ciphertext Point)) × SteppedBy settings p words bytes s s'

  -- at the start of any turn, with lists that fit and a source that reaches through the turn
  abbrev pub HonestTurns : State (Ciphertext Point) → Type 0
  HonestTurns s =
      s.stage ≡ Turning → s.next ≡ 0 → (p words : List ℕ) (places bytes : ℕ) → Permutation n p
      → lengths_fit T n (length p) places (length words) bytes ≡ true → reaches_through T n s ≡ true → HonestTurn p words places bytes s

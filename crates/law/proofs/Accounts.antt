-- One more step, and one more turn, at the end of what a history tells.
use Rattle.std.proofs.Common.{◌≡◌, ℕ, ◌+◌, List, [], ◌∷◌, ◌++◌, length, Some, refl, ap, ◌∙◌, arith, length-append, length-set}
use Rattle.elgamal.specs.declared.Ciphertext.{Ciphertext}
use Rattle.plan.specs.Plans.{nth}
use Rattle.plan.specs.declared.Comparator.{Comparator}
use Rattle.posting.specs.declared.comparison.Pair.{Pair}
use Rattle.prover.specs.declared.states.Message.{Message}
use Rattle.law.specs.Turns.{Turn, kept_steps, kept_past, whole, completed_turns, put, written, turn_written, turns_written}

module _ {P : Type 0} where
  pub written_more : (ms : List (Message P ℕ)) (m : Message P ℕ) (cs : List Comparator) (c : Comparator) (wires : List (Ciphertext P))
      → nth cs (length ms) ≡ Some c → written (ms ++ m ∷ []) cs wires ≡ put c m.outputs (written ms cs wires)
  written_more [] m [] c wires e = absurd (let z : ◌≡◌ {A = ℕ} 0 1 = cc in omega arith)
  written_more [] m (d ∷ cs) c wires e = let same : d ≡ c = cc in ap (λ (x : Comparator). put x m.outputs wires) same
  written_more (l ∷ ms) m [] c wires e = absurd (let z : ◌≡◌ {A = ℕ} 0 1 = cc in omega arith)
  written_more (l ∷ ms) m (d ∷ cs) c wires e = written_more ms m cs c (put d l.outputs wires) e

  pub length_put : (c : Comparator) (o : Pair P) (wires : List (Ciphertext P)) → length (put c o wires) ≡ length wires
  length_put c o wires = simp length-set

  pub length_written : (ms : List (Message P ℕ)) (cs : List Comparator) (wires : List (Ciphertext P)) → length (written ms cs wires) ≡ length wires
  length_written [] cs wires = refl
  length_written (m ∷ ms) [] wires = refl
  length_written (m ∷ ms) (c ∷ cs) wires = length_written ms cs (put c m.outputs wires) ∙ length_put c m.outputs wires

  pub turns_more : (ts : List (Turn P)) (t : Turn P) (cs : List Comparator) (wires : List (Ciphertext P))
      → turns_written (ts ++ t ∷ []) cs wires ≡ turn_written t.ending t.steps cs (turns_written ts cs wires)
  turns_more [] t cs wires = refl
  turns_more (u ∷ ts) t cs wires = turns_more ts t cs (turn_written u.ending u.steps cs wires)

  pub kept_more : (ts : List (Turn P)) (t : Turn P) → length (kept_past (ts ++ t ∷ [])) ≡ length (kept_past ts) + length (kept_steps t.ending t.steps)
  kept_more [] t = length-append (kept_steps t.ending t.steps) [] ∙ omega arith
  kept_more (u ∷ ts) t =
      length-append (kept_steps u.ending u.steps) (kept_past (ts ++ t ∷ []))
      ∙ ap (λ (i : ℕ). length (kept_steps u.ending u.steps) + i) (kept_more ts t)
      ∙ (let e = length-append (kept_steps u.ending u.steps) (kept_past ts) in omega arith)

  pub completed_more : (ts : List (Turn P)) (t : Turn P) → completed_turns (ts ++ t ∷ []) ≡ completed_turns ts + whole t.ending
  completed_more [] t = omega arith
  completed_more (u ∷ ts) t = let e = completed_more ts t in omega arith

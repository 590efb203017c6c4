-- A step, by its judgement.
use Rattle.std.proofs.Common.{◌≡◌, ℕ, zero, suc, ◌<◌, List, [], ◌∷◌, length, Some, None, Ok, Err, Option, sym, refl, subst, arith, lt-ltb}
use Rattle.elgamal.specs.declared.Ciphertext.{Ciphertext}
use Rattle.equivalence.specs.Judgement.{judge, Answered}
use Rattle.plan.specs.Plans.{nth, Within}
use Rattle.plan.specs.declared.Comparator.{Comparator}
use Rattle.prover.specs.declared.states.Message.{Message}
use Rattle.refusal.specs.Table.{refused_at}
use Rattle.refusal.specs.declared.Reason.{Reason}
use Rattle.refusal.specs.declared.Refusal.{Refusal}
use Rattle.board.specs.Calls.{Terms, judge_step, question}
use Rattle.board.specs.States.{State}
use Rattle.board.specs.Steps.{comparison_at}

-- a comparator of a plan is on two of its wires, the lower one first
pub on_wires : (n : ℕ) (cs : List Comparator) (k : ℕ) (c : Comparator) → Within n cs → Some c ≡ nth cs k → (c.first < c.second) × (c.second < n) × (k < length cs)
on_wires n [] k c w e = absurd (let z : ◌≡◌ {A = ℕ} 0 1 = cc in omega arith)
on_wires n (d ∷ cs) zero c w e =
    let same : c ≡ d = cc in
    subst (λ (x : Comparator). (x.first < x.second) × (x.second < n) × (zero < length (d ∷ cs))) (sym same) (w.0, w.1, omega arith)
on_wires n (d ∷ cs) (suc k) c w e =
    let r = on_wires n cs k c w.2 e in
    (r.0, r.1, omega (arith, r.2))

module _ {P : Type 0} (T : Terms P) (s : State (Ciphertext P)) (m : Message P ℕ) (c : Comparator) where
  pub inside : c.second < length s.wires → judge_step T s m (Some c) ≡ judge T.group T.exponents T.source (comparison_at T.key s.wires c m.outputs) m.proofs (question T s)
  inside h = simp (lt-ltb c.second (length s.wires) h)

-- what a check within its buffer answered
pub answer_ok : {X : Type 0} (o : Option Reason) (place : ℕ) (x : X) → Answered o place (Ok x) → o ≡ None
answer_ok None place x a = refl
answer_ok (Some why) place x a = absurd a

pub answer_err : (X : Type 0) (o : Option Reason) (place : ℕ) (f : Refusal) → Answered {X = X} o place (Err f) → (why : Reason) × (o ≡ Some why) × (f ≡ refused_at why place)
answer_err X None place f a = absurd a
answer_err X (Some why) place f a = (why, refl, a)

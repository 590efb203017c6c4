-- Which equation fails first, by its tests.
use Rattle.std.proofs.Common.{◌≡◌, ℕ, ◌+◌, ◌<◌, ◌≤◌, Bool, true, false, Some, None, Err, sym, ap, ◌∙◌, le-ltb, lt-ltb}
use Rattle.group.specs.Exponents.{Exponents}
use Rattle.group.specs.Operations.{Operations}
use Rattle.refusal.specs.Table.{refused_at}
use Rattle.refusal.specs.declared.Reason.TheVariants.{UnfitNumber, BeyondReach, ProductProof, ChallengeSplit, FirstBranch, SecondBranch}
use Rattle.refusal.specs.declared.Refusal.{Refusal}
use Rattle.source.specs.Words.{Words}
use Rattle.equivalence.specs.Equations.{folded_key, folded_quotient, accepted}
use Rattle.equivalence.specs.Judgement.{numbers_fit, Draws, draws, judge, equivalence_test, split_test, first_test, second_test, judge_equations, Answered}
use Rattle.posting.specs.declared.comparison.Comparison.{Comparison}
use Rattle.equivalence.specs.declared.proofs.Proofs.{Proofs}

module _ {P : Type 0} (X : Type 0) (G : Operations P) (k : Comparison P) (p : Proofs P ℕ) (d : Draws) (place : ℕ) (f : Refusal) where
  pub product_fails : equivalence_test G k p d ≡ false → f ≡ refused_at ProductProof place → Answered {X = X} (judge_equations G k p d) place (Err f)
  unfolding judge_equations
  product_fails a e = simp a e

  pub split_fails : equivalence_test G k p d ≡ true → split_test G p d ≡ false → f ≡ refused_at ChallengeSplit place → Answered {X = X} (judge_equations G k p d) place (Err f)
  unfolding judge_equations
  split_fails a b e = simp (a, b) e

  pub first_fails : equivalence_test G k p d ≡ true → split_test G p d ≡ true → first_test G k p d ≡ false → f ≡ refused_at FirstBranch place → Answered {X = X} (judge_equations G k p d) place (Err f)
  unfolding judge_equations
  first_fails a b c e = simp (a, b, c) e

  pub second_fails : equivalence_test G k p d ≡ true → split_test G p d ≡ true → first_test G k p d ≡ true → second_test G k p d ≡ false → f ≡ refused_at SecondBranch place → Answered {X = X} (judge_equations G k p d) place (Err f)
  unfolding judge_equations
  second_fails a b c s e = simp (a, b, c, s) e

module _ {P : Type 0} (G : Operations P) (k : Comparison P) (p : Proofs P ℕ) (d : Draws) where
  pub none_fails : equivalence_test G k p d ≡ true → split_test G p d ≡ true → first_test G k p d ≡ true → second_test G k p d ≡ true → judge_equations G k p d ≡ None
  unfolding judge_equations
  none_fails a b c s = simp (a, b, c, s)

  -- the branches' tests, at the folded key that was computed for both
  pub first_at : (folded : P) (r : Bool) → folded ≡ folded_key G k.key d.disjunction_z
      → r ≡ accepted G folded (folded_quotient G k.inputs.first k.outputs.first d.disjunction_z) p.disjunction.first.commitment p.disjunction.first.challenge p.disjunction.first.answer
      → first_test G k p d ≡ r
  first_at folded r e is = sym (is ∙ ap (λ f. accepted G f (folded_quotient G k.inputs.first k.outputs.first d.disjunction_z) p.disjunction.first.commitment p.disjunction.first.challenge p.disjunction.first.answer) e)

  pub second_at : (folded : P) (r : Bool) → folded ≡ folded_key G k.key d.disjunction_z
      → r ≡ accepted G folded (folded_quotient G k.inputs.first k.outputs.second d.disjunction_z) p.disjunction.second.commitment p.disjunction.second.challenge p.disjunction.second.answer
      → second_test G k p d ≡ r
  second_at folded r e is = sym (is ∙ ap (λ f. accepted G f (folded_quotient G k.inputs.first k.outputs.second d.disjunction_z) p.disjunction.second.commitment p.disjunction.second.challenge p.disjunction.second.answer) e)

-- the conditions before the equations
module _ {P : Type 0} (G : Operations P) (E : Exponents) (S : Words) (k : Comparison P) (p : Proofs P ℕ) (first : ℕ) where
  pub numbers_fail : numbers_fit E p ≡ false → judge G E S k p first ≡ Some UnfitNumber
  unfolding judge
  numbers_fail a = simp a

  pub reach_fails : numbers_fit E p ≡ true → S.reach ≤ first + 3 → judge G E S k p first ≡ Some BeyondReach
  unfolding judge
  reach_fails a h = simp (a, le-ltb (first + 3) S.reach h)

  pub equations_left : numbers_fit E p ≡ true → first + 3 < S.reach → judge G E S k p first ≡ judge_equations G k p (draws G E S k p first)
  unfolding judge
  equations_left a h = simp (a, lt-ltb (first + 3) S.reach h)

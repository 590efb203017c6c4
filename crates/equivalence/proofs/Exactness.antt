-- A comparator is taken exactly where its proofs hold.
use Rattle.std.proofs.Common.{◌≡◌, ℕ, ◌+◌, ◌^◌, ◌<◌, Bool, true, false, ltb, is_ok, Some, None, Ok, Err, Option, Result, refl, ◌∙◌, arith, ltb-true, lt-ltb, eq-eqb, eqb-true}
use Rattle.group.specs.Exponents.{Exponents}
use Rattle.group.specs.Operations.{Operations, GroupLaws}
use Rattle.posting.specs.declared.comparison.Comparison.{Comparison}
use Rattle.refusal.specs.declared.Reason.{Reason}
use Rattle.refusal.specs.declared.Reason.TheVariants.{UnfitNumber, BeyondReach, ProductProof, ChallengeSplit, FirstBranch, SecondBranch}
use Rattle.refusal.specs.declared.Refusal.{Refusal}
use Rattle.source.specs.Words.{Words}
use Rattle.equivalence.proofs.Judging.{none_fails, equations_left}
use Rattle.equivalence.proofs.SamePoint.{point_same, point_told}
use Rattle.equivalence.specs.Holding.{BranchFits, Holds}
use Rattle.equivalence.specs.Judgement.{branch_fits, numbers_fit, draws, both, unless, equivalence_test, split_test, first_test, second_test, judge_equations, judge, Answered}
use Rattle.equivalence.specs.declared.proofs.Branch.{Branch}
use Rattle.equivalence.specs.declared.proofs.Proofs.{Proofs}

some_none : {why : Reason} → ◌≡◌ {A = Option Reason} (Some why) None → ⊥
some_none {why} e = let z : ◌≡◌ {A = ℕ} 0 1 = cc in omega arith

-- where nothing fails, the condition holds, and nothing fails after it
passed : (b : Bool) (why : Reason) (rest : Option Reason) → unless b why rest ≡ None → (b ≡ true) × (rest ≡ None)
passed true why rest e = (refl, e)
passed false why rest e = absurd (some_none e)

two : (a b : Bool) → both a b ≡ true → (a ≡ true) × (b ≡ true)
two true b e = (refl, e)
two false b e = absurd (let z : ◌≡◌ {A = ℕ} 0 1 = cc in omega arith)

branch_told : {P : Type 0} (E : Exponents) (b : Branch P ℕ) → branch_fits E b ≡ true → BranchFits E b
branch_told E b e =
    let t = two (ltb b.challenge (2 ^ E.challenge_bits)) (ltb b.answer E.order) e in
    record { challenge_below = ltb-true _ _ t.0; answer_below = ltb-true _ _ t.1 }

branch_said : {P : Type 0} (E : Exponents) (b : Branch P ℕ) → BranchFits E b → branch_fits E b ≡ true
branch_said E b h = simp (lt-ltb _ _ h.challenge_below, lt-ltb _ _ h.answer_below)

numbers_said : {P : Type 0} (E : Exponents) (p : Proofs P ℕ) → p.equivalence.answer < E.order → branch_fits E p.disjunction.first ≡ true → branch_fits E p.disjunction.second ≡ true → numbers_fit E p ≡ true
numbers_said E p h a b = simp (lt-ltb _ _ h, a, b)

module _ {P : Type 0} {G : Operations P} (laws : GroupLaws G) (E : Exponents) (S : Words) (k : Comparison P) (p : Proofs P ℕ) (first : ℕ) where
  pub judged_holds : judge G E S k p first ≡ None → Holds G E S k p first
  unfolding judge judge_equations
  judged_holds e =
      let d = draws G E S k p first in
      let numbers = passed (numbers_fit E p) UnfitNumber (unless (ltb (first + 3) S.reach) BeyondReach (judge_equations G k p d)) e in
      let reach = passed (ltb (first + 3) S.reach) BeyondReach (judge_equations G k p d) numbers.1 in
      let product = passed (equivalence_test G k p d) ProductProof _ reach.1 in
      let split = passed (split_test G p d) ChallengeSplit _ product.1 in
      let one = passed (first_test G k p d) FirstBranch _ split.1 in
      let other = passed (second_test G k p d) SecondBranch None one.1 in
      let answer = two (ltb p.equivalence.answer E.order) (both (branch_fits E p.disjunction.first) (branch_fits E p.disjunction.second)) numbers.0 in
      let branches = two (branch_fits E p.disjunction.first) (branch_fits E p.disjunction.second) answer.1 in
      record {
        answer_below = ltb-true _ _ answer.0;
        first_fits = branch_told E p.disjunction.first branches.0;
        second_fits = branch_told E p.disjunction.second branches.1;
        reaches = ltb-true _ _ reach.0;
        equations = record {
          product = point_told laws _ _ product.0;
          split = eqb-true _ _ split.0;
          first_branch = point_told laws _ _ one.0;
          second_branch = point_told laws _ _ other.0;
        };
      }

  pub holds_judged : Holds G E S k p first → judge G E S k p first ≡ None
  holds_judged h =
      equations_left G E S k p first (numbers_said E p h.answer_below (branch_said E p.disjunction.first h.first_fits) (branch_said E p.disjunction.second h.second_fits)) h.reaches
      ∙ none_fails G k p (draws G E S k p first)
      (point_same laws _ _ h.equations.product) (eq-eqb _ _ h.equations.split)
      (point_same laws _ _ h.equations.first_branch) (point_same laws _ _ h.equations.second_branch)

-- what a call that was judged answers, it answers exactly
pub answered_ok : {X : Type 0} (o : Option Reason) (place : ℕ) (r : Result X Refusal) → Answered o place r → is_ok r ≡ true → o ≡ None
answered_ok None place (Ok x) a e = refl
answered_ok None place (Err f) a e = refl
answered_ok (Some why) place (Ok x) a e = absurd a
answered_ok (Some why) place (Err f) a e = absurd (let z : ◌≡◌ {A = ℕ} 0 1 = cc in omega arith)

pub ok_answered : {X : Type 0} (o : Option Reason) (place : ℕ) (r : Result X Refusal) → Answered o place r → o ≡ None → is_ok r ≡ true
ok_answered None place (Ok x) a e = refl
ok_answered None place (Err f) a e = absurd a
ok_answered (Some why) place (Ok x) a e = refl
ok_answered (Some why) place (Err f) a e = absurd (some_none e)

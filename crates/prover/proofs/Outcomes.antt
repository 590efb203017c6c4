-- What follows from a call that went well.
use Rattle.std.proofs.Common.{◌≡◌, ℕ, ◌+◌, ◌<◌, Bool, true, false, ltb, IfOk, Some, None, Ok, Err, Option, Result, refl, arith, ltb-true}
use Rattle.refusal.specs.declared.Reason.{Reason}
use Rattle.refusal.specs.declared.Reason.TheVariants.{UnfitLength, BeyondReach}
use Rattle.refusal.specs.declared.Refusal.{Refusal}
use Rattle.posting.specs.Drawing.{buffer_fits}
use Rattle.source.specs.Words.{Words}
use Rattle.group.specs.Operations.{Operations}
use Rattle.equivalence.specs.Judgement.{proofs_meaning, unless}
use Rattle.group.specs.Exponents.{Exponents}
use Rattle.plan.specs.declared.Setting.{Setting}
use Rattle.plan.specs.declared.Setting.TheVariants.{Straight, Swapped}
use Rattle.prover.specs.Honest.{answered_proofs}
use Rattle.prover.specs.States.{Outcome, unready}
use Rattle.prover.specs.declared.secrets.Secrets.{Secrets}

some_none : {why : Reason} → ◌≡◌ {A = Option Reason} (Some why) None → ⊥
some_none {why} e = let z : ◌≡◌ {A = ℕ} 0 1 = cc in omega arith

pub then_value : {X Y : Type 0} (o : Option Reason) (place : ℕ) (P : X → Type 0) (Q : Y → Type 0) (x : X) (y : Y) → Outcome o place P (Ok x) → (P x → Q y) → Outcome o place Q (Ok y)
then_value None place P Q x y p f = f p
then_value (Some why) place P Q x y p f = p

-- answered proofs of elements mean answered proofs of points
pub answered_meaning : {X P : Type 0} (point : X → P) (E : Exponents) (setting : Setting) (s : Secrets ℕ) (w w1 w2 : X) (c c' : ℕ)
    → proofs_meaning point (λ (n : ℕ). n) (answered_proofs E setting s w w1 w2 c c') ≡ answered_proofs E setting s (point w) (point w1) (point w2) c c'
answered_meaning point E Straight s w w1 w2 c c' = refl
answered_meaning point E Swapped s w w1 w2 c c' = refl

pub no_refusal : {X : Type 0} (o : Option Reason) (place : ℕ) (P : X → Type 0) (x : X) → Outcome o place P (Ok x) → (o ≡ None) × P x
no_refusal None place P x p = (refl, p)
no_refusal (Some why) place P x p = absurd p

pub value_made : {X : Type 0} (o : Option Reason) (place : ℕ) (P Q : X → Type 0) (r : Result X Refusal) → Outcome o place P r → ((x : X) → P x → Q x) → IfOk r Q
value_made None place P Q (Ok x) p f = f x p
value_made None place P Q (Err e) p f = tt
value_made (Some why) place P Q (Ok x) p f = absurd p
value_made (Some why) place P Q (Err e) p f = tt

-- a comparator that is not kept from its draws has a source that reaches them
pub ready_reaches : {P : Type 0} (G : Operations P) (S : Words) (question bytes : ℕ) → unready G S question bytes ≡ None → question + 3 < S.reach
ready_reaches G S question bytes e = go (buffer_fits G bytes) (ltb (question + 3) S.reach) (ltb-true (question + 3) S.reach) e
  where
    go : (a b : Bool) → (b ≡ true → question + 3 < S.reach) → unless a UnfitLength (unless b BeyondReach None) ≡ None → question + 3 < S.reach
    go true true h e = h refl
    go true false h e = absurd (some_none e)
    go false b h e = absurd (some_none e)

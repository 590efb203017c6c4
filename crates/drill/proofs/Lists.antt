-- What lists of witnesses have where none is refused: each is fit, no two have one z.
use Rattle.std.proofs.Common.{◌≡◌, ℕ, ◌+◌, Bool, true, false, eqb, List, [], ◌∷◌, ◌++◌, map, length, Some, None, Option, sym, refl, ◌∙◌, eqb-true}
use borrow.Author.Tests.{eqb-false}
use Rattle.equivalence.specs.Judgement.{unless}
use Rattle.group.specs.Exponents.{Exponents}
use Rattle.group.specs.Operations.{Operations}
use Rattle.plan.specs.declared.Setting.{Setting}
use Rattle.plan.specs.declared.Setting.TheVariants.{Straight, Swapped}
use Rattle.posting.specs.declared.comparison.Comparison.{Comparison}
use Rattle.refusal.specs.Table.{refused_at}
use Rattle.refusal.specs.declared.Reason.{Reason}
use Rattle.refusal.specs.declared.Reason.TheVariants.{EqualDraws, UnfitWitnessCount}
use Rattle.refusal.specs.declared.Refusal.{Refusal}
use Rattle.witness.specs.Refusals.{both, or_else, at_place, stands, repeated, judged, draws, judge_equivalence, judge_disjunctive, equivalence_refusal, disjunctive_refusal, first_refusal}
use Rattle.witness.proofs.Judging.{neither}
use Rattle.witness.specs.Samples.{same_setting, on_branch}
use Rattle.witness.specs.Witnesses.{EquivalenceWitness, DisjunctiveWitness}
use Rattle.witness.specs.declared.posted.Witness.{Witness}
use Rattle.witness.specs.declared.samples.Drawn.{Drawn}
use Rattle.witness.specs.declared.samples.Sample.{Sample}

abbrev pub All : {A : Type 0} → (A → Type 0) → List A → Type 0
All Q [] = Unit {0}
All Q (x ∷ xs) = Q x × All Q xs

abbrev pub Pairwise : {A : Type 0} → (A → A → Type 0) → List A → Type 0
Pairwise R [] = Unit {0}
Pairwise R (x ∷ xs) = All (R x) xs × Pairwise R xs

pub all_since : {A : Type 0} {Q R : A → Type 0} → ((x : A) → Q x → R x) → (xs : List A) → All Q xs → All R xs
all_since f [] h = tt
all_since f (x ∷ xs) h = (f x h.0, all_since f xs h.1)

pub all_mapped : {A B : Type 0} {Q : A → Type 0} (R : B → Type 0) (f : A → B) → ((x : A) → Q x → R (f x)) → (xs : List A) → All Q xs → All R (map f xs)
all_mapped R f g [] h = tt
all_mapped R f g (x ∷ xs) h = (g x h.0, all_mapped R f g xs h.1)

pub both_parts : (a b : Bool) → both a b ≡ true → (a ≡ true) × (b ≡ true)
both_parts true b e = (refl, e)
both_parts false b e = cc

pub judged_all : {W : Type 0} (judge : W → Option Reason) (place : ℕ) (ws : List W) → judged judge place ws ≡ None → All (λ w. judge w ≡ None) ws
judged_all judge place [] e = tt
judged_all {W} judge place (w ∷ ws) e = go (judge w) refl e (judged_all judge (place + 1) ws)
  where
    go : (o : Option Reason) → judge w ≡ o → or_else (at_place place o) (judged judge (place + 1) ws) ≡ None
        → (judged judge (place + 1) ws ≡ None → All (λ w. judge w ≡ None) ws) → (judge w ≡ None) × All (λ w. judge w ≡ None) ws
    go None p e rest = (p, rest e)
    go (Some why) p e rest = cc

stands_append : (y : ℕ) (l : List ℕ) (z : ℕ) → stands y (l ++ (z ∷ [])) ≡ false → (stands y l ≡ false) × (y ≡ z → ⊥)
unfolding stands
stands_append y [] z e = go (eqb y z) refl e
  where
    go : (b : Bool) → eqb y z ≡ b → (elim b [ true ↦ true | false ↦ false ]) ≡ false → (false ≡ false) × (y ≡ z → ⊥)
    go true p e = cc
    go false p e = (refl, eqb-false y z p)
stands_append y (m ∷ l) z e = go (eqb y m) e (stands_append y l z)
  where
    go : (b : Bool) → (elim b [ true ↦ true | false ↦ stands y (l ++ (z ∷ [])) ]) ≡ false
        → (stands y (l ++ (z ∷ [])) ≡ false → (stands y l ≡ false) × (y ≡ z → ⊥))
        → ((elim b [ true ↦ true | false ↦ stands y l ]) ≡ false) × (y ≡ z → ⊥)
    go true e rest = cc
    go false e rest = rest e

-- nothing repeated: no two are equal
pub all_apart : (place : ℕ) (earlier zs : List ℕ) → repeated place earlier zs ≡ None → All (λ z. stands z earlier ≡ false) zs × Pairwise (λ z y. z ≡ y → ⊥) zs
unfolding repeated
all_apart place earlier [] e = (tt, tt)
all_apart place earlier (z ∷ zs) e = go (stands z earlier) refl e (all_apart (place + 1) (earlier ++ (z ∷ [])) zs)
  where
    go : (b : Bool) → stands z earlier ≡ b → ◌≡◌ {A = Option Refusal} (elim b [ true ↦ Some (refused_at EqualDraws place) | false ↦ repeated (place + 1) (earlier ++ (z ∷ [])) zs ]) None
        → (repeated (place + 1) (earlier ++ (z ∷ [])) zs ≡ None → All (λ y. stands y (earlier ++ (z ∷ [])) ≡ false) zs × Pairwise (λ z y. z ≡ y → ⊥) zs)
        → All (λ z. stands z earlier ≡ false) (z ∷ zs) × Pairwise (λ z y. z ≡ y → ⊥) (z ∷ zs)
    go true p e rest = cc
    go false p e rest =
        let r = rest e in
        ((p, all_since (λ y h. (stands_append y earlier z h).0) zs r.0), (all_since (λ y h e. (stands_append y earlier z h).1 (sym e)) zs r.0, r.1))

-- the same of whatever has the witnesses' z
module _ {T B : Type 0} (f : Witness ℕ T → B) (z_of : B → ℕ) (is : (w : Witness ℕ T) → z_of (f w) ≡ w.z) where
  apart_from : (w : Witness ℕ T) (ws : List (Witness ℕ T)) → All (λ y. w.z ≡ y → ⊥) (draws (λ n. n) ws) → All (λ b. z_of (f w) ≡ z_of b → ⊥) (map f ws)
  apart_from w [] h = tt
  apart_from w (v ∷ ws) h = (λ e. h.0 (sym (is w) ∙ e ∙ is v), apart_from w ws h.1)

  pub draws_apart : (ws : List (Witness ℕ T)) → Pairwise (λ z y. z ≡ y → ⊥) (draws (λ n. n) ws) → Pairwise (λ a b. z_of a ≡ z_of b → ⊥) (map f ws)
  draws_apart [] h = tt
  draws_apart (w ∷ ws) h = (apart_from w ws h.0, draws_apart ws h.1)

-- those of one branch have what all have
placed : (Q : Setting → Sample ℕ → Type 0) (s t : Setting) (x : Sample ℕ) (l : List (Sample ℕ)) → Q t x → All (Q s) l
    → All (Q s) (elim (same_setting s t) [ true ↦ x ∷ l | false ↦ l ])
placed Q Straight Straight x l h rest = (h, rest)
placed Q Straight Swapped x l h rest = rest
placed Q Swapped Straight x l h rest = rest
placed Q Swapped Swapped x l h rest = (h, rest)

pub branch_all : (Q : Setting → Sample ℕ → Type 0) (s : Setting) (ds : List (Drawn ℕ)) → All (λ d. Q d.setting d.sample) ds → All (Q s) (on_branch s ds)
branch_all Q s [] h = tt
branch_all Q s (d ∷ ds) h = placed Q s d.setting d.sample (on_branch s ds) h.0 (branch_all Q s ds h.1)

paired : (R : Sample ℕ → Sample ℕ → Type 0) (s t : Setting) (x : Sample ℕ) (l : List (Sample ℕ)) → All (R x) l → Pairwise R l
    → Pairwise R (elim (same_setting s t) [ true ↦ x ∷ l | false ↦ l ])
paired R Straight Straight x l h rest = (h, rest)
paired R Straight Swapped x l h rest = rest
paired R Swapped Straight x l h rest = rest
paired R Swapped Swapped x l h rest = (h, rest)

pub branch_pairwise : (R : Sample ℕ → Sample ℕ → Type 0) (s : Setting) (ds : List (Drawn ℕ)) → Pairwise (λ d e. R d.sample e.sample) ds → Pairwise R (on_branch s ds)
branch_pairwise R s [] h = tt
branch_pairwise R s (d ∷ ds) h =
    paired R s d.setting d.sample (on_branch s ds) (branch_all (λ t x. R d.sample x) s ds h.0) (branch_pairwise R s ds h.1)

-- no refusal at all, taken apart
module _ {P : Type 0} (G : Operations P) (E : Exponents) (k : Comparison P) (W : List (EquivalenceWitness P)) (V : List (DisjunctiveWitness P)) where
  pub record Unrefused : Type 0 where
    pub three : length W ≡ 3
    pub five : length V ≡ 5
    pub equivalence_draws : Pairwise (λ z y. z ≡ y → ⊥) (draws (λ n. n) W)
    pub equivalence_judged : All (λ w. judge_equivalence G E k w ≡ None) W
    pub disjunctive_draws : Pairwise (λ z y. z ≡ y → ⊥) (draws (λ n. n) V)
    pub disjunctive_judged : All (λ w. judge_disjunctive G E k w ≡ None) V

  counted_well : (t : Bool) → at_place 0 (unless t UnfitWitnessCount None) ≡ None → t ≡ true
  counted_well true e = refl
  counted_well false e = cc

  pub unrefused : first_refusal G E k W V ≡ None → Unrefused
  unfolding first_refusal equivalence_refusal disjunctive_refusal
  unrefused e =
      let a = neither (at_place 0 (unless (both (eqb (length W) 3) (eqb (length V) 5)) UnfitWitnessCount None)) _ e in
      let counts = both_parts (eqb (length W) 3) (eqb (length V) 5) (counted_well _ a.0) in
      let b = neither (equivalence_refusal G E k W) (disjunctive_refusal G E k V) a.1 in
      let c = neither (repeated 0 [] (draws (λ n. n) W)) (judged (judge_equivalence G E k) 0 W) b.0 in
      let d = neither (repeated 3 [] (draws (λ n. n) V)) (judged (judge_disjunctive G E k) 3 V) b.1 in
      record {
        three = eqb-true (length W) 3 counts.0;
        five = eqb-true (length V) 5 counts.1;
        equivalence_draws = (all_apart 0 [] (draws (λ n. n) W) c.0).1;
        equivalence_judged = judged_all (judge_equivalence G E k) 0 W c.1;
        disjunctive_draws = (all_apart 3 [] (draws (λ n. n) V) d.0).1;
        disjunctive_judged = judged_all (judge_disjunctive G E k) 3 V d.1;
      }

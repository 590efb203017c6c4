-- The samples of a branch: how many there are, and the first three of them.
use Rattle.std.proofs.Common.{◌≡◌, ℕ, suc, ◌+◌, ◌<◌, ◌≤◌, Bool, true, false, List, [], ◌∷◌, length, Some, None, Option, IsSome, ◌⊎◌, inl, inr, refl, ap, arith, le-leb}
use borrow.Author.Tests.{lt-leb}
use Rattle.std.proofs.lemmas.Bool.{cases_lt}
use Rattle.std.specs.List.{filter_map, cons_option}
use Rattle.std.specs.Option.{option_map, option_or}
use Rattle.plan.specs.declared.Setting.{Setting}
use Rattle.plan.specs.declared.Setting.TheVariants.{Straight, Swapped}
use Rattle.witness.specs.Samples.{same_setting, sample_on, on_branch, majority, first_three, three_of, three_on, chosen}
use Rattle.witness.specs.declared.samples.Drawn.{Drawn}
use Rattle.witness.specs.declared.samples.Sample.{Sample}

-- those that are of the branch
pub picked : (s : Setting) (ds : List (Drawn ℕ)) → filter_map (sample_on s) ds ≡ on_branch s ds
picked s [] = refl
picked s (d ∷ ds) = go (same_setting s d.setting) (picked s ds)
  where
    go : (b : Bool) → filter_map (sample_on s) ds ≡ on_branch s ds
        → cons_option (elim b [ true ↦ Some d.sample | false ↦ None ]) (filter_map (sample_on s) ds) ≡ elim b [ true ↦ d.sample ∷ on_branch s ds | false ↦ on_branch s ds ]
    go true e = ap (λ l. d.sample ∷ l) e
    go false e = e

-- each is of one branch
pub counted : (ds : List (Drawn ℕ)) → length (on_branch Straight ds) + length (on_branch Swapped ds) ≡ length ds
counted [] = refl
counted (d ∷ ds) = go d.setting (counted ds)
  where
    go : (s : Setting) → length (on_branch Straight ds) + length (on_branch Swapped ds) ≡ length ds
        → length {A = Sample ℕ} (elim (same_setting Straight s) [ true ↦ d.sample ∷ on_branch Straight ds | false ↦ on_branch Straight ds ])
        + length {A = Sample ℕ} (elim (same_setting Swapped s) [ true ↦ d.sample ∷ on_branch Swapped ds | false ↦ on_branch Swapped ds ]) ≡ suc (length ds)
    go Straight ih = omega arith
    go Swapped ih = omega arith

-- three or more
pub enough : (l : List (Sample ℕ)) → 3 ≤ length l → three_of l ≡ Some (first_three l)
enough [] h = absurd (omega arith)
enough (a ∷ []) h = absurd (omega arith)
enough (a ∷ (b ∷ [])) h = absurd (omega arith)
enough (a ∷ (b ∷ (c ∷ l))) h = refl

pub too_few : (l : List (Sample ℕ)) → length l < 3 → three_of l ≡ None
too_few [] h = refl
too_few (a ∷ []) h = refl
too_few (a ∷ (b ∷ [])) h = refl
too_few (a ∷ (b ∷ (c ∷ l))) h = absurd (omega arith)

-- what is there, by what it means
pub some_meant : {A B : Type 0} (f : A → B) (o : Option A) {y : B} → option_map f o ≡ Some y → IsSome o
some_meant f None e = cc
some_meant f (Some x) e = refl

-- of five, one branch has three
pub branch_chosen : (ds : List (Drawn ℕ)) → length ds ≡ 5 → option_or (three_on Straight ds) (three_on Swapped ds) ≡ Some (chosen ds)
unfolding chosen
branch_chosen ds five = go (cases_lt (length (on_branch Straight ds)) 3)
  where
    go : (length (on_branch Straight ds) < 3) ⊎ (3 ≤ length (on_branch Straight ds)) → option_or (three_on Straight ds) (three_on Swapped ds)
        ≡ Some (record { setting = majority ds; samples = first_three (on_branch (majority ds) ds) })
    go (inl few) =
        let all = counted ds in
        let m : majority ds ≡ Swapped = ap (λ b. elim b [ true ↦ Straight | false ↦ Swapped ]) (lt-leb 3 _ few) in
        rw (m, too_few (on_branch Straight ds) few, enough (on_branch Swapped ds) (omega arith))
    go (inr three) =
        let m : majority ds ≡ Straight = ap (λ b. elim b [ true ↦ Straight | false ↦ Swapped ]) (le-leb 3 _ three) in
        rw (m, enough (on_branch Straight ds) three)

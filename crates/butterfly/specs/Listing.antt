-- The butterfly: the places in pairs, the whole plan on the even places, the whole plan on the odd places, and the
-- places in pairs again, without the first pair. It is stated over a list of places v0 v1 v2 and on.
-- `range_with_len a n` is the list of the n numbers from a on.
use Rattle.std.specs.Prelude.{◌≡◌, ℕ, zero, suc, ◌^◌, ◌≤◌, List, [], ◌∷◌, ◌++◌, drop, ◌≢◌}
use Rattle.std.specs.List.{range_with_len}
use Rattle.refusal.specs.declared.Refusal.{Refusal}
use Rattle.refusal.specs.declared.Reason.TheVariants.{UnfitWires}
use Rattle.refusal.specs.Table.{refused_at}
use Rattle.plan.specs.declared.Comparator.{Comparator}
use Rattle.plan.specs.Plans.{on}

-- (v0, v1), (v2, v3) and on; a last place alone is in no pair
unfoldable pub pairs : List ℕ → List Comparator
pairs [] = []
pairs (x ∷ []) = []
pairs (x ∷ (y ∷ v)) = on x y ∷ pairs v

-- v0, v2 and on, the first of each pair
unfoldable pub evens : List ℕ → List ℕ
evens [] = []
evens (x ∷ []) = []
evens (x ∷ (y ∷ v)) = x ∷ evens v

-- v1, v3 and on, the second of each pair; a last place alone is with these
unfoldable pub odds : List ℕ → List ℕ
odds [] = []
odds (x ∷ []) = x ∷ []
odds (x ∷ (y ∷ v)) = y ∷ odds v

-- the butterfly over 2 ^ k places: one place has no comparator
unfoldable pub butterfly_over : ℕ → List ℕ → List Comparator
butterfly_over zero v = []
butterfly_over (suc k) v = pairs v ++ (butterfly_over k (evens v) ++ (butterfly_over k (odds v) ++ pairs (drop 2 v)))

-- the butterfly over the wires 0, 1 and on, 2 ^ k of them
abbrev pub butterfly : ℕ → List Comparator
butterfly k = butterfly_over k (range_with_len 0 (2 ^ k))

-- a width is refused that is no power of two from 2 to 64
abbrev pub Unfit : ℕ → Refusal → Type 0
Unfit n e = ((k : ℕ) → 1 ≤ k → k ≤ 6 → 2 ^ k ≢ n) × (e ≡ refused_at UnfitWires 0)

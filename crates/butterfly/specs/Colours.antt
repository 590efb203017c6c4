-- How each item is given a half. The ends of the two items that start side by side are partners: they go through
-- different halves, and so do the two ends of a pair. To find such halves, the pairs are taken out, last first,
-- joining the partners of the two ends of each; then, first pair first, each pair is given its halves.
use Rattle.std.specs.Prelude.{◌≡◌, ℕ, zero, suc, ◌+◌, ◌-◌, ◌*◌, ◌%◌, ◌<◌, ◌≤◌, cond, List, length, ◌≢◌, nat_lt, slice_index_or, slice_set}
use Rattle.plan.specs.Plans.{at}
use Rattle.butterfly.specs.declared.Half.{Half}
use Rattle.butterfly.specs.declared.Half.TheVariants.{Even}
use Rattle.butterfly.specs.Halves.{other, sides}

-- the other wire of a wire's pair
abbrev pub neighbour : ℕ → ℕ
neighbour y = y + 1 - 2 * (y % 2)

-- the end of the item that starts beside the item which ends on x
abbrev pub partner : (ℕ → ℕ) → (ℕ → ℕ) → ℕ → ℕ
partner p q x = q (neighbour (p x))

-- t makes partners of the numbers below 2 * j, two and two
pub record Matching (j : ℕ) (t : ℕ → ℕ) : Type 0 where
  pub within : (x : ℕ) → x < 2 * j → t x < 2 * j
  pub apart : (x : ℕ) → x < 2 * j → t x ≢ x
  pub twice : (x : ℕ) → x < 2 * j → t (t x) ≡ x

-- c gives the two of each pair, and two partners, a 0 and a 1; the first is given 0
pub record Coloured (j : ℕ) (t c : ℕ → ℕ) : Type 0 where
  pub first : c 0 ≡ 0
  pub neighbours : (i : ℕ) → i < j → c (2 * i) + c (2 * i + 1) ≡ 1
  pub partners : (x : ℕ) → x < 2 * j → c x + c (t x) ≡ 1

-- the half of the first end of pair j: the other than its partner's, if that is of an earlier pair
abbrev pub first_half : List ℕ → ℕ → List Half → Half
first_half t j c = cond (nat_lt (at t (2 * j)) (2 * j)) (other (slice_index_or c (at t (2 * j)) Even)) Even

-- the halves with those of pair j
abbrev pub assign : List ℕ → ℕ → List Half → List Half
assign t j c = slice_set (slice_set c (2 * j) (first_half t j c)) (2 * j + 1) (other (first_half t j c))

-- the halves with those of the r pairs from j on
unfoldable pub assigned : List ℕ → ℕ → ℕ → List Half → List Half
assigned t j zero c = c
assigned t j (suc r) c = assigned t (j + 1) r (assign t j c)

-- halves that do for t below 2 * j, with the other pairs assigned, do for o
abbrev pub Contracted : ℕ → ℕ → List ℕ → (ℕ → ℕ) → Type 0
Contracted j m t o =
    (c : List Half) → 2 * m ≤ length c → Coloured j (at t) (sides c) → Coloured m o (sides (assigned t j (m - j) c))

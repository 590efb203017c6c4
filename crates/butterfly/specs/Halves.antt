-- The two halves of a butterfly, by numbers: what is on place x of the even half is on wire 2 * x, of the odd half on
-- wire 2 * x + 1. An item goes through one half, and the two items of a pair through different ones.
use Rattle.std.specs.Prelude.{◌≡◌, ℕ, zero, suc, ◌+◌, ◌-◌, ◌*◌, ◌/◌, ◌^◌, ◌<◌, cond, List, [], ◌++◌, map, length, ◌==◌, slice_index_or}
use Rattle.std.specs.List.{range_with_len}
use Rattle.plan.specs.declared.Setting.{Setting}
use Rattle.plan.specs.declared.Setting.TheVariants.{Straight, Swapped}
use Rattle.plan.specs.declared.Comparator.{Comparator}
use Rattle.plan.specs.Plans.{on, source, Inverse}
use Rattle.butterfly.specs.declared.Half.{Half}
use Rattle.butterfly.specs.declared.Half.TheVariants.{Even, Odd}

-- a half's number
abbrev pub side : Half → ℕ
side Even = 0
side Odd = 1

abbrev pub other : Half → Half
other Even = Odd
other Odd = Even

-- the number of the half in each place of a table
abbrev pub sides : List Half → ℕ → ℕ
sides hs x = side (slice_index_or hs x Even)

-- the pair of the wires 2 * i and 2 * i + 1, and a comparator of a half on the wires of the whole
abbrev pub pair : ℕ → Comparator
pair i = on (2 * i) (2 * i + 1)

abbrev pub in_half : ℕ → Comparator → Comparator
in_half s c = on (2 * c.first + s) (2 * c.second + s)

-- the butterfly over 2 ^ k wires by numbers, from that of its halves
abbrev pub doubled : List Comparator → ℕ → List Comparator
doubled cs m = map pair (range_with_len 0 m) ++ (map (in_half 0) cs ++ (map (in_half 1) cs ++ map pair (range_with_len 1 (m - 1))))

unfoldable pub network : ℕ → List Comparator
network zero = []
network (suc k) = doubled (network k) (2 ^ k)

-- the butterfly over 2 ^ k wires has m pairs, two halves over 2 ^ j wires with n comparators each, and m - 1 pairs
pub record IsInParts (k j m n : ℕ) : Type 0 where
  pub smaller : j < k
  pub wires : 2 ^ k ≡ 2 * m
  pub listing : network k ≡ doubled (network j) m
  pub count : length (network k) ≡ m + 2 * n + (m - 1)

-- how a pair is set whose first item goes through the half s
abbrev pub setting_for : ℕ → Setting
setting_for s = cond (s == 1) Swapped Straight

-- the settings of one layer of pairs, from pair a on, m of them
abbrev pub layer : (ℕ → ℕ) → ℕ → ℕ → List Setting
layer c a m = map (λ i. setting_for (c (2 * i))) (range_with_len a m)

-- p, of 2 * m wires, with its inverse q; c says through which half the item that ends on a wire goes, d the same of
-- the item that starts on a wire
pub record Halved (m : ℕ) (p q c d : ℕ → ℕ) : Type 0 where
  pub inverse : Inverse (2 * m) p q
  pub agree : (x : ℕ) → x < 2 * m → c x ≡ d (p x)
  pub ends : (i : ℕ) → i < m → c (2 * i) + c (2 * i + 1) ≡ 1
  pub starts : (i : ℕ) → i < m → d (2 * i) + d (2 * i + 1) ≡ 1

-- the wire of pair i that is in half s
abbrev pub member : (ℕ → ℕ) → ℕ → ℕ → ℕ
member c s i = cond (c (2 * i) == s) (2 * i) (2 * i + 1)

-- what p is on half s
abbrev pub half_of : (ℕ → ℕ) → (ℕ → ℕ) → ℕ → ℕ → ℕ
half_of p c s i = p (member c s i) / 2

-- under these settings the butterfly over 2 ^ k wires sends to wire x the item of wire p x
abbrev pub Sends : ℕ → List Setting → (ℕ → ℕ) → Type 0
Sends k ss p = (x : ℕ) → x < 2 ^ k → source (network k) ss x ≡ p x

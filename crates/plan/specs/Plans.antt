-- Plans: comparators on wires, their settings, and what they bring about.
-- Wires are numbered from 0, and an item stands on each. `range_with_len a n` is the list of the n numbers from a on.
use Rattle.std.specs.Prelude.{◌≡◌, ℕ, zero, suc, ◌<◌, ◌≤◌, cond, List, [], ◌∷◌, length, Some, None, Ok, Err, Option, Result, ◌==◌, ◌≢◌, slice_index}
use Rattle.std.specs.List.{range_with_len, swap}
use Rattle.refusal.specs.declared.Refusal.{Refusal}
use Rattle.refusal.specs.declared.Reason.TheVariants.{UnfitLength, NoPermutation}
use Rattle.refusal.specs.Table.{refused_at}
use Rattle.plan.specs.declared.Setting.{Setting}
use Rattle.plan.specs.declared.Setting.TheVariants.{Straight, Swapped}
use Rattle.plan.specs.declared.Comparator.{Comparator}

-- the comparator on the wires a and b
abbrev pub on : ℕ → ℕ → Comparator
on a b = record { first = a; second = b }

-- the number by which a setting is written
abbrev pub setting_number : Setting → ℕ
setting_number Straight = 0
setting_number Swapped = 1

-- the items after one comparator: swapped, those of its two wires change places
abbrev pub applied : {X : Type 0} → Comparator → Setting → List X → List X
applied c Straight xs = xs
applied c Swapped xs = swap xs c.first c.second

-- the items after a plan's comparators, in order, each under its setting
unfoldable pub run : {X : Type 0} → List Comparator → List Setting → List X → List X
run [] ss xs = xs
run (c ∷ cs) [] xs = xs
run (c ∷ cs) (s ∷ ss) xs = run cs ss (applied c s xs)

-- the settings, one for each comparator, bring p about: run on the numbers of the n wires, the plan leaves p,
-- so that entry j of p is the wire on which the item started that ends on wire j
pub record Brings (n : ℕ) (cs : List Comparator) (ss : List Setting) (p : List ℕ) : Type 0 where
  pub count : length ss ≡ length cs
  pub brought : run cs ss (range_with_len 0 n) ≡ p

-- entry x of a list of numbers
abbrev pub at : List ℕ → ℕ → ℕ
at xs x = slice_index xs x

-- the n numbers below n, each once, in any order
pub record Permutation (n : ℕ) (p : List ℕ) : Type 0 where
  pub long : length p ≡ n
  pub below : (x : ℕ) → x < n → at p x < n
  pub distinct : (x y : ℕ) → x < n → y < n → at p x ≡ at p y → x ≡ y

-- each comparator is on two of n wires, the lower one first
abbrev pub Within : ℕ → List Comparator → Type 0
Within n [] = Unit {0}
Within n (c ∷ cs) = (c.first < c.second) × (c.second < n) × Within n cs

-- what makes a list of comparators a plan over n wires
pub record Lawful (n : ℕ) (cs : List Comparator) : Type 0 where
  pub wide : 2 ≤ n
  pub narrow : n ≤ 64
  pub some : 1 ≤ length cs
  pub few : length cs ≤ 4096
  pub within : Within n cs
  pub routes : (p : List ℕ) → Permutation n p → (ss : List Setting) × Brings n cs ss p

-- the element at a place, where there is one
abbrev pub nth : {X : Type 0} → List X → ℕ → Option X
nth [] k = None
nth (x ∷ xs) zero = Some x
nth (x ∷ xs) (suc k) = nth xs k

-- why a route is refused: first where one of the lists has the wrong length, then where p is no permutation
pub record Unrouted (n : ℕ) (cs : List Comparator) (p : List ℕ) (places : List Setting) (e : Refusal) : Type 0 where
  pub lengths : (length p ≡ n → length places ≢ length cs) → e ≡ refused_at UnfitLength 0
  pub entries : length p ≡ n → length places ≡ length cs → (Permutation n p → ⊥) × (e ≡ refused_at NoPermutation 0)

-- what routing p answers, with the settings that stood in the lent places before and those that stand there after
abbrev pub Routed : ℕ → List Comparator → List ℕ → List Setting → List Setting → Result Unit Refusal → Type 0
Routed n cs p before after (Ok _) = Permutation n p × Brings n cs after p
Routed n cs p before after (Err e) = (after ≡ before) × Unrouted n cs p before e

-- what running answers, with the items before and after
abbrev pub Ran : {X : Type 0} → ℕ → List Comparator → List Setting → List X → List X → Result Unit Refusal → Type 0
Ran n cs ss before after (Ok _) = (length ss ≡ length cs) × (length before ≡ n) × (after ≡ run cs ss before)
Ran n cs ss before after (Err e) =
    (length ss ≡ length cs → length before ≢ n) × (after ≡ before) × (e ≡ refused_at UnfitLength 0)

-- p takes the numbers below n to each other, and q takes them back
pub record Inverse (n : ℕ) (p q : ℕ → ℕ) : Type 0 where
  pub to : (x : ℕ) → x < n → p x < n
  pub fro : (x : ℕ) → x < n → q x < n
  pub back : (x : ℕ) → x < n → q (p x) ≡ x
  pub forth : (x : ℕ) → x < n → p (q x) ≡ x

-- p is a permutation of n wires, of at most 64, with tables of its entries and of its inverse
pub record Tabled (n : ℕ) (p entries inverse : List ℕ) : Type 0 where
  pub narrow : n ≤ 64
  pub permutation : Permutation n p
  pub same : (x : ℕ) → x < n → at entries x ≡ at p x
  pub back : Inverse n (at p) (at inverse)

-- why p is refused as a permutation of n wires: first for its length, or for more than 64 wires, then for its entries
pub record Misread (n : ℕ) (p : List ℕ) (e : Refusal) : Type 0 where
  pub lengths : (length p ≡ n → n ≤ 64 → ⊥) → e ≡ refused_at UnfitLength 0
  pub entries : length p ≡ n → n ≤ 64 → (Permutation n p → ⊥) × (e ≡ refused_at NoPermutation 0)

-- the other wire of a comparator, for one of its two wires
abbrev pub crossed : Comparator → ℕ → ℕ
crossed c x = cond (x == c.first) c.second (cond (x == c.second) c.first x)

-- the wire on which the item that leaves a comparator on wire x came to it
abbrev pub came_from : Comparator → Setting → ℕ → ℕ
came_from c Straight x = x
came_from c Swapped x = crossed c x

-- the wire on which the item started that ends on wire x
unfoldable pub source : List Comparator → List Setting → ℕ → ℕ
source [] ss x = x
source (c ∷ cs) [] x = x
source (c ∷ cs) (s ∷ ss) x = came_from c s (source cs ss x)

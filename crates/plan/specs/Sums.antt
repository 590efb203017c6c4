-- Comparators that also change the items which pass them, by a word for each way out, and what an item has taken in
-- all when it is at its end.
use Rattle.std.specs.Prelude.{◌≡◌, ℕ, ◌+◌, ◌<◌, cond, List, [], ◌∷◌, length, ◌==◌, slice_index_or, slice_set}
use Rattle.plan.specs.declared.Setting.{Setting}
use Rattle.plan.specs.declared.Setting.TheVariants.{Straight, Swapped}
use Rattle.plan.specs.declared.Comparator.{Comparator}
use Rattle.plan.specs.Plans.{Within, Brings, at, source}

-- the items after one comparator with its two words: what leaves on the first wire is changed by the first word,
-- what leaves on the second wire by the second. (d stands for an item past the end of the list.)
abbrev pub changed : {X : Type 0} → (X → ℕ → X) → X → Comparator → Setting → ℕ × ℕ → List X → List X
changed act d c Straight w xs =
    slice_set (slice_set xs c.first (act (slice_index_or xs c.first d) w.0)) c.second (act (slice_index_or xs c.second d) w.1)
changed act d c Swapped w xs =
    slice_set (slice_set xs c.first (act (slice_index_or xs c.second d) w.0)) c.second (act (slice_index_or xs c.first d) w.1)

-- the items after a plan's comparators, each under its setting and with its two words
unfoldable pub run_changing : {X : Type 0} → (X → ℕ → X) → X → List Comparator → List Setting → List (ℕ × ℕ) → List X → List X
run_changing act d [] ss ws xs = xs
run_changing act d (c ∷ cs) [] ws xs = xs
run_changing act d (c ∷ cs) (s ∷ ss) [] xs = xs
run_changing act d (c ∷ cs) (s ∷ ss) (w ∷ ws) xs = run_changing act d cs ss ws (changed act d c s w xs)

-- the word that an item takes which is on wire x after the comparator: none where it did not pass it
abbrev pub word_taken : Comparator → ℕ × ℕ → ℕ → ℕ
word_taken c w x = cond (x == c.first) w.0 (cond (x == c.second) w.1 0)

-- the sum of the words along the route of the item that ends on wire x
unfoldable pub route_sum : List Comparator → List Setting → List (ℕ × ℕ) → ℕ → ℕ
route_sum [] ss ws x = 0
route_sum (c ∷ cs) [] ws x = 0
route_sum (c ∷ cs) (s ∷ ss) [] x = 0
route_sum (c ∷ cs) (s ∷ ss) (w ∷ ws) x = word_taken c w (source cs ss x) + route_sum cs ss ws x

-- a change by 0 is none, and two changes are one by the sum
pub record Adds {X : Type 0} (act : X → ℕ → X) : Type 0 where
  pub none : (x : X) → act x 0 ≡ x
  pub both : (x : X) (m n : ℕ) → act (act x m) n ≡ act x (m + n)

-- where the settings bring p about, wire j ends with the item of the wire that entry j of p names, changed by the sum
-- of the words along its route
abbrev pub SumsAlongRoutes : (X : Type 0) → Type 0
SumsAlongRoutes X =
    (act : X → ℕ → X) → Adds act → (d : X) (n : ℕ) (cs : List Comparator) (ss : List Setting) (ws : List (ℕ × ℕ)) (p : List ℕ)
    (xs : List X) → Within n cs → Brings n cs ss p → length ws ≡ length cs → length xs ≡ n → (j : ℕ) → j < n →
    slice_index_or (run_changing act d cs ss ws xs) j d ≡ act (slice_index_or xs (at p j) d) (route_sum cs ss ws j)

-- what following the item back that ends on wire j answers: the item of the wire on which it started, and the sum of
-- its words
pub record Followed {X : Type 0} (cs : List Comparator) (ss : List Setting) (ws : List (ℕ × ℕ)) (xs : List X) (j : ℕ) (x : X) (n : ℕ) : Type 0 where
  pub item : (d : X) → x ≡ slice_index_or xs (source cs ss j) d
  pub total : n ≡ route_sum cs ss ws j

-- when it answers nothing
abbrev pub Unfollowed : {X : Type 0} → ℕ → List Comparator → List Setting → List (ℕ × ℕ) → List X → ℕ → Type 0
Unfollowed n cs ss ws xs j = length ss ≡ length cs → length ws ≡ length cs → length xs ≡ n → j < n → ⊥

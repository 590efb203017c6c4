-- Elements of lists by their place.
use Rattle.std.proofs.Common.{◌≡◌, ℕ, zero, suc, ◌+◌, ◌-◌, ◌<◌, ◌≤◌, List, [], ◌∷◌, ◌++◌, map, length, get_or, take, drop, Some, None, sym, refl, ap, ◌∙◌, arith, rules}
use Rattle.std.specs.List.{range_with_len}
use Rattle.std.specs.Option.{option_map}
use borrow.Rule.Slice.PartMut.{put_mid}
use Rattle.std.proofs.lemmas.List.{ext_get_or, length-take-le, length-drop, places}
use Rattle.std.proofs.lemmas.List.FromFn.{length-map-range_with_len, get_or-map-range_with_len}
use Rattle.plan.specs.Plans.{nth}

pub nth_left : {X : Type 0} (xs ys : List X) (k : ℕ) → k < length xs → nth (xs ++ ys) k ≡ nth xs k
nth_left [] ys k h = absurd (omega arith)
nth_left (x ∷ xs) ys zero h = refl
nth_left (x ∷ xs) ys (suc k) h = nth_left xs ys k (omega arith)

pub nth_right : {X : Type 0} (xs ys : List X) (n k : ℕ) → length xs ≡ n → n ≤ k → nth (xs ++ ys) k ≡ nth ys (k - n)
nth_right [] ys n k l h = ap (nth ys) (omega arith)
nth_right (x ∷ xs) ys n zero l h = absurd (omega arith)
nth_right (x ∷ xs) ys n (suc k) l h =
    let e : k - length xs ≡ suc k - n = omega arith in
    nth_right xs ys (length xs) k refl (omega arith) ∙ ap (nth ys) e

pub nth_map : {X Y : Type 0} (f : X → Y) (xs : List X) (k : ℕ) → nth (map f xs) k ≡ option_map f (nth xs k)
nth_map f [] k = refl
nth_map f (x ∷ xs) zero = refl
nth_map f (x ∷ xs) (suc k) = nth_map f xs k

pub nth_counting : (a n k : ℕ) → k < n → nth (range_with_len a n) k ≡ Some (a + k)
nth_counting a zero k h = absurd (omega arith)
nth_counting a (suc n) zero h = let e : a ≡ a + 0 = omega arith in ap Some e
nth_counting a (suc n) (suc k) h = let e : a + 1 + k ≡ a + suc k = omega arith in nth_counting (a + 1) n k (omega arith) ∙ ap Some e

pub nth_at : {X : Type 0} (xs : List X) (k : ℕ) (d : X) → k < length xs → nth xs k ≡ Some (get_or xs k d)
nth_at [] k d h = absurd (omega arith)
nth_at (x ∷ xs) zero d h = refl
nth_at (x ∷ xs) (suc k) d h = nth_at xs k d (omega arith)

pub nth_past : {X : Type 0} (xs : List X) (k : ℕ) → length xs ≤ k → nth xs k ≡ None
nth_past [] k h = refl
nth_past (x ∷ xs) zero h = absurd (omega arith)
nth_past (x ∷ xs) (suc k) h = nth_past xs k (omega arith)

-- a list that has f at each place
pub filled : {X : Type 0} (f : ℕ → X) (a n : ℕ) (xs : List X) (d : X) → length xs ≡ n → ((k : ℕ) → k < n → get_or xs k d ≡ f (a + k)) → xs ≡ map f (range_with_len a n)
filled f a n xs d l h =
    ext_get_or d xs (map f (range_with_len a n)) (l ∙ sym (length-map-range_with_len f a n))
    (λ k b. h k (omega arith) ∙ sym (get_or-map-range_with_len f a n k (a + k) d (omega arith) refl))

-- a part of a list, and the list after a write to that part
pub length_part : {X : Type 0} (xs : List X) (a k : ℕ) → a + k ≤ length xs → length (take (a + k - a) (drop a xs)) ≡ k
length_part xs a k h = let e : a + k - a ≡ k = omega arith in rw e (length-take-le k (drop a xs) (simp length-drop (omega arith)))

pub length_put : {X : Type 0} (xs ys : List X) (a k : ℕ) → a + k ≤ length xs → length ys ≡ k → length (put_mid a (a + k - a) xs ys) ≡ length xs
length_put xs ys a k h l = search (rules, places)

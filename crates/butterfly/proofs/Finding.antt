-- The comparator at a place of the butterfly, by the part that it is in.
use Rattle.std.proofs.Common.{◌≡◌, ℕ, zero, suc, ◌+◌, ◌-◌, ◌*◌, ◌^◌, ◌<◌, ◌≤◌, List, [], ◌++◌, map, length, IfSome, Some, None, Option, sym, refl, ap, ◌∙◌, arith}
use Rattle.std.specs.List.{range_with_len}
use Rattle.std.specs.Option.{option_map}
use Rattle.std.proofs.lemmas.List.{length-map}
use Rattle.std.proofs.lemmas.List.FromFn.{length-map-range_with_len}
use Rattle.plan.specs.declared.Comparator.{Comparator}
use Rattle.plan.specs.Plans.{nth}
use Rattle.plan.proofs.Running.{nth_within}
use Rattle.plan.proofs.Places.{nth_left, nth_right, nth_map, nth_counting, nth_past}
use Rattle.butterfly.specs.Halves.{pair, in_half, doubled, network}
use Rattle.butterfly.specs.Network.{network_within}
use Rattle.butterfly.specs.Placing.{widths}

pub network_none : (k : ℕ) → k ≡ 0 → network k ≡ []
unfolding network
network_none zero e = refl
network_none (suc k) e = absurd (omega arith)

-- the wires of a half's comparator are below 64
pub half_below : (k i : ℕ) (o : Option Comparator) → k ≤ 6 → o ≡ nth (network k) i → IfSome o (λ c. (c.first < 64) × (c.second < 64))
half_below k i None l e = tt
half_below k i (Some c) l e =
    let w = nth_within (2 ^ k) (network k) i c (network_within k) (sym e) in
    let b = widths k l in
    let b1 = b.1 in
    let w0 = w.0 in
    let w1 = w.1 in
    (omega arith, omega arith)

nth_pairs : (a m i : ℕ) → i < m → nth (map pair (range_with_len a m)) i ≡ Some (pair (a + i))
nth_pairs a m i h = nth_map pair (range_with_len a m) i ∙ ap (option_map pair) (nth_counting a m i h)

abbrev rest : List Comparator → ℕ → List Comparator
rest cs m = map (in_half 0) cs ++ (map (in_half 1) cs ++ map pair (range_with_len 1 (m - 1)))

after_first : (cs : List Comparator) (m k : ℕ) → m ≤ k → nth (doubled cs m) k ≡ nth (rest cs m) (k - m)
after_first cs m k h = nth_right (map pair (range_with_len 0 m)) (rest cs m) m k (length-map-range_with_len pair 0 m) h

after_even : (cs : List Comparator) (m n k : ℕ) → n ≡ length cs → n ≤ k → nth (rest cs m) k ≡ nth (map (in_half 1) cs ++ map pair (range_with_len 1 (m - 1))) (k - n)
after_even cs m n k e h = nth_right (map (in_half 0) cs) (map (in_half 1) cs ++ map pair (range_with_len 1 (m - 1))) n k (length-map cs (in_half 0) ∙ sym e) h

pub in_first : (cs : List Comparator) (m k : ℕ) → k < m → Some (pair k) ≡ nth (doubled cs m) k
in_first cs m k h =
    let l = length-map-range_with_len pair 0 m in
    let z : 0 + k ≡ k = omega arith in
    sym (nth_left (map pair (range_with_len 0 m)) (rest cs m) k (omega arith) ∙ nth_pairs 0 m k h ∙ ap (λ i. Some (pair i)) z)

pub in_even : (cs : List Comparator) (m n k : ℕ) → n ≡ length cs → m ≤ k → k < m + n → option_map (in_half 0) (nth cs (k - m)) ≡ nth (doubled cs m) k
in_even cs m n k e h l =
    let s = length-map cs (in_half 0) in
    sym (after_first cs m k h ∙ nth_left (map (in_half 0) cs) (map (in_half 1) cs ++ map pair (range_with_len 1 (m - 1))) (k - m) (omega arith) ∙ nth_map (in_half 0) cs (k - m))

pub in_odd : (cs : List Comparator) (m n k : ℕ) → n ≡ length cs → m + n ≤ k → k < m + 2 * n → option_map (in_half 1) (nth cs (k - m - n)) ≡ nth (doubled cs m) k
in_odd cs m n k e h l =
    let s = length-map cs (in_half 1) in
    sym (after_first cs m k (omega arith) ∙ after_even cs m n (k - m) e (omega arith)
    ∙ nth_left (map (in_half 1) cs) (map pair (range_with_len 1 (m - 1))) (k - m - n) (omega arith) ∙ nth_map (in_half 1) cs (k - m - n))

after_odd : (cs : List Comparator) (m n k : ℕ) → n ≡ length cs → m + 2 * n ≤ k → nth (doubled cs m) k ≡ nth (map pair (range_with_len 1 (m - 1))) (k - m - n - n)
after_odd cs m n k e h =
    after_first cs m k (omega arith) ∙ after_even cs m n (k - m) e (omega arith)
    ∙ nth_right (map (in_half 1) cs) (map pair (range_with_len 1 (m - 1))) n (k - m - n) (length-map cs (in_half 1) ∙ sym e) (omega arith)

pub in_last : (cs : List Comparator) (m n k i : ℕ) → n ≡ length cs → m + 2 * n ≤ k → i ≡ k - m - 2 * n → i < m - 1 → Some (pair (i + 1)) ≡ nth (doubled cs m) k
in_last cs m n k i e h f l =
    let z : 1 + (k - m - n - n) ≡ i + 1 = omega arith in
    sym (after_odd cs m n k e h ∙ nth_pairs 1 (m - 1) (k - m - n - n) (omega arith) ∙ ap (λ j. Some (pair j)) z)

pub past_last : (cs : List Comparator) (m n k i : ℕ) → n ≡ length cs → m + 2 * n ≤ k → i ≡ k - m - 2 * n → m - 1 ≤ i → None ≡ nth (doubled cs m) k
past_last cs m n k i e h f l =
    let s = length-map-range_with_len pair 1 (m - 1) in
    sym (after_odd cs m n k e h ∙ nth_past (map pair (range_with_len 1 (m - 1))) (k - m - n - n) (omega arith))

-- The butterfly over a list of places is the butterfly by numbers, put at those places; so over the wires in order it
-- is the same list, and it is a plan.
use Rattle.std.specs.Prelude.{◌≡◌, ℕ, zero, suc, ◌+◌, ◌-◌, ◌*◌, ◌^◌, ◌≤◌, List, [], ◌∷◌, ◌++◌, map, length, drop, refl}
use Rattle.std.proofs.Common.{sym, ◌∙◌, ap, ap₂, subst, arith, pow-suc, mul-le-mul, mul-le-mul_right, pow_pos, pow_mono}
use Rattle.std.specs.List.{range_with_len}
use Rattle.std.proofs.lemmas.List.{map-append, drop_more, drop_all}
use Rattle.std.proofs.lemmas.List.FromFn.{length-range_with_len, get_or-range_with_len}
use Rattle.plan.specs.declared.Comparator.{Comparator}
use Rattle.plan.specs.Plans.{on, at, Within, Lawful}
use Rattle.plan.proofs.Running.{brings_from}
use Rattle.plan.proofs.Onto.{inverse_of}
use Rattle.butterfly.specs.Listing.{pairs, evens, odds, butterfly_over, butterfly}
use Rattle.butterfly.specs.Halves.{pair, in_half, network}
use Rattle.butterfly.specs.Network.{network_within, network_count, network_route}

abbrev placed : List ℕ → Comparator → Comparator
placed v c = on (at v c.first) (at v c.second)

at_evens : (v : List ℕ) (m i : ℕ) → length v ≡ 2 * m → at (evens v) i ≡ at v (2 * i + 0)
unfolding evens
at_evens [] m i h = refl
at_evens (x ∷ []) m i h = absurd (omega arith)
at_evens (x ∷ (y ∷ v)) m zero h = refl
at_evens (x ∷ (y ∷ v)) m (suc i) h = let e : 2 * suc i + 0 ≡ suc (suc (2 * i + 0)) = omega arith in rw e (at_evens v (m - 1) i (omega arith))

at_odds : (v : List ℕ) (m i : ℕ) → length v ≡ 2 * m → at (odds v) i ≡ at v (2 * i + 1)
unfolding odds
at_odds [] m i h = refl
at_odds (x ∷ []) m i h = absurd (omega arith)
at_odds (x ∷ (y ∷ v)) m zero h = refl
at_odds (x ∷ (y ∷ v)) m (suc i) h = let e : 2 * suc i + 1 ≡ suc (suc (2 * i + 1)) = omega arith in rw e (at_odds v (m - 1) i (omega arith))

length_evens : (v : List ℕ) (m : ℕ) → length v ≡ 2 * m → length (evens v) ≡ m
unfolding evens
length_evens [] m h = omega arith
length_evens (x ∷ []) m h = absurd (omega arith)
length_evens (x ∷ (y ∷ v)) zero h = absurd (omega arith)
length_evens (x ∷ (y ∷ v)) (suc m) h = ap suc (length_evens v m (omega arith))

length_odds : (v : List ℕ) (m : ℕ) → length v ≡ 2 * m → length (odds v) ≡ m
unfolding odds
length_odds [] m h = omega arith
length_odds (x ∷ []) m h = absurd (omega arith)
length_odds (x ∷ (y ∷ v)) zero h = absurd (omega arith)
length_odds (x ∷ (y ∷ v)) (suc m) h = ap suc (length_odds v m (omega arith))

pairs_drop : (v : List ℕ) (a m : ℕ) → length v ≡ 2 * (a + m) → pairs (drop (2 * a) v) ≡ map (placed v) (map pair (range_with_len a m))
unfolding pairs
pairs_drop v a zero h = ap pairs (drop_all (2 * a) v (omega arith))
pairs_drop v a (suc m) h =
    let e : drop (2 * a + 1 + 1) v ≡ drop (2 * (a + 1)) v = ap (λ i. drop i v) (omega arith) in
    ap pairs (drop_more v (2 * a) 0 (omega arith) ∙ ap (λ w. at v (2 * a) ∷ w) (drop_more v (2 * a + 1) 0 (omega arith)))
    ∙ ap (λ w. on (at v (2 * a)) (at v (2 * a + 1)) ∷ w) (ap pairs e ∙ pairs_drop v (a + 1) m (omega arith))

-- the places u of half s among the places v
placed_half : (s : ℕ) (u v : List ℕ) (cs : List Comparator) → ((i : ℕ) → at u i ≡ at v (2 * i + s)) → map (placed u) cs ≡ map (placed v) (map (in_half s) cs)
placed_half s u v [] e = refl
placed_half s u v (c ∷ cs) e = ap₂ (λ x xs. x ∷ xs) (ap₂ on (e c.first) (e c.second)) (placed_half s u v cs e)

over_is : (k : ℕ) (v : List ℕ) → length v ≡ 2 ^ k → butterfly_over k v ≡ map (placed v) (network k)
unfolding butterfly_over network
over_is zero v h = refl
over_is (suc k) v h =
    let two = pow-suc 2 k in
    let pos = pow_pos k in
    let m = 2 ^ k in
    let l : length v ≡ 2 * m = omega arith in
    let a = pairs_drop v 0 m (omega arith) in
    let b = over_is k (evens v) (length_evens v m l) ∙ placed_half 0 (evens v) v (network k) (λ i. at_evens v m i l) in
    let c = over_is k (odds v) (length_odds v m l) ∙ placed_half 1 (odds v) v (network k) (λ i. at_odds v m i l) in
    let d = pairs_drop v 1 (m - 1) (omega arith) in
    ap₂ (λ x y. x ++ y) a (ap₂ (λ x y. x ++ y) b (ap₂ (λ x y. x ++ y) c d))
    ∙ sym (map-append (placed v) (map pair (range_with_len 0 m)) (map (in_half 0) (network k) ++ (map (in_half 1) (network k) ++ map pair (range_with_len 1 (m - 1))))
    ∙ ap (λ z. map (placed v) (map pair (range_with_len 0 m)) ++ z)
    (map-append (placed v) (map (in_half 0) (network k)) (map (in_half 1) (network k) ++ map pair (range_with_len 1 (m - 1)))
    ∙ ap (λ z. map (placed v) (map (in_half 0) (network k)) ++ z) (map-append (placed v) (map (in_half 1) (network k)) (map pair (range_with_len 1 (m - 1))))))

placed_same : (n : ℕ) (cs : List Comparator) → Within n cs → map (placed (range_with_len 0 n)) cs ≡ cs
placed_same n [] w = refl
placed_same n (c ∷ cs) w =
    let w0 = w.0 in
    let w1 = w.1 in
    ap₂ (λ x xs. x ∷ xs)
    (ap₂ on (get_or-range_with_len 0 n c.first 0 (omega arith) ∙ omega arith) (get_or-range_with_len 0 n c.second 0 (omega arith) ∙ omega arith))
    (placed_same n cs w.2)

pub butterfly_is : (k : ℕ) → butterfly k ≡ network k
butterfly_is k = over_is k (range_with_len 0 (2 ^ k)) (length-range_with_len 0 (2 ^ k)) ∙ placed_same (2 ^ k) (network k) (network_within k)

pub butterfly_count : (k : ℕ) → length (butterfly k) + 2 ^ k ≡ k * 2 ^ k + 1
butterfly_count k = ap (λ cs. length cs + 2 ^ k) (butterfly_is k) ∙ network_count k

pub widths : (k : ℕ) → k ≤ 6 → (1 ≤ 2 ^ k) × (2 ^ k ≤ 64)
widths k l = let p = pow_pos k in let m = pow_mono {i = k} {j = 6} l in (omega arith, omega arith)

pub sizes : (k : ℕ) → k ≤ 6 → length (network k) ≤ 384
sizes k l = let n = network_count k in let b = widths k l in let b1 = b.1 in let b0 = b.0 in let m = mul-le-mul l b1 in omega arith

network_lawful : (k : ℕ) → 1 ≤ k → k ≤ 6 → Lawful (2 ^ k) (network k)
network_lawful k h l =
    let n = network_count k in
    let w = network_within k in
    let b = widths k l in
    let b0 = b.0 in
    let b1 = b.1 in
    let b2 = sizes k l in
    let u = pow_mono {i = 1} {j = k} h in
    let m = mul-le-mul_right (2 ^ k) h in
    record {
      wide = omega arith;
      narrow = b.1;
      some = omega arith;
      few = omega arith;
      within = w;
      routes = λ p v.
          let q = inverse_of (2 ^ k) p v in
          let r = network_route k (at p) q.0 q.1 in
          (r.0, brings_from (2 ^ k) (network k) r.0 p w r.1 v.long r.2);
    }

pub butterfly_lawful : (k : ℕ) → 1 ≤ k → k ≤ 6 → Lawful (2 ^ k) (butterfly k)
butterfly_lawful k h l = subst (λ (cs : List Comparator). Lawful (2 ^ k) cs) (sym (butterfly_is k)) (network_lawful k h l)

-- The butterfly by numbers brings every permutation about: the settings of a butterfly from those of its halves.
use Rattle.std.specs.Prelude.{◌≡◌, ℕ, zero, suc, ◌+◌, ◌-◌, ◌*◌, ◌/◌, ◌^◌, ◌<◌, ◌≤◌, Bool, true, false, cond, List, [], ◌∷◌, ◌++◌, map, length, ◌==◌, ◌≢◌, refl}
use Rattle.std.proofs.Common.{sym, ◌∙◌, ap, subst, ⊎_elim, arith, pow-suc, suc-mul, mul_left_comm, pow_pos}
use Rattle.std.specs.List.{range_with_len}
use Rattle.std.proofs.lemmas.Bool.{cases_eq, cases_lt}
use Rattle.std.proofs.lemmas.Bool.Decides.{nat_tests}
use Rattle.std.proofs.lemmas.List.{length-append, length-map}
use Rattle.std.proofs.lemmas.List.FromFn.{length-map-range_with_len, length-range_with_len}
use Rattle.plan.specs.declared.Setting.{Setting}
use Rattle.plan.specs.declared.Setting.TheVariants.{Straight, Swapped}
use Rattle.plan.specs.declared.Comparator.{Comparator}
use Rattle.plan.specs.Plans.{crossed, came_from, source, Within, Inverse}
use Rattle.plan.proofs.Running.{source_append, within_append}
use Rattle.butterfly.specs.Halves.{pair, in_half, doubled, network, setting_for, layer, Halved, member, half_of}
use Rattle.butterfly.specs.Colours.{partner}
use Rattle.butterfly.specs.Colouring.{coloured}
use Rattle.butterfly.specs.Halving.{partner_is, halved, half_to, half_inverse, by_half}

-- a half's comparators act on its own wires as they do in the half, and leave the others
crossed_in : (s : ℕ) (c : Comparator) (x : ℕ) → crossed (in_half s c) (2 * x + s) ≡ 2 * crossed c x + s
crossed_in s c x = grind (arith, nat_tests)

crossed_out : (s : ℕ) (c : Comparator) (x t : ℕ) → s ≤ 1 → t ≤ 1 → (s ≢ t) → crossed (in_half s c) (2 * x + t) ≡ 2 * x + t
crossed_out s c x t h l n = grind (arith, nat_tests)

in_half_in : (s : ℕ) (cs : List Comparator) (ss : List Setting) (x : ℕ) → source (map (in_half s) cs) ss (2 * x + s) ≡ 2 * source cs ss x + s
unfolding source
in_half_in s [] ss x = refl
in_half_in s (c ∷ cs) [] x = refl
in_half_in s (c ∷ cs) (Straight ∷ ss) x = in_half_in s cs ss x
in_half_in s (c ∷ cs) (Swapped ∷ ss) x = ap (crossed (in_half s c)) (in_half_in s cs ss x) ∙ crossed_in s c (source cs ss x)

in_half_out : (s : ℕ) (cs : List Comparator) (ss : List Setting) (x t : ℕ) → s ≤ 1 → t ≤ 1 → (s ≢ t) → source (map (in_half s) cs) ss (2 * x + t) ≡ 2 * x + t
unfolding source
in_half_out s [] ss x t h l n = refl
in_half_out s (c ∷ cs) [] x t h l n = refl
in_half_out s (c ∷ cs) (Straight ∷ ss) x t h l n = in_half_out s cs ss x t h l n
in_half_out s (c ∷ cs) (Swapped ∷ ss) x t h l n = ap (crossed (in_half s c)) (in_half_out s cs ss x t h l n) ∙ crossed_out s c x t h l n

-- both halves
inner : (cs : List Comparator) (es os : List Setting) (s x e : ℕ) → s ≤ 1 → source cs (cond (s == 0) es os) x ≡ e →
    source (map (in_half 0) cs) es (source (map (in_half 1) cs) os (2 * x + s)) ≡ 2 * e + s
inner cs es os zero x e l f =
    ap (source (map (in_half 0) cs) es) (in_half_out 1 cs os x 0 (omega arith) (omega arith) (λ z. omega arith)) ∙ in_half_in 0 cs es x ∙ ap (λ y. 2 * y + 0) f
inner cs es os (suc zero) x e l f =
    ap (source (map (in_half 0) cs) es) (in_half_in 1 cs os x) ∙ in_half_out 0 cs es (source cs os x) 1 (omega arith) (omega arith) (λ z. omega arith) ∙ ap (λ y. 2 * y + 1) f
inner cs es os (suc (suc s)) x e l f = absurd (omega arith)

-- a layer of pairs
through : (o s y : ℕ) → came_from (pair o) (setting_for s) y ≡ cond (s == 1) (crossed (pair o) y) y
through o s y = elim (s == 1) as (λ b. came_from (pair o) (cond b Swapped Straight) y ≡ cond b (crossed (pair o) y) y) [ true ↦ refl | false ↦ refl ]

layer_below : (c : ℕ → ℕ) (o m x : ℕ) → x < 2 * o → source (map pair (range_with_len o m)) (layer c o m) x ≡ x
unfolding source
layer_below c o zero x h = refl
layer_below c o (suc m) x h = let e = layer_below c (o + 1) m x (omega arith) in rw e (through o (c (2 * o)) x ∙ grind (arith, nat_tests))

layer_here : (c : ℕ → ℕ) (o x : ℕ) → c (2 * o) + c (2 * o + 1) ≡ 1 → 2 * o ≤ x → x < 2 * (o + 1) →
    cond (c (2 * o) == 1) (crossed (pair o) x) x ≡ 2 * (x / 2) + c x
layer_here c o x e l h = let z = cases_eq x (2 * o) in let w = cases_eq (c (2 * o)) 1 in grind (arith, nat_tests)

layer_past : (b : Bool) (o y : ℕ) → 2 * (o + 1) ≤ y → cond b (crossed (pair o) y) y ≡ y
layer_past b o y l = grind (arith, nat_tests)

layer_at : (c : ℕ → ℕ) (o m x : ℕ) → ((i : ℕ) → i < o + m → c (2 * i) + c (2 * i + 1) ≡ 1) → 2 * o ≤ x → x < 2 * (o + m) →
    source (map pair (range_with_len o m)) (layer c o m) x ≡ 2 * (x / 2) + c x
unfolding source
layer_at c o zero x n l h = absurd (omega arith)
layer_at c o (suc m) x n l h =
    ⊎_elim
    (λ b. let e = layer_below c (o + 1) m x b in rw e (through o (c (2 * o)) x ∙ layer_here c o x (n o (omega arith)) l b))
    (λ b. let e = layer_at c (o + 1) m x (λ i k. n i (omega arith)) b (omega arith) in
    rw e (through o (c (2 * o)) (2 * (x / 2) + c x) ∙ layer_past (c (2 * o) == 1) o (2 * (x / 2) + c x) (omega arith)))
    (cases_lt x (2 * (o + 1)))

-- the last layer has no comparator on the first pair
last_layer : (c : ℕ → ℕ) (m x : ℕ) → c 0 ≡ 0 → ((i : ℕ) → i < m → c (2 * i) + c (2 * i + 1) ≡ 1) → x < 2 * m →
    source (map pair (range_with_len 1 (m - 1))) (layer c 1 (m - 1)) x ≡ 2 * (x / 2) + c x
last_layer c m x z n h =
    ⊎_elim
    (λ b. layer_below c 1 (m - 1) x b ∙ (let w = cases_eq x 0 in let e = n 0 (omega arith) in grind arith))
    (λ b. layer_at c 1 (m - 1) x (λ i k. n i (omega arith)) b (omega arith))
    (cases_lt x 2)

bit : (c : ℕ → ℕ) (x : ℕ) → c (2 * (x / 2)) + c (2 * (x / 2) + 1) ≡ 1 → c x ≤ 1
bit c x e = let w = cases_eq x (2 * (x / 2)) in grind arith

-- what a layer does on the wire of half s in pair i
member_layer : (d : ℕ → ℕ) (s i : ℕ) → s ≤ 1 → d (2 * i) + d (2 * i + 1) ≡ 1 → 2 * ((2 * i + s) / 2) + d (2 * i + s) ≡ member d s i
member_layer d s i l e = let w = cases_eq s 0 in let z = cases_eq (d (2 * i)) s in grind (arith, nat_tests)

-- the settings of a butterfly
abbrev pub joined_settings : (ℕ → ℕ) → (ℕ → ℕ) → List Setting → List Setting → ℕ → List Setting
joined_settings c d es os m = layer d 0 m ++ (es ++ (os ++ layer c 1 (m - 1)))

pub combined : (cs : List Comparator) (m : ℕ) (p q c d : ℕ → ℕ) (es os : List Setting) → Halved m p q c d → c 0 ≡ 0 →
    length es ≡ length cs → length os ≡ length cs →
    ((i : ℕ) → i < m → source cs es i ≡ half_of p c 0 i) →
    ((i : ℕ) → i < m → source cs os i ≡ half_of p c 1 i) →
    (x : ℕ) → x < 2 * m → source (doubled cs m) (joined_settings c d es os m) x ≡ p x
combined cs m p q c d es os v z le lo he ho x h =
    let F : List Setting = layer d 0 m in
    let L : List Setting = layer c 1 (m - 1) in
    let b = bit c x (v.ends (x / 2) (omega arith)) in
    let e = half_of p c (c x) (x / 2) in
    let w = half_to m p q c d v (c x) (x / 2) (omega arith) in
    let f : source cs (cond (c x == 0) es os) (x / 2) ≡ e =
    ⊎_elim
    (λ u. ap (λ s. source cs (cond (s == 0) es os) (x / 2)) u ∙ he (x / 2) (omega arith) ∙ ap (λ s. half_of p c s (x / 2)) (sym u))
    (λ n. let u : c x ≡ 1 = omega arith in ap (λ s. source cs (cond (s == 0) es os) (x / 2)) u ∙ ho (x / 2) (omega arith) ∙ ap (λ s. half_of p c s (x / 2)) (sym u))
    (cases_eq (c x) 0) in
    source_append (map pair (range_with_len 0 m)) (map (in_half 0) cs ++ (map (in_half 1) cs ++ map pair (range_with_len 1 (m - 1)))) F (es ++ (os ++ L)) x
    (length-map-range_with_len (λ i. setting_for (d (2 * i))) 0 m ∙ sym (length-map-range_with_len pair 0 m))
    ∙ ap (source (map pair (range_with_len 0 m)) F)
    (source_append (map (in_half 0) cs) (map (in_half 1) cs ++ map pair (range_with_len 1 (m - 1))) es (os ++ L) x (le ∙ sym (length-map cs (in_half 0)))
    ∙ ap (source (map (in_half 0) cs) es)
    (source_append (map (in_half 1) cs) (map pair (range_with_len 1 (m - 1))) os L x (lo ∙ sym (length-map cs (in_half 1)))
    ∙ ap (source (map (in_half 1) cs) os) (last_layer c m x z v.ends h))
    ∙ inner cs es os (c x) (x / 2) e b f)
    ∙ layer_at d 0 m (2 * e + c x) (λ i k. v.starts i (omega arith)) (omega arith) (omega arith)
    ∙ member_layer d (c x) e b (v.starts e w) ∙ sym (by_half m p q c d v (c x) x h refl)

pub length_joined : (cs : List Comparator) (c d : ℕ → ℕ) (es os : List Setting) (m : ℕ) → length es ≡ length cs → length os ≡ length cs →
    length (joined_settings c d es os m) ≡ length (doubled cs m)
length_joined cs c d es os m le lo = simp (length-append, length-map) (omega arith)

two : (k : ℕ) → 2 ^ suc k ≡ 2 * 2 ^ k
two k = omega (arith, pow-suc 2 k)

-- settings for every permutation
pub network_route : (k : ℕ) (p q : ℕ → ℕ) → Inverse (2 ^ k) p q →
    (ss : List Setting) × (length ss ≡ length (network k)) × ((x : ℕ) → x < 2 ^ k → source (network k) ss x ≡ p x)
unfolding network source
network_route zero p q v = ([], refl, λ x h. let w = v.to x h in omega arith)
network_route (suc k) p q v =
    let m = 2 ^ k in
    let u : Inverse (2 * m) p q = subst (λ (n : ℕ). Inverse n p q) (two k) v in
    let r = coloured m (partner p q) (partner_is m p q u) in
    let c = r.0 in
    let d : ℕ → ℕ = λ y. c (q y) in
    let hv = halved m p q c u r.1 in
    let e = network_route k (half_of p c 0) (half_of q d 0) (half_inverse m p q c d hv 0 (omega arith)) in
    let o = network_route k (half_of p c 1) (half_of q d 1) (half_inverse m p q c d hv 1 (omega arith)) in
    let t = two k in (
      joined_settings c d e.0 o.0 m,
      length_joined (network k) c d e.0 o.0 m e.1 o.1,
      λ x h. combined (network k) m p q c d e.0 o.0 hv r.1.first e.1 o.1 e.2 o.2 x (omega arith),
    )

-- n * log n - n + 1 comparators
pub network_count : (k : ℕ) → length (network k) + 2 ^ k ≡ k * 2 ^ k + 1
unfolding network
network_count zero = refl
network_count (suc k) =
    let t = two k in
    let ih = network_count k in
    let pos = pow_pos k in
    simp (length-append, length-map, length-range_with_len, t, suc-mul) (rw (mul_left_comm k 2 (2 ^ k)) (omega arith))

within_pairs : (n a m : ℕ) → 2 * (a + m) ≤ n → Within n (map pair (range_with_len a m))
within_pairs n a zero h = tt
within_pairs n a (suc m) h = (omega arith, omega arith, within_pairs n (a + 1) m (omega arith))

within_half : (n s : ℕ) (cs : List Comparator) → s ≤ 1 → Within n cs → Within (2 * n) (map (in_half s) cs)
within_half n s [] h w = tt
within_half n s (c ∷ cs) h w = let w0 = w.0 in let w1 = w.1 in (omega arith, omega arith, within_half n s cs h w.2)

within_doubled : (m : ℕ) (cs : List Comparator) → 1 ≤ m → Within m cs → Within (2 * m) (doubled cs m)
within_doubled m cs h w =
    within_append (2 * m) (map pair (range_with_len 0 m)) (map (in_half 0) cs ++ (map (in_half 1) cs ++ map pair (range_with_len 1 (m - 1)))) (within_pairs (2 * m) 0 m (omega arith))
    (within_append (2 * m) (map (in_half 0) cs) (map (in_half 1) cs ++ map pair (range_with_len 1 (m - 1))) (within_half m 0 cs (omega arith) w)
    (within_append (2 * m) (map (in_half 1) cs) (map pair (range_with_len 1 (m - 1))) (within_half m 1 cs (omega arith) w) (within_pairs (2 * m) 1 (m - 1) (omega arith))))

pub network_within : (k : ℕ) → Within (2 ^ k) (network k)
unfolding network
network_within zero = tt
network_within (suc k) = let pos = pow_pos k in subst (λ (n : ℕ). Within n (doubled (network k) (2 ^ k))) (sym (two k)) (within_doubled (2 ^ k) (network k) (omega arith) (network_within k))

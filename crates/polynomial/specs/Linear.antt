-- The product is linear over sums, and adds the exponents of powers of t.
use Rattle.std.specs.Prelude.{◌≡◌, ℕ, zero, suc, ◌+◌, ◌*◌, ◌/◌, ◌%◌, ◌<◌, bit_xor, refl}
use Rattle.std.proofs.Common.{sym, ap, ap₂, subst, ◌∙◌, mod-lt, mul-zero, mul-one, mul-suc, zero-add, suc-add, arith}
use Rattle.std.proofs.lemmas.Nat.{xor_block, xor_shr, xor_comm, xor_lt}
use Rattle.std.specs.Int.Bits.{xor_assoc}
use Rattle.polynomial.specs.Product.{times_t, product, shifted}
use Rattle.polynomial.specs.Tables.{times_t_below, times_t_nonzero, one_times}

xor_exchange : (a b c d : ℕ) → bit_xor (bit_xor a b) (bit_xor c d) ≡ bit_xor (bit_xor a c) (bit_xor b d)
xor_exchange a b c d =
    xor_assoc a b (bit_xor c d)
    ∙ ap (bit_xor a) (sym (xor_assoc b c d) ∙ ap (λ (x : ℕ). bit_xor x d) (xor_comm b c) ∙ xor_assoc c b d)
    ∙ sym (xor_assoc a c (bit_xor b d))

double_xor : (a b : ℕ) → 2 * bit_xor a b ≡ bit_xor (2 * a) (2 * b)
double_xor a b =
    let ea : a * 2 + 0 ≡ 2 * a = omega arith in
    let eb : b * 2 + 0 ≡ 2 * b = omega arith in
    let e : bit_xor a b * 2 + 0 ≡ 2 * bit_xor a b = omega arith in
    sym e ∙ sym (xor_block 1 a b 0 0 (omega arith) (omega arith)) ∙ ap₂ bit_xor ea eb

-- the modulus, taken off for one top bit or the other, but not for both
top_xor : (u v : ℕ) → u < 2 → v < 2 → 8219 * bit_xor u v ≡ bit_xor (8219 * u) (8219 * v)
top_xor zero zero h k = refl
top_xor zero (suc zero) h k = refl
top_xor zero (suc (suc v)) h k = absurd (omega arith)
top_xor (suc zero) zero h k = refl
top_xor (suc zero) (suc zero) h k = refl
top_xor (suc zero) (suc (suc v)) h k = absurd (omega arith)
top_xor (suc (suc u)) v h k = absurd (omega arith)

pub times_t_xor : (a b : ℕ) → a < 8192 → b < 8192 → times_t (bit_xor a b) ≡ bit_xor (times_t a) (times_t b)
unfolding times_t
times_t_xor a b ha hb =
    ap₂ bit_xor (double_xor a b) (ap (λ (x : ℕ). 8219 * x) (xor_shr a b 12) ∙ top_xor (a / 4096) (b / 4096) (omega arith) (omega arith))
    ∙ xor_exchange (2 * a) (2 * b) (8219 * (a / 4096)) (8219 * (b / 4096))

times_t_bit : (a u : ℕ) → u < 2 → times_t a * u ≡ times_t (a * u)
unfolding times_t
times_t_bit a zero h = mul-zero (times_t a) ∙ ap times_t (sym (mul-zero a))
times_t_bit a (suc zero) h = mul-one (times_t a) ∙ ap times_t (sym (mul-one a))
times_t_bit a (suc (suc u)) h = absurd (omega arith)

xor_bit : (a b u : ℕ) → u < 2 → bit_xor a b * u ≡ bit_xor (a * u) (b * u)
xor_bit a b zero h = mul-zero (bit_xor a b) ∙ sym (ap₂ bit_xor (mul-zero a) (mul-zero b))
xor_bit a b (suc zero) h = mul-one (bit_xor a b) ∙ sym (ap₂ bit_xor (mul-one a) (mul-one b))
xor_bit a b (suc (suc u)) h = absurd (omega arith)

pub bit_below : (a u : ℕ) → u < 2 → a < 8192 → a * u < 8192
bit_below a zero h k = subst (λ (x : ℕ). x < 8192) (sym (mul-zero a)) (omega arith)
bit_below a (suc zero) h k = subst (λ (x : ℕ). x < 8192) (sym (mul-one a)) k
bit_below a (suc (suc u)) h k = absurd (omega arith)

pub bit : (y : ℕ) → y % 2 < 2
bit y = mod-lt y (omega arith)

product_below : (n a b : ℕ) → a < 8192 → product n a b < 8192
unfolding product
product_below zero a b h = omega arith
product_below (suc n) a b h = xor_lt 13 (a * (b % 2)) (product n (times_t a) (b / 2)) (bit_below a (b % 2) (bit b) h) (product_below n (times_t a) (b / 2) (times_t_below a h))

product_times_t : (n a b : ℕ) → a < 8192 → product n (times_t a) b ≡ times_t (product n a b)
unfolding product times_t
product_times_t zero a b h = refl
product_times_t (suc n) a b h =
    ap₂ bit_xor (times_t_bit a (b % 2) (bit b)) (product_times_t n (times_t a) (b / 2) (times_t_below a h))
    ∙ sym (times_t_xor (a * (b % 2)) (product n (times_t a) (b / 2)) (bit_below a (b % 2) (bit b) h) (product_below n (times_t a) (b / 2) (times_t_below a h)))

-- the product of a sum is the sum of the products
pub product_xor : (n a c b : ℕ) → a < 8192 → c < 8192 → product n (bit_xor a c) b ≡ bit_xor (product n a b) (product n c b)
unfolding product
product_xor zero a c b ha hc = refl
product_xor (suc n) a c b ha hc =
    ap₂ bit_xor (xor_bit a c (b % 2) (bit b)) (ap (λ (x : ℕ). product n x (b / 2)) (times_t_xor a c ha hc) ∙ product_xor n (times_t a) (times_t c) (b / 2) (times_t_below a ha) (times_t_below c hc))
    ∙ xor_exchange (a * (b % 2)) (c * (b % 2)) (product n (times_t a) (b / 2)) (product n (times_t c) (b / 2))

pub shifted_below : (k : ℕ) → shifted k 1 < 8192
unfolding shifted
shifted_below zero = omega arith
shifted_below (suc k) = times_t_below (shifted k 1) (shifted_below k)

pub shifted_nonzero : (k : ℕ) → 0 < shifted k 1
unfolding shifted
shifted_nonzero zero = omega arith
shifted_nonzero (suc k) = times_t_nonzero (shifted k 1) (shifted_nonzero k) (shifted_below k)

product_shifted : (k b : ℕ) → b < 8192 → product 13 (shifted k 1) b ≡ shifted k b
unfolding shifted
product_shifted zero b h = one_times b h
product_shifted (suc k) b h = product_times_t 13 (shifted k 1) b (shifted_below k) ∙ ap times_t (product_shifted k b h)

shifted_add : (i j a : ℕ) → shifted i (shifted j a) ≡ shifted (i + j) a
unfolding shifted
shifted_add zero j a = ap (λ (k : ℕ). shifted k a) (sym (zero-add j))
shifted_add (suc i) j a = ap times_t (shifted_add i j a) ∙ ap (λ (k : ℕ). shifted k a) (sym (suc-add i j))

-- t^i times t^j is t^(i + j)
pub product_powers : (i j : ℕ) → product 13 (shifted i 1) (shifted j 1) ≡ shifted (i + j) 1
product_powers i j = product_shifted i (shifted j 1) (shifted_below j) ∙ shifted_add i j 1

pub shifted_whole : (q : ℕ) → shifted q 1 ≡ 1 → (i : ℕ) → shifted (q * i) 1 ≡ 1
unfolding shifted
shifted_whole q e zero = ap (λ (k : ℕ). shifted k 1) (mul-zero q)
shifted_whole q e (suc i) =
    ap (λ (k : ℕ). shifted k 1) (mul-suc q i) ∙ sym (shifted_add (q * i) q 1) ∙ ap (shifted (q * i)) e ∙ shifted_whole q e i

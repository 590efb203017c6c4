-- A power modulo m by squaring: one turn, and the computed form that tests use, since
-- it takes a remainder at each turn and so meets no large number.
use Rattle.std.specs.Prelude.{◌≡◌, ℕ, zero, suc, ◌+◌, ◌*◌, ◌/◌, ◌%◌, ◌^◌, ◌<◌, ◌≢◌, refl}
use Rattle.std.proofs.Common.{sym, ap, ◌∙◌, arith, mul_assoc, mul-one, pow-suc, mod-lt, mod-eq_of_lt, pow-add}
use Rattle.std.proofs.Math.Nat.{pow-zero, pow-succ'}
use Rattle.modular.specs.Remainders.{mod_mul_left, mod_mul_right, mod_pow, pow_mul}

square : (s k : ℕ) → (s * s) ^ k ≡ s ^ (k + k)
square s k = pow_mul s s k ∙ sym (pow-add s k k)

-- a remainder may be taken before a power
before : (d s k m : ℕ) → (d * ((s % m) ^ k)) % m ≡ (d * s ^ k) % m
before d s k m = sym (mod_mul_right d ((s % m) ^ k) m) ∙ ap (λ (x : ℕ). (d * x) % m) (mod_pow s k m) ∙ mod_mul_right d (s ^ k) m

pub even_turn : (d s t n m : ℕ) → (n % 2 ≢ 1) → (d * s ^ n) % m ≡ t → (d * ((s * s) % m) ^ (n / 2)) % m ≡ t
even_turn d s t n m h was =
    let e : n / 2 + n / 2 ≡ n = omega arith in
    before d (s * s) (n / 2) m ∙ ap (λ (x : ℕ). (d * x) % m) (square s (n / 2) ∙ ap (λ (k : ℕ). s ^ k) e) ∙ was

pub odd_turn : (d s t n m : ℕ) → n % 2 ≡ 1 → (d * s ^ n) % m ≡ t → (((d * s) % m) * ((s * s) % m) ^ (n / 2)) % m ≡ t
odd_turn d s t n m h was =
    let e : suc (n / 2 + n / 2) ≡ n = omega arith in
    mod_mul_left (d * s) (((s * s) % m) ^ (n / 2)) m
    ∙ before (d * s) (s * s) (n / 2) m
    ∙ ap (λ (x : ℕ). x % m) (mul_assoc d s ((s * s) ^ (n / 2)))
    ∙ ap (λ (x : ℕ). (d * x) % m) (ap (λ (x : ℕ). s * x) (square s (n / 2)) ∙ sym (pow-succ' s (n / 2 + n / 2)) ∙ ap (λ (k : ℕ). s ^ k) e)
    ∙ was

pub no_turn : (d s t n m : ℕ) → n ≡ 0 → d < m → (d * s ^ n) % m ≡ t → d ≡ t
no_turn d s t n m z h was =
    let e : d * s ^ n ≡ d = ap (λ (k : ℕ). d * s ^ k) z ∙ ap (λ (x : ℕ). d * x) (pow-zero s) ∙ mul-one d in
    sym (mod-eq_of_lt h) ∙ ap (λ (x : ℕ). x % m) (sym e) ∙ was

-- the first for 0, else the second
abbrev either : ℕ → ℕ → ℕ → ℕ
either zero a b = a
either (suc n) a b = b

-- d times the k-th power of s, modulo m, where k has at most f binary digits
abbrev pub squaring : ℕ → ℕ → ℕ → ℕ → ℕ → ℕ
squaring zero m d s k = d
squaring (suc f) m d s k = squaring f m (either (k % 2) d ((d * s) % m)) ((s * s) % m) (k / 2)

pub squaring_is : (f m d s k : ℕ) → d < m → k < 2 ^ f → squaring f m d s k ≡ (d * s ^ k) % m
squaring_is zero m d s k h l = no_turn d s _ k m (omega arith) h refl
squaring_is (suc f) m d s k h l = go (k % 2) refl (λ x b. squaring_is f m x ((s * s) % m) (k / 2) b half)
  where
    half : k / 2 < 2 ^ f
    half = omega (arith, pow-suc 2 f)

    go : (r : ℕ) → k % 2 ≡ r → ((x : ℕ) → x < m → squaring f m x ((s * s) % m) (k / 2) ≡ (x * ((s * s) % m) ^ (k / 2)) % m)
        → squaring f m (either r d ((d * s) % m)) ((s * s) % m) (k / 2) ≡ (d * s ^ k) % m
    go zero e ih = ih d h ∙ even_turn d s _ k m (omega arith) refl
    go (suc zero) e ih = ih ((d * s) % m) (mod-lt (d * s) (omega arith)) ∙ odd_turn d s _ k m e refl
    go (suc (suc r)) e ih = absurd (omega arith)

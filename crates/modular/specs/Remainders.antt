-- Remainders of products and powers.
use Rattle.std.specs.Prelude.{◌≡◌, ℕ, zero, suc, ◌+◌, ◌*◌, ◌/◌, ◌%◌, ◌^◌, ◌<◌}
use Rattle.std.proofs.Common.{sym, ap, ◌∙◌, add-mul, mul_assoc, mul_comm, pow-suc, mul-one, mul-zero, not-suc-le-zero}
use Rattle.std.proofs.Math.Nat.{div-add-mod, mul-mul-mul_comm, mul-add-mod_self_left, pow-zero, zero-mod}

pub mod_mul_left : (a b m : ℕ) → (a % m * b) % m ≡ (a * b) % m
mod_mul_left a b m =
    let e : a * b ≡ m * (a / m * b) + a % m * b =
    ap (λ (x : ℕ). x * b) (sym (div-add-mod a m)) ∙ add-mul (m * (a / m)) (a % m) b ∙ ap (λ (x : ℕ). x + a % m * b) (mul_assoc m (a / m) b)
    in
    sym (ap (λ (x : ℕ). x % m) e ∙ mul-add-mod_self_left m (a / m * b) (a % m * b))

pub mod_mul_right : (a b m : ℕ) → (a * (b % m)) % m ≡ (a * b) % m
mod_mul_right a b m =
    ap (λ (x : ℕ). x % m) (mul_comm a (b % m)) ∙ mod_mul_left b a m ∙ ap (λ (x : ℕ). x % m) (mul_comm b a)

pub mod_mul : (a b m : ℕ) → ((a % m) * (b % m)) % m ≡ (a * b) % m
mod_mul a b m = mod_mul_left a (b % m) m ∙ mod_mul_right a b m

pub mod_pow : (a k m : ℕ) → ((a % m) ^ k) % m ≡ (a ^ k) % m
mod_pow a zero m = ap (λ (x : ℕ). x % m) (pow-zero (a % m) ∙ sym (pow-zero a))
mod_pow a (suc k) m =
    ap (λ (x : ℕ). x % m) (pow-suc (a % m) k)
    ∙ mod_mul_right ((a % m) ^ k) a m
    ∙ sym (mod_mul_left ((a % m) ^ k) a m)
    ∙ ap (λ (x : ℕ). (x * a) % m) (mod_pow a k m)
    ∙ mod_mul_left (a ^ k) a m
    ∙ ap (λ (x : ℕ). x % m) (sym (pow-suc a k))

pub pow_mul : (a b k : ℕ) → (a * b) ^ k ≡ a ^ k * b ^ k
pow_mul a b zero = pow-zero (a * b) ∙ sym (mul-one 1) ∙ ap (λ (x : ℕ). x * 1) (sym (pow-zero a)) ∙ ap (λ (x : ℕ). a ^ 0 * x) (sym (pow-zero b))
pow_mul a b (suc k) =
    pow-suc (a * b) k
    ∙ ap (λ (x : ℕ). x * (a * b)) (pow_mul a b k)
    ∙ mul-mul-mul_comm (a ^ k) (b ^ k) a b
    ∙ ap (λ (x : ℕ). x * (b ^ k * b)) (sym (pow-suc a k))
    ∙ ap (λ (x : ℕ). a ^ suc k * x) (sym (pow-suc b k))

pub one_pow : (k : ℕ) → 1 ^ k ≡ 1
one_pow zero = pow-zero 1
one_pow (suc k) = pow-suc 1 k ∙ mul-one (1 ^ k) ∙ one_pow k

pub pow_pow : (a k j : ℕ) → (a ^ k) ^ j ≡ (a ^ j) ^ k
pow_pow a zero j = ap (λ (x : ℕ). x ^ j) (pow-zero a) ∙ one_pow j ∙ sym (pow-zero (a ^ j))
pow_pow a (suc k) j =
    ap (λ (x : ℕ). x ^ j) (pow-suc a k) ∙ pow_mul (a ^ k) a j ∙ ap (λ (x : ℕ). x * a ^ j) (pow_pow a k j) ∙ sym (pow-suc (a ^ j) k)

pub zero_pow : (k m : ℕ) → 0 < k → (0 ^ k) % m ≡ 0
zero_pow zero m h = absurd (not-suc-le-zero h)
zero_pow (suc k) m h = ap (λ (x : ℕ). x % m) (pow-suc 0 k ∙ mul-zero (0 ^ k)) ∙ zero-mod m

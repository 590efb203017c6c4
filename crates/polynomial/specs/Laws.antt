-- The polynomials but 0 are a group.
use Rattle.std.specs.Prelude.{◌≡◌, ℕ, zero, suc, ◌+◌, ◌*◌, ◌<◌, refl}
use Rattle.std.proofs.Common.{sym, ap, ap₂, ◌∙◌, zero-mul, suc-mul, add_comm, add_assoc, arith}
use mathlib.Core.HLevel.{Σ_prop_path}
use Rattle.std.proofs.Math.Dec.{T_prop}
use Rattle.group.proofs.FourBytes.{own_bytes}
use Rattle.group.specs.Operations.{GroupLaws, power}
use Rattle.polynomial.specs.Linear.{product_powers, shifted_whole}
use Rattle.polynomial.specs.Polynomials.{nonzero, Nonzero, nonzero_below, power_of_t, product_is, times, one, repeated, polynomials}
use Rattle.polynomial.specs.Product.{product, shifted}
use Rattle.polynomial.specs.Tables.{logarithm, one_times, whole_turn}

-- two elements are equal where their numbers are
pub nonzero_path : (x y : Nonzero) → x.0 ≡ y.0 → x ≡ y
nonzero_path x y e = Σ_prop_path (λ a. T_prop (nonzero a)) e

associative : (x y z : Nonzero) → product 13 (product 13 x.0 y.0) z.0 ≡ product 13 x.0 (product 13 y.0 z.0)
associative x y z =
    let i = logarithm x.0 in
    let j = logarithm y.0 in
    let k = logarithm z.0 in
    ap₂ (product 13) (product_is x y) (sym (power_of_t z))
    ∙ product_powers (i + j) k
    ∙ ap (λ (n : ℕ). shifted n 1) (add_assoc i j k)
    ∙ sym (product_powers i (j + k))
    ∙ ap₂ (product 13) (power_of_t x) (sym (product_is y z))

commutative : (x y : Nonzero) → product 13 x.0 y.0 ≡ product 13 y.0 x.0
commutative x y = product_is x y ∙ ap (λ (n : ℕ). shifted n 1) (add_comm (logarithm x.0) (logarithm y.0)) ∙ sym (product_is y x)

repeated_is : (x : Nonzero) (n : ℕ) → (repeated x n).0 ≡ shifted (n * logarithm x.0) 1
unfolding repeated shifted
repeated_is x zero = sym (ap (λ (k : ℕ). shifted k 1) (zero-mul (logarithm x.0)))
repeated_is x (suc n) =
    let i = logarithm x.0 in
    ap₂ (product 13) (sym (power_of_t x)) (repeated_is x n)
    ∙ product_powers i (n * i)
    ∙ ap (λ (k : ℕ). shifted k 1) (add_comm i (n * i) ∙ sym (suc-mul n i))

pub power_repeated : (x : Nonzero) (n : ℕ) → power polynomials x n ≡ repeated x n
unfolding power repeated
power_repeated x zero = refl
power_repeated x (suc n) = ap (times x) (power_repeated x n)

whole : (x : Nonzero) (q : ℕ) → shifted q 1 ≡ 1 → repeated x q ≡ one
whole x q e = nonzero_path _ _ (repeated_is x q ∙ shifted_whole q e (logarithm x.0))

undone : (x : Nonzero) (q n : ℕ) → q ≡ suc n → repeated x q ≡ one → times x (repeated x n) ≡ one
unfolding repeated
undone x q n e h = ap (repeated x) (sym e) ∙ h

pub polynomial_laws : GroupLaws polynomials
polynomial_laws = record {
  associative = λ x y z. nonzero_path _ _ (associative x y z);
  commutative = λ x y. nonzero_path _ _ (commutative x y);
  neutral = λ x. nonzero_path _ _ (one_times x.0 (nonzero_below x.0 x.1));
  inverted = λ x. undone x 8191 8190 refl (whole x 8191 whole_turn);
  some_order = omega arith;
  whole_power = λ x. power_repeated x 8191 ∙ whole x 8191 whole_turn;
  proper = λ e. let z : ◌≡◌ {A = ℕ} 2 1 = ap (λ x. x.0) e in omega arith;
  some_width = omega arith;
  few_width = omega arith;
  code_length = λ x. refl;
  code_own = λ x y e.
      let hx : x.0 < 8192 = nonzero_below x.0 x.1 in
      let hy : y.0 < 8192 = nonzero_below y.0 y.1 in
      nonzero_path x y (own_bytes x.0 y.0 (omega arith) (omega arith) e);
}

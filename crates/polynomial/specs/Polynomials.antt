-- The group of the polynomials but 0, of order 8191, from the generator t.
use Rattle.std.specs.Prelude.{◌≡◌, ℕ, zero, suc, ◌+◌, ◌<◌, Bool, T, nat_lt}
use Rattle.std.proofs.Common.{sym, ap₂, subst, ◌∙◌, ltb→lt, lt→ltb}
use Rattle.group.specs.Codes.{four_bytes}
use Rattle.group.specs.Operations.{Operations}
use Rattle.modular.specs.Tests.{both, both_first, both_second, both_made}
use Rattle.polynomial.specs.Linear.{shifted_below, shifted_nonzero, product_powers}
use Rattle.polynomial.specs.Product.{product, shifted}
use Rattle.polynomial.specs.Tables.{logarithm, logarithm_is}

-- The test that a number is an element.
abbrev pub nonzero : ℕ → Bool
nonzero a = both (nat_lt 0 a) (nat_lt a 8192)

-- An element: a number that passes the test.
abbrev pub Nonzero : Type 0
Nonzero = (a : ℕ) × T (nonzero a)

pub nonzero_below : (a : ℕ) → T (nonzero a) → a < 8192
nonzero_below a t = ltb→lt _ _ (both_second (nat_lt 0 a) _ t)

pub nonzero_positive : (a : ℕ) → T (nonzero a) → 0 < a
nonzero_positive a t = ltb→lt _ _ (both_first _ _ t)

nonzero_shifted : (k : ℕ) → T (nonzero (shifted k 1))
nonzero_shifted k = both_made _ _ (lt→ltb 0 (shifted k 1) (shifted_nonzero k)) (lt→ltb (shifted k 1) 8192 (shifted_below k))

pub power_of_t : (x : Nonzero) → shifted (logarithm x.0) 1 ≡ x.0
power_of_t x = logarithm_is x.0 (nonzero_positive x.0 x.1) (nonzero_below x.0 x.1)

pub product_is : (x y : Nonzero) → product 13 x.0 y.0 ≡ shifted (logarithm x.0 + logarithm y.0) 1
product_is x y = sym (ap₂ (product 13) (power_of_t x) (power_of_t y)) ∙ product_powers (logarithm x.0) (logarithm y.0)

pub product_nonzero : (x y : Nonzero) → T (nonzero (product 13 x.0 y.0))
product_nonzero x y = subst (λ (a : ℕ). T (nonzero a)) (sym (product_is x y)) (nonzero_shifted (logarithm x.0 + logarithm y.0))

abbrev pub times : Nonzero → Nonzero → Nonzero
times x y = (product 13 x.0 y.0, product_nonzero x y)

abbrev pub one : Nonzero
one = (1, tt)

-- the n-th power
unfoldable pub repeated : Nonzero → ℕ → Nonzero
repeated x zero = one
repeated x (suc n) = times x (repeated x n)

-- The inverse is the power by 8190; a code has four bytes.
abbrev pub polynomials : Operations Nonzero
polynomials = record {
  order = 8191;
  one = one;
  times = times;
  inverse = λ x. repeated x 8190;
  base = (2, tt);
  width = 4;
  code = λ x. four_bytes x.0;
}

-- The residues a modulo a prime p with a^q = 1: a group of order q.
use Rattle.std.specs.Prelude.{◌≡◌, ℕ, ◌-◌, ◌*◌, ◌%◌, ◌^◌, ◌<◌, Bool, not, T, ◌==◌, nat_le, nat_lt}
use Rattle.std.proofs.Common.{sym, ap, subst, ◌∙◌, mod-lt, mod-eq_of_lt, arith, ltb→lt, lt→ltb, eqb→eq}
use Rattle.group.specs.Codes.{four_bytes}
use Rattle.group.specs.Operations.{Operations}
use Rattle.modular.specs.Remainders.{mod_mul, mod_pow, pow_mul, one_pow, pow_pow}
use Rattle.modular.specs.Tests.{both, both_first, both_second, both_made}

-- The test that a is an element.
abbrev pub member : ℕ → ℕ → ℕ → Bool
member p q a = both (nat_lt a p) ((a ^ q) % p == 1)

-- An element: a number that passes the test.
abbrev pub Residue : ℕ → ℕ → Type 0
Residue p q = (a : ℕ) × T (member p q a)

-- The test of p, q and the generator g: g is an element and not 1, and a product of two elements is
-- below 2^26 before it is reduced.
abbrev pub subgroup_test : ℕ → ℕ → ℕ → Bool
subgroup_test p q g = both (nat_lt 1 p) (both (nat_le p 8192) (both (nat_lt 0 q) (both (member p q g) (not (g == 1)))))

pub member_below : (p q a : ℕ) → T (member p q a) → a < p
member_below p q a t = ltb→lt a p (both_first _ _ t)

pub member_power : (p q a : ℕ) → T (member p q a) → (a ^ q) % p ≡ 1
member_power p q a t = eqb→eq _ 1 (both_second (nat_lt a p) _ t)

pub member_made : (p q a : ℕ) → a < p → (a ^ q) % p ≡ 1 → T (member p q a)
member_made p q a h e = both_made _ _ (lt→ltb a p h) (subst (λ (x : ℕ). T (x == 1)) (sym e) tt)

-- Products, the one and powers of elements are elements.
module _ (p q : ℕ) (large : 1 < p) where
  pub product_member : (a b : ℕ) → T (member p q a) → T (member p q b) → T (member p q ((a * b) % p))
  product_member a b s t = member_made p q ((a * b) % p) (mod-lt (a * b) (omega arith)) (
      mod_pow (a * b) q p
      ∙ ap (λ (x : ℕ). x % p) (pow_mul a b q)
      ∙ sym (mod_mul (a ^ q) (b ^ q) p)
      ∙ ap (λ (x : ℕ). (x * ((b ^ q) % p)) % p) (member_power p q a s)
      ∙ ap (λ (x : ℕ). (1 * x) % p) (member_power p q b t)
      ∙ mod-eq_of_lt large)

  pub one_member : T (member p q 1)
  one_member = member_made p q 1 large (ap (λ (x : ℕ). x % p) (one_pow q) ∙ mod-eq_of_lt large)

  pub power_member : (a k : ℕ) → T (member p q a) → T (member p q ((a ^ k) % p))
  power_member a k s = member_made p q ((a ^ k) % p) (mod-lt (a ^ k) (omega arith)) (
      mod_pow (a ^ k) q p
      ∙ ap (λ (x : ℕ). x % p) (pow_pow a k q)
      ∙ sym (mod_pow (a ^ q) k p)
      ∙ ap (λ (x : ℕ). (x ^ k) % p) (member_power p q a s)
      ∙ ap (λ (x : ℕ). x % p) (one_pow k)
      ∙ mod-eq_of_lt large)

-- What the test of p, q and g tells.
pub large_of : (p q g : ℕ) → T (subgroup_test p q g) → 1 < p
large_of p q g t = ltb→lt 1 p (both_first (nat_lt 1 p) _ t)

pub generator_of : (p q g : ℕ) → T (subgroup_test p q g) → T (member p q g)
generator_of p q g t =
    both_first (member p q g) _ (both_second (nat_lt 0 q) _ (both_second (nat_le p 8192) _ (both_second (nat_lt 1 p) _ t)))

-- The group: numbers multiplied modulo p; the inverse is the power by q - 1; a code has four bytes.
abbrev pub residues : (p q g : ℕ) → T (subgroup_test p q g) → Operations (Residue p q)
residues p q g t = record {
  order = q;
  one = (1, one_member p q (large_of p q g t));
  times = λ x y. ((x.0 * y.0) % p, product_member p q (large_of p q g t) x.0 y.0 x.1 y.1);
  inverse = λ x. ((x.0 ^ (q - 1)) % p, power_member p q (large_of p q g t) x.0 (q - 1) x.1);
  base = (g, generator_of p q g t);
  width = 4;
  code = λ x. four_bytes x.0;
}

-- The residues of one order are a group, for every p, q and g that pass their test.
use Rattle.std.specs.Prelude.{◌≡◌, ℕ, zero, suc, ◌-◌, ◌*◌, ◌%◌, ◌^◌, ◌<◌, ◌≤◌, not, T, ◌==◌, ◌≢◌, nat_le, nat_lt, refl}
use Rattle.std.proofs.Math.Path.{sym, ap}
use Rattle.std.proofs.Common.{◌∙◌, mul_assoc, mul_comm, one-mul, arith, ltb→lt, leb→le}
use mathlib.Core.HLevel.{Σ_prop_path}
use Rattle.std.proofs.Math.Nat.{mod-eq_of_lt, pow-zero, pow-succ'}
use Rattle.std.proofs.Math.Dec.{T_prop}
use Rattle.group.proofs.FourBytes.{own_bytes}
use Rattle.group.specs.Operations.{GroupLaws, power}
use Rattle.modular.specs.Remainders.{mod_mul_left, mod_mul_right}
use Rattle.modular.specs.Residues.{member, Residue, subgroup_test, member_below, member_power, large_of, residues}
use Rattle.modular.specs.Tests.{both_first, both_second}

-- two elements are equal where their numbers are
pub residue_path : (p q : ℕ) (x y : Residue p q) → x.0 ≡ y.0 → x ≡ y
residue_path p q x y e = Σ_prop_path (λ a. T_prop (member p q a)) e

not_same : (g : ℕ) → T (not (g == 1)) → g ≢ 1
not_same zero t e = omega arith
not_same (suc zero) t e = t
not_same (suc (suc g)) t e = omega arith

module _ (p q g : ℕ) (t : T (subgroup_test p q g)) where
  large : 1 < p
  large = large_of p q g t

  pub small : p ≤ 8192
  small = leb→le p 8192 (both_first (nat_le p 8192) _ (both_second (nat_lt 1 p) _ t))

  pub some : 0 < q
  some = ltb→lt 0 q (both_first (nat_lt 0 q) _ (both_second (nat_le p 8192) _ (both_second (nat_lt 1 p) _ t)))

  proper : g ≡ 1 → ⊥
  proper = not_same g (both_second (member p q g) _ (both_second (nat_lt 0 q) _ (both_second (nat_le p 8192) _ (both_second (nat_lt 1 p) _ t))))

  power_is : (x : Residue p q) (n : ℕ) → (power (residues p q g t) x n).0 ≡ (x.0 ^ n) % p
  unfolding power
  power_is x zero = sym (ap (λ (y : ℕ). y % p) (pow-zero x.0) ∙ mod-eq_of_lt large)
  power_is x (suc n) =
      ap (λ (y : ℕ). (x.0 * y) % p) (power_is x n) ∙ mod_mul_right x.0 (x.0 ^ n) p ∙ ap (λ (y : ℕ). y % p) (sym (pow-succ' x.0 n))

  pub residue_laws : GroupLaws (residues p q g t)
  residue_laws = record {
    associative = λ x y z. residue_path p q _ _ (
        mod_mul_left (x.0 * y.0) z.0 p ∙ ap (λ (w : ℕ). w % p) (mul_assoc x.0 y.0 z.0) ∙ sym (mod_mul_right x.0 (y.0 * z.0) p));
    commutative = λ x y. residue_path p q _ _ (ap (λ (w : ℕ). w % p) (mul_comm x.0 y.0));
    neutral = λ x. residue_path p q _ _ (ap (λ (w : ℕ). w % p) (one-mul x.0) ∙ mod-eq_of_lt (member_below p q x.0 x.1));
    inverted = λ x. residue_path p q _ _ (
        let h = some in
        let e : suc (q - 1) ≡ q = omega arith in
        mod_mul_right x.0 (x.0 ^ (q - 1)) p ∙ ap (λ (w : ℕ). w % p) (sym (pow-succ' x.0 (q - 1))) ∙ ap (λ (w : ℕ). (x.0 ^ w) % p) e ∙ member_power p q x.0 x.1);
    some_order = some;
    whole_power = λ x. residue_path p q _ _ (power_is x q ∙ member_power p q x.0 x.1);
    proper = λ e. proper (ap (λ x. x.0) e);
    some_width = omega arith;
    few_width = omega arith;
    code_length = λ x. refl;
    code_own = λ x y e.
        let s = small in
        let hx : x.0 < p = member_below p q x.0 x.1 in
        let hy : y.0 < p = member_below p q y.0 y.1 in
        residue_path p q x y (own_bytes x.0 y.0 (omega arith) (omega arith) e);
  }

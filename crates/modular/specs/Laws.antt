-- The laws of exponents, for every order that passes its test.
use Rattle.std.specs.Prelude.{◌≡◌, ℕ, zero, suc, ◌-◌, ◌*◌, ◌%◌, ◌^◌, ◌<◌, ◌≤◌, T, nat_le, nat_lt}
use Rattle.std.proofs.Common.{sym, ap, ◌∙◌, mod-lt, one-mul, not-suc-le-zero, arith, eqb→eq, ltb→lt, leb→le}
use Rattle.group.specs.Exponents.{ExponentLaws}
use Rattle.modular.specs.Modular.{modular, inverse_test, order_test}
use Rattle.modular.specs.Remainders.{zero_pow}
use Rattle.modular.specs.Squaring.{squaring_is}
use Rattle.modular.specs.Tests.{both_first, both_second, every, every_at}

-- What the test tells.
pub record Tested (q bits : ℕ) : Type 0 where
  pub large : 2 < q
  pub small : q ≤ 8192
  pub some_bits : 1 ≤ bits
  pub few_bits : bits ≤ 63
  pub room : 2 ^ bits ≤ q
  pub inverses : (n : ℕ) → 0 < n → n < q → (n * ((n ^ (q - 2)) % q)) % q ≡ 1

inverses_of : (q : ℕ) → 2 < q → q ≤ 8192 → T (every (inverse_test q) (q - 1)) → (n : ℕ) → 0 < n → n < q → (n * ((n ^ (q - 2)) % q)) % q ≡ 1
inverses_of q large small t zero p l = absurd (not-suc-le-zero p)
inverses_of q large small t (suc n) p l =
    ap (λ (x : ℕ). (suc n * x) % q) (sym (squaring_is 13 q 1 (suc n) (q - 2) (omega arith) (omega arith) ∙ ap (λ (x : ℕ). x % q) (one-mul (suc n ^ (q - 2)))))
    ∙ eqb→eq _ _ (every_at (inverse_test q) (q - 1) t n (omega arith))

pub tested_of : (q bits : ℕ) → T (order_test q bits) → Tested q bits
tested_of q bits t =
    let large = ltb→lt 2 q (both_first (nat_lt 2 q) _ t) in
    let t1 = both_second (nat_lt 2 q) _ t in
    let small = leb→le q 8192 (both_first (nat_le q 8192) _ t1) in
    let t2 = both_second (nat_le q 8192) _ t1 in
    let t3 = both_second (nat_lt 0 bits) _ t2 in
    let t4 = both_second (nat_le bits 63) _ t3 in
    record {
      large = large;
      small = small;
      some_bits = ltb→lt 0 bits (both_first (nat_lt 0 bits) _ t2);
      few_bits = leb→le bits 63 (both_first (nat_le bits 63) _ t3);
      room = leb→le (2 ^ bits) q (both_first (nat_le (2 ^ bits) q) _ t4);
      inverses = inverses_of q large small (both_second (nat_le (2 ^ bits) q) _ t4);
    }

pub modular_laws : (q bits : ℕ) → T (order_test q bits) → ExponentLaws (modular q bits)
modular_laws q bits passed =
    let t = tested_of q bits passed in
    record {
      inverse_of_zero = zero_pow (q - 2) q (let h = t.large in omega arith);
      inverse_below = λ n h. mod-lt (n ^ (q - 2)) (let l = t.large in omega arith);
      inverse_times = t.inverses;
      some_bits = t.some_bits;
      few_bits = t.few_bits;
      room = t.room;
    }

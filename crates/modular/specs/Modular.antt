-- The exponents modulo a prime q: the inverse of n is its power by q - 2.
use Rattle.std.specs.Prelude.{ℕ, suc, ◌-◌, ◌*◌, ◌%◌, ◌^◌, Bool, ◌==◌, nat_le, nat_lt}
use Rattle.group.specs.Exponents.{Exponents}
use Rattle.modular.specs.Squaring.{squaring}
use Rattle.modular.specs.Tests.{both, every}

abbrev pub modular : ℕ → ℕ → Exponents
modular q bits = record { order = q; inverse = λ n. (n ^ (q - 2)) % q; challenge_bits = bits }

-- The test of one inverse: the number after n, times its power by q - 2, is 1.
abbrev pub inverse_test : ℕ → ℕ → Bool
inverse_test q n = (suc n * squaring 13 q 1 (suc n) (q - 2)) % q == 1

-- The test of an order and a width of challenges: each number but 0 has its inverse, there is room for
-- the challenges, and a product of two exponents is below 2^26 before it is reduced.
abbrev pub order_test : ℕ → ℕ → Bool
order_test q bits =
    both (nat_lt 2 q) (both (nat_le q 8192) (both (nat_lt 0 bits) (both (nat_le bits 63) (both (nat_le (2 ^ bits) q) (every (inverse_test q) (q - 1))))))

-- Polynomials in t over bits, modulo t^13 + t^4 + t^3 + t + 1. Bit i of a number below 8192 is the coefficient
-- of t^i, so a sum of polynomials is the XOR of their numbers.
use Rattle.std.specs.Prelude.{ℕ, zero, suc, ◌*◌, ◌/◌, ◌%◌, bit_xor}

-- a times t: where t^13 comes up, the modulus, whose number is 8219, is taken off
unfoldable pub times_t : ℕ → ℕ
times_t a = bit_xor (2 * a) (8219 * (a / 4096))

-- a times the polynomial of the lowest n bits of b: a, a times t, and on, each where the bit of b stands
unfoldable pub product : ℕ → ℕ → ℕ → ℕ
product zero a b = 0
product (suc n) a b = bit_xor (a * (b % 2)) (product n (times_t a) (b / 2))

-- a times t^k
unfoldable pub shifted : ℕ → ℕ → ℕ
shifted zero a = a
shifted (suc k) a = times_t (shifted k a)

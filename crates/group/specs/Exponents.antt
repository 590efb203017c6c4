-- Exponents: the whole numbers below the order q of their kind.
use Rattle.std.specs.Prelude.{◌≡◌, ℕ, ◌+◌, ◌-◌, ◌*◌, ◌%◌, ◌^◌, ◌<◌, ◌≤◌}

-- What a kind of exponents is: its order q, the inverse of each number below q,
-- and the width in bits of its challenges.
pub record Exponents : Type 0 where
  pub order : ℕ
  pub inverse : ℕ → ℕ
  pub challenge_bits : ℕ

-- What every kind has to show.
pub record ExponentLaws (E : Exponents) : Type 0 where
  pub inverse_of_zero : E.inverse 0 ≡ 0
  pub inverse_below : (n : ℕ) → n < E.order → E.inverse n < E.order
  pub inverse_times : (n : ℕ) → 0 < n → n < E.order → (n * E.inverse n) % E.order ≡ 1
  pub some_bits : 1 ≤ E.challenge_bits
  pub few_bits : E.challenge_bits ≤ 63
  pub room : 2 ^ E.challenge_bits ≤ E.order

-- The exponent of a 64-bit word.
abbrev pub remainder : Exponents → ℕ → ℕ
remainder E word = word % E.order

-- The challenge of a 64-bit word: its lowest bits.
abbrev pub lowest_bits : Exponents → ℕ → ℕ
lowest_bits E word = word % 2 ^ E.challenge_bits

abbrev pub sum : Exponents → ℕ → ℕ → ℕ
sum E a b = (a + b) % E.order

abbrev pub difference : Exponents → ℕ → ℕ → ℕ
difference E a b = (a + (E.order - b)) % E.order

abbrev pub product : Exponents → ℕ → ℕ → ℕ
product E a b = (a * b) % E.order

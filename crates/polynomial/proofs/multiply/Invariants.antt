use Rattle.std.proofs.Common.{◌≡◌, ◌-◌, ◌<◌}
use lib.Bits.{bit_xor}
use Rattle.polynomial.specs.Product.{product}
use Rattle.polynomial.proofs.multiply.Given as goal

-- the sum with the product that is left is the whole product
abbrev pub invariant-loop-turn : goal.invariant-loop-turn
invariant-loop-turn l = (l.shifted < 8192) × (bit_xor l.sum (product (13 - l.turn) l.shifted l.bits) ≡ product 13 l.initial.shifted l.initial.bits)

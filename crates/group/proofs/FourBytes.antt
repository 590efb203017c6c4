-- A number and its four bytes.
use Rattle.std.proofs.Common.{◌≡◌, ℕ, ◌/◌, ◌%◌, ◌^◌, ◌<◌, get_or, ap, arith}
use Rattle.group.specs.Codes.{four_bytes}

-- a number of 32 bits has four bytes of its own
pub own_bytes : (a b : ℕ) → a < 2 ^ 32 → b < 2 ^ 32 → four_bytes a ≡ four_bytes b → a ≡ b
own_bytes a b ha hb e =
    let e0 : a / 16777216 % 256 ≡ b / 16777216 % 256 = ap (λ l. get_or l 0 0) e in
    let e1 : a / 65536 % 256 ≡ b / 65536 % 256 = ap (λ l. get_or l 1 0) e in
    let e2 : a / 256 % 256 ≡ b / 256 % 256 = ap (λ l. get_or l 2 0) e in
    let e3 : a % 256 ≡ b % 256 = ap (λ l. get_or l 3 0) e in
    omega arith

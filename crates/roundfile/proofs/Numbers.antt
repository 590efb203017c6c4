-- Numbers in bytes.
use Rattle.std.proofs.Common.{◌≡◌, ℕ, ◌+◌, ◌≤◌, cond, List, length, take, drop, Some, None, ap, le-leb}
use Rattle.roundfile.specs.Number.{number, number_at}

-- where the bytes do not end before
pub number_there : (width : ℕ) (bytes : List ℕ) (start : ℕ) → start + width ≤ length bytes → number_at width bytes start ≡ Some (number (take width (drop start bytes)))
number_there width bytes start h =
    ap (λ b. cond b (Some (number (take width (drop start bytes)))) None) (le-leb (start + width) (length bytes) h)

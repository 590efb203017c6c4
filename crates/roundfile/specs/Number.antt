-- Numbers as bytes, most significant byte first.
use Rattle.std.specs.Prelude.{ℕ, ◌+◌, ◌*◌, ◌/◌, ◌%◌, cond, List, [], ◌∷◌, length, take, drop, Some, None, Option, nat_le}

-- The number that the bytes write after others that wrote n.
abbrev pub number_after : ℕ → List ℕ → ℕ
number_after n [] = n
number_after n (byte ∷ bytes) = number_after (n * 256 + byte) bytes

abbrev pub number : List ℕ → ℕ
number bytes = number_after 0 bytes

-- The bytes from start on, as many as the width says; none where the bytes end before.
abbrev pub bytes_at : ℕ → List ℕ → ℕ → Option (List ℕ)
bytes_at width bytes start = cond (nat_le (start + width) (length bytes)) (Some (take width (drop start bytes))) None

-- The number in the bytes from start on, as many as the width says; none where the bytes end before.
abbrev pub number_at : ℕ → List ℕ → ℕ → Option ℕ
number_at width bytes start = cond (nat_le (start + width) (length bytes)) (Some (number (take width (drop start bytes)))) None

-- The two bytes that write a number below 2 ^ 16.
abbrev pub two_bytes : ℕ → List ℕ
two_bytes n = (n / 256 % 256) ∷ (n % 256) ∷ []

-- The four bytes that write a number below 2 ^ 32.
abbrev pub four_bytes : ℕ → List ℕ
four_bytes n = (n / 16777216 % 256) ∷ (n / 65536 % 256) ∷ (n / 256 % 256) ∷ (n % 256) ∷ []

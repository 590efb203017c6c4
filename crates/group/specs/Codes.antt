-- Codes as bytes in a buffer.
use Rattle.std.specs.Prelude.{◌≡◌, ℕ, ◌/◌, ◌%◌, List, [], ◌∷◌, length, Ok, Err, Result, ◌≢◌}

-- A buffer before and after a code was to be written into it: the code fills a buffer of its length, and any other is left as it was.
abbrev pub Written : {X E : Type 0} → ℕ → List ℕ → List ℕ → List ℕ → Result X E → Type 0
Written width code before after (Ok x) = (length before ≡ width) × (after ≡ code)
Written width code before after (Err e) = (length before ≢ width) × (after ≡ before)

-- The four bytes of a number, the most significant first.
abbrev pub four_bytes : ℕ → List ℕ
four_bytes n = (n / 16777216 % 256) ∷ (n / 65536 % 256) ∷ (n / 256 % 256) ∷ (n % 256) ∷ []

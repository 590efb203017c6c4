-- What a challenge source means: a reach, and one fixed word for each question below it and list of posted bytes.
use Rattle.std.specs.Prelude.{◌≡◌, ℕ, ◌<◌, ◌≤◌, min, List, length, Ok, Err, Result, bit_xor, slice_index}
use Rattle.group.specs.Exponents.{Exponents, remainder, lowest_bits}
use Rattle.refusal.specs.Table.{refused_at}
use Rattle.refusal.specs.declared.Reason.TheVariants.{BeyondReach}
use Rattle.refusal.specs.declared.Refusal.{Refusal}

pub record Words : Type 0 where
  pub reach : ℕ
  pub word : ℕ → List ℕ → ℕ

-- a tape: a list of words, read by number; the bytes are ignored
abbrev pub tape : List ℕ → Words
tape words = record { reach = length words; word = λ question posted. slice_index words question }

-- two sources joined: the XOR of both words, and the smaller reach
abbrev pub joined : Words → Words → Words
joined S T = record { reach = min S.reach T.reach; word = λ question posted. bit_xor (S.word question posted) (T.word question posted) }

-- a draw answers the word, and is refused exactly where the question is not below the reach
abbrev pub Drawn : Words → ℕ → List ℕ → ℕ → Result ℕ Refusal → Type 0
Drawn S question posted place (Ok w) = (question < S.reach) × (w ≡ S.word question posted)
Drawn S question posted place (Err f) = (S.reach ≤ question) × (f ≡ refused_at BeyondReach place)

-- The rule by which an exponent z comes from a drawn word.
abbrev pub z_of : Exponents → ℕ → ℕ
z_of E word = remainder E word

-- The rule by which a challenge c comes from a drawn word.
abbrev pub c_of : Exponents → ℕ → ℕ
c_of E word = lowest_bits E word

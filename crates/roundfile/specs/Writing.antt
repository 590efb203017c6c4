-- How a record is written.
use Rattle.std.specs.Prelude.{ℕ, cond, List, [], ◌∷◌, ◌++◌, length, drop, Ok, Err, Result, nat_lt}
use Rattle.std.specs.List.{flat_map}
use Rattle.refusal.specs.Table.{refused_at}
use Rattle.refusal.specs.declared.Reason.TheVariants.{ShortBuffer}
use Rattle.refusal.specs.declared.Refusal.{Refusal}
use Rattle.roundfile.specs.Kinds.{byte_of}
use Rattle.roundfile.specs.Number.{two_bytes, four_bytes}
use Rattle.roundfile.specs.declared.kind.Kind.{Kind}
use Rattle.roundfile.specs.declared.kind.Kind.TheVariants.{Comparator}
use Rattle.roundfile.specs.declared.parts.Comparator.{Comparator as Message}

-- The bytes of a record whose standing fields are these numbers.
abbrev pub record_bytes : Kind → ℕ → List ℕ → List ℕ
record_bytes kind map numbers = byte_of kind ∷ (two_bytes map ++ flat_map four_bytes numbers)

-- A comparator's fields from bit 0 up, and the map in which all twelve stand.
abbrev pub numbers_of : Message → List ℕ
numbers_of m =
    m.first_alpha ∷ m.first_beta ∷ m.second_alpha ∷ m.second_beta
    ∷ m.product_commitment ∷ m.product_response
    ∷ m.first_commitment ∷ m.second_commitment ∷ m.first_challenge ∷ m.second_challenge ∷ m.first_response ∷ m.second_response ∷ []

abbrev pub all_fields : ℕ
all_fields = 4095

abbrev pub comparator_bytes : Message → List ℕ
comparator_bytes m = record_bytes Comparator all_fields (numbers_of m)

-- A buffer with n bytes written to its front; one that is too short for them stays as it was, and is refused.
abbrev pub written : ℕ → List ℕ → List ℕ → List ℕ
written n bytes buffer = cond (nat_lt (length buffer) n) buffer (bytes ++ drop n buffer)

abbrev pub write_answer : ℕ → List ℕ → Result (Unit {0}) Refusal
write_answer n buffer = cond (nat_lt (length buffer) n) (Err (refused_at ShortBuffer 0)) (Ok tt)

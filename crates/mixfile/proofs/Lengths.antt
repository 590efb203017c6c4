-- How long records are.
use Rattle.std.proofs.Common.{◌≡◌, ℕ, ◌+◌, ◌*◌, List, [], ◌∷◌, ◌++◌, length, refl, ap, ◌∙◌, arith, length-append}
use Rattle.std.specs.List.{flat_map}
use Rattle.roundfile.specs.Writing.{comparator_bytes}
use Rattle.roundfile.specs.declared.parts.Comparator.{Comparator}

pub records_length : (rs : List Comparator) → length (flat_map comparator_bytes rs) ≡ 51 * length rs
records_length [] = refl
records_length (r ∷ rs) = length-append (comparator_bytes r) (flat_map comparator_bytes rs) ∙ (let rest = records_length rs in omega (arith, rest))

pub file_length : (file : List ℕ) (rs : List Comparator) → length (file ++ flat_map comparator_bytes rs) ≡ length file + 51 * length rs
file_length file rs = length-append file (flat_map comparator_bytes rs) ∙ ap (λ (n : ℕ). length file + n) (records_length rs)

-- What a round file is as a whole, and that the reader reads just these.
use Rattle.std.specs.Prelude.{◌≡◌, ℕ, ◌+◌, ◌≤◌, List, [], ◌∷◌, ◌++◌, map, length, Ok}
use Rattle.std.specs.List.{flat_map}
use Rattle.roundfile.specs.Laws.{Bytes, bytes_of, FitsFormat}
use Rattle.roundfile.specs.Reading.{Place, Found, gave, ended, mark, open_file, step}
use Rattle.roundfile.specs.Records.{Content, opening, draws, post, comparator, close, expel}

-- A record that is neither an opening nor draws.
abbrev pub Later : Content → Type 0
Later (opening map fields) = ⊥
Later (draws map fields) = ⊥
Later (post map fields) = Unit {0}
Later (comparator map fields) = Unit {0}
Later close = Unit {0}
Later expel = Unit {0}

abbrev pub IsOpening : Content → Type 0
IsOpening (opening map fields) = Unit {0}
IsOpening (draws map fields) = ⊥
IsOpening (post map fields) = ⊥
IsOpening (comparator map fields) = ⊥
IsOpening close = ⊥
IsOpening expel = ⊥

abbrev pub IsDraws : Content → Type 0
IsDraws (opening map fields) = ⊥
IsDraws (draws map fields) = Unit {0}
IsDraws (post map fields) = ⊥
IsDraws (comparator map fields) = ⊥
IsDraws close = ⊥
IsDraws expel = ⊥

-- Something holds of each record.
abbrev pub All : (Content → Type 0) → List Content → Type 0
All P [] = Unit {0}
All P (held ∷ more) = P held × All P more

-- An opening, two draws, and then none of these.
abbrev pub InOrder : List Content → Type 0
InOrder [] = ⊥
InOrder (a ∷ []) = ⊥
InOrder (a ∷ b ∷ []) = ⊥
InOrder (a ∷ b ∷ c ∷ more) = IsOpening a × IsDraws b × IsDraws c × All Later more

-- The bytes are a round file of these records: the mark and the records, one after the other.
pub record RoundFile (bytes : List ℕ) (records : List Content) : Type 0 where
  pub short : length bytes ≤ 65536
  pub whole : bytes ≡ mark ++ flat_map bytes_of records
  pub fits : All FitsFormat records
  pub order : InOrder records

-- The records with their offsets, the first at n.
abbrev pub from_offset : ℕ → List Content → List Found
from_offset n [] = []
from_offset n (held ∷ more) = record { offset = n; holds = held } ∷ from_offset (n + length (bytes_of held)) more

-- A reader at the place gives these one after the other, and comes to the end.
abbrev pub Gives : Place → List Found → Type 0
Gives p [] = step p ≡ ended
Gives p (found ∷ more) = (q : Place) × (step p ≡ gave found q) × Gives q more

-- Of a round file the reader gives each record with its offset, and then the end.
abbrev pub ReadsRoundFiles : Type 0
ReadsRoundFiles = (bytes : List ℕ) (records : List Content) → RoundFile bytes records →
    (p : Place) × (open_file bytes ≡ Ok p) × Gives p (from_offset 4 records)

-- Bytes that it reads to the end are a round file of the records that it gave, with their offsets.
abbrev pub ReadsNothingElse : Type 0
ReadsNothingElse = (bytes : List ℕ) (p : Place) (given : List Found) → Bytes bytes → open_file bytes ≡ Ok p → Gives p given →
    RoundFile bytes (map (λ f. f.holds) given) × (given ≡ from_offset 4 (map (λ f. f.holds) given))

-- The laws of files together.
pub record FileLaws : Type 0 where
  pub complete : ReadsRoundFiles
  pub sound : ReadsNothingElse

-- What holds of records as a whole, in the words of the format and not of its reader.
use Rattle.std.specs.Prelude.{◌≡◌, ℕ, ◌+◌, ◌^◌, ◌<◌, ◌≤◌, true, List, [], ◌∷◌, ◌++◌, length, is_some, Ok, nat_lt, slice_index}
use Rattle.roundfile.specs.Fields.{stands, start, field, word, default_number, comparator_of}
use Rattle.roundfile.specs.Kinds.{byte_of, field_count, size}
use Rattle.roundfile.specs.Number.{two_bytes}
use Rattle.roundfile.specs.Records.{Content, opening, draws, post, comparator, close, expel, parse}
use Rattle.roundfile.specs.Writing.{all_fields, comparator_bytes}
use Rattle.roundfile.specs.declared.kind.Kind.{Kind}
use Rattle.roundfile.specs.declared.kind.Kind.TheVariants.{Opening, Draws, Post, Comparator, Close, Expel}
use Rattle.roundfile.specs.declared.parts.Comparator.{Comparator as Message}

abbrev pub Bytes : List ℕ → Type 0
Bytes bytes = (i : ℕ) → slice_index bytes i < 256

-- The bytes of a record: its kind, its map, and its fields.
abbrev pub bytes_as : Kind → ℕ → List ℕ → List ℕ
bytes_as kind map fields = byte_of kind ∷ (two_bytes map ++ fields)

abbrev pub bytes_of : Content → List ℕ
bytes_of (opening map fields) = bytes_as Opening map fields
bytes_of (draws map fields) = bytes_as Draws map fields
bytes_of (post map fields) = bytes_as Post map fields
bytes_of (comparator map fields) = bytes_as Comparator map fields
bytes_of close = bytes_as Close 0 []
bytes_of expel = bytes_as Expel 0 []

-- A record as the format allows it: no bit stands that the kind lacks, and the fields are as long as the map says.
abbrev pub FitsAs : Kind → ℕ → List ℕ → Type 0
FitsAs kind map fields = (map < 2 ^ field_count kind) × (length fields ≡ size kind map fields)

abbrev pub FitsFormat : Content → Type 0
FitsFormat (opening map fields) = FitsAs Opening map fields
FitsFormat (draws map fields) = FitsAs Draws map fields
FitsFormat (post map fields) = FitsAs Post map fields
FitsFormat (comparator map fields) = FitsAs Comparator map fields
FitsFormat close = Unit {0}
FitsFormat expel = Unit {0}

-- What is read is the front of the bytes, and a record that the format allows.
abbrev pub ReadsTheFront : Type 0
ReadsTheFront = (bytes : List ℕ) (read : Content) (rest : List ℕ) → Bytes bytes → parse bytes ≡ Ok (read, rest) →
    (bytes ≡ bytes_of read ++ rest) × FitsFormat read

-- Each record that the format allows is read, whatever follows it.
abbrev pub ReadsAllThatFits : Type 0
ReadsAllThatFits = (held : Content) (rest : List ℕ) → FitsFormat held → parse (bytes_of held ++ rest) ≡ Ok (held, rest)

-- In a record that the format allows each field that stands has its four bytes: no default stands in for missing ones.
abbrev pub FieldsAreWhole : Type 0
FieldsAreWhole = (kind : Kind) (map : ℕ) (fields : List ℕ) (bit : ℕ) → FitsAs kind map fields → stands map bit ≡ true → start map bit + 4 ≤ length fields

-- And draws have just as many words as their count says.
abbrev pub DrawsHaveTheirWords : Type 0
DrawsHaveTheirWords = (map : ℕ) (fields : List ℕ) (index : ℕ) → FitsAs Draws map fields →
    is_some (word fields index) ≡ nat_lt index (field map fields 0 default_number)

-- The laws of records together.
pub record RecordLaws : Type 0 where
  pub front : ReadsTheFront
  pub fitting : ReadsAllThatFits
  pub fields : FieldsAreWhole
  pub words : DrawsHaveTheirWords

-- The bytes begin with a comparator of all fields whose values are these.
abbrev pub ReadsBack : Message → List ℕ → List ℕ → Type 0
ReadsBack message bytes rest = (fields : List ℕ) × (parse bytes ≡ Ok (comparator all_fields fields, rest)) × (comparator_of all_fields fields ≡ message)

-- A comparator of all fields that was read is written as the bytes that it was read from.
abbrev pub WritesWhatWasRead : Type 0
WritesWhatWasRead = (bytes fields rest : List ℕ) → Bytes bytes → parse bytes ≡ Ok (comparator all_fields fields, rest) →
    comparator_bytes (comparator_of all_fields fields) ++ rest ≡ bytes

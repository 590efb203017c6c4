-- The kinds of records, and how long the fields of each are.
use Rattle.std.specs.Prelude.{ℕ, ◌+◌, ◌*◌, cond, List, Some, None, Option, ◌==◌, count_ones}
use Rattle.std.specs.Option.{unwrap_or}
use Rattle.roundfile.specs.Number.{number_at}
use Rattle.roundfile.specs.declared.kind.Kind.{Kind}
use Rattle.roundfile.specs.declared.kind.Kind.TheVariants.{Opening, Draws, Post, Comparator, Close, Expel}

-- The kind that a record's first byte names.
abbrev pub kind_of : ℕ → Option Kind
kind_of byte =
    cond (byte == 1) (Some Opening)
    (cond (byte == 2) (Some Draws)
    (cond (byte == 3) (Some Post)
    (cond (byte == 4) (Some Comparator)
    (cond (byte == 5) (Some Close)
    (cond (byte == 6) (Some Expel) None)))))

-- The first byte of a record of the kind.
abbrev pub byte_of : Kind → ℕ
byte_of Opening = 1
byte_of Draws = 2
byte_of Post = 3
byte_of Comparator = 4
byte_of Close = 5
byte_of Expel = 6

-- How many fields a record of the kind can have: the fields of bit 0 and up.
abbrev pub field_count : Kind → ℕ
field_count Opening = 5
field_count Draws = 1
field_count Post = 2
field_count Comparator = 12
field_count Close = 0
field_count Expel = 0

-- How many bytes a count and its words take: four, and eight for each word.
abbrev pub words_size : List ℕ → ℕ
words_size bytes = 4 + 8 * unwrap_or (number_at 4 bytes 0) 0

-- How many bytes the fields take that the map names, where rest follows the map: four for each bit that stands, but for draws.
abbrev pub size : Kind → ℕ → List ℕ → ℕ
size Opening map rest = 4 * count_ones map
size Draws map rest = cond (map == 0) 0 (words_size rest)
size Post map rest = 4 * count_ones map
size Comparator map rest = 4 * count_ones map
size Close map rest = 4 * count_ones map
size Expel map rest = 4 * count_ones map

-- The fields of a record: a map of 16 bits, and the bytes of the fields whose bit stands, that of the lowest bit first.
use Rattle.std.specs.Prelude.{ℕ, ◌+◌, ◌*◌, ◌/◌, ◌%◌, ◌^◌, Bool, cond, List, map, Some, None, Option, ◌==◌, count_ones}
use Rattle.std.specs.List.{range_with_len}
use Rattle.std.specs.Option.{unwrap_or}
use Rattle.roundfile.specs.Number.{number_at}
use Rattle.roundfile.specs.declared.parts.Opening.{Opening}
use Rattle.roundfile.specs.declared.parts.Post.{Post}
use Rattle.roundfile.specs.declared.parts.Comparator.{Comparator}

-- What a field is where its bit does not stand. An element is then the one, whose code is 1.
abbrev pub default_number : ℕ
default_number = 0

abbrev pub default_element : ℕ
default_element = 1

abbrev pub default_plan : ℕ
default_plan = 1

abbrev pub default_servers : ℕ
default_servers = 1

-- Whether the bit stands; bit 0 is the lowest.
abbrev pub stands : ℕ → ℕ → Bool
stands map bit = map / 2 ^ bit % 2 == 1

-- Where a field begins: after four bytes for each lower bit that stands.
abbrev pub start : ℕ → ℕ → ℕ
start map bit = 4 * count_ones (map % 2 ^ bit)

-- Where the field of a bit begins; none where the bit does not stand.
abbrev pub start_of : ℕ → ℕ → Option ℕ
start_of map bit = cond (stands map bit) (Some (start map bit)) None

-- The field of a bit: the number in its four bytes, and its default where the bit does not stand. (Nor are bytes
-- missing in a record that was read; were they, it would be the default too.)
unfoldable pub field : ℕ → List ℕ → ℕ → ℕ → ℕ
field map bytes bit default = cond (stands map bit) (unwrap_or (number_at 4 bytes (start map bit)) default) default

-- The word at an index of draws, whose bytes are a count in four and then eight for each word.
abbrev pub word : List ℕ → ℕ → Option ℕ
word bytes index = number_at 8 bytes (4 + 8 * index)

-- All words of draws, which say in their first field how many these are.
abbrev pub words_in : ℕ → List ℕ → List ℕ
words_in bits fields = map (λ i. unwrap_or (word fields i) 0) (range_with_len 0 (field bits fields 0 default_number))

abbrev pub opening_of : ℕ → List ℕ → Opening
opening_of map bytes = record {
  group = field map bytes 0 default_number;
  plan = field map bytes 1 default_plan;
  wires = field map bytes 2 default_number;
  servers = field map bytes 3 default_servers;
  key = field map bytes 4 default_element;
}

abbrev pub post_of : ℕ → List ℕ → Post
post_of map bytes = record { alpha = field map bytes 0 default_element; beta = field map bytes 1 default_element }

abbrev pub comparator_of : ℕ → List ℕ → Comparator
comparator_of map bytes = record {
  first_alpha = field map bytes 0 default_element;
  first_beta = field map bytes 1 default_element;
  second_alpha = field map bytes 2 default_element;
  second_beta = field map bytes 3 default_element;
  product_commitment = field map bytes 4 default_element;
  product_response = field map bytes 5 default_number;
  first_commitment = field map bytes 6 default_element;
  second_commitment = field map bytes 7 default_element;
  first_challenge = field map bytes 8 default_number;
  second_challenge = field map bytes 9 default_number;
  first_response = field map bytes 10 default_number;
  second_response = field map bytes 11 default_number;
}

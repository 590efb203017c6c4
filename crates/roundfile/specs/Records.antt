-- Records, and how one is taken off the front of some bytes.
use Rattle.std.specs.Prelude.{ℕ, ◌+◌, ◌*◌, ◌/◌, ◌^◌, cond, List, [], ◌∷◌, length, take, drop, Some, None, Ok, Err, Option, Result, ◌==◌, nat_lt}
use Rattle.std.specs.Borrow.{Bor}
use Rattle.refusal.specs.declared.Reason.{Reason}
use Rattle.refusal.specs.declared.Reason.TheVariants.{ShortRecord, UnknownRecord, UnknownField}
use Rattle.roundfile.specs.Kinds.{kind_of, field_count, size}
use Rattle.roundfile.specs.declared.kind.Kind.{Kind}
use Rattle.roundfile.specs.declared.kind.Kind.TheVariants.{Opening, Draws, Post, Comparator, Close, Expel}
use Rattle.roundfile.specs.declared.record.Record.{Record}
use Rattle.roundfile.specs.declared.record.Record.TheVariants.{Opening as TheOpening, Draws as TheDraws, Post as ThePost, Comparator as TheComparator, Close as TheClose, Expel as TheExpel}

-- What a record holds: the map of its fields and their bytes.
pub data Content : Type 0 where
  opening : ℕ → List ℕ → Content
  draws : ℕ → List ℕ → Content
  post : ℕ → List ℕ → Content
  comparator : ℕ → List ℕ → Content
  close : Content
  expel : Content

-- What a record of the code holds.
abbrev pub content : Record → Content
content (TheOpening part) = opening part.fields.map part.fields.bytes.now
content (TheDraws part) = draws part.fields.map part.fields.bytes.now
content (ThePost part) = post part.fields.map part.fields.bytes.now
content (TheComparator part) = comparator part.fields.map part.fields.bytes.now
content TheClose = close
content TheExpel = expel

abbrev pub content_of : Kind → ℕ → List ℕ → Content
content_of Opening map bytes = opening map bytes
content_of Draws map bytes = draws map bytes
content_of Post map bytes = post map bytes
content_of Comparator map bytes = comparator map bytes
content_of Close map bytes = close
content_of Expel map bytes = expel

abbrev pub kind_in : Content → Kind
kind_in (opening map bytes) = Opening
kind_in (draws map bytes) = Draws
kind_in (post map bytes) = Post
kind_in (comparator map bytes) = Comparator
kind_in close = Close
kind_in expel = Expel

-- What follows the map of a record of a known kind: its fields as the map names them, and the rest.
abbrev pub parse_fields : Kind → ℕ → List ℕ → Result (Content × List ℕ) Reason
parse_fields kind map rest =
    cond (map / 2 ^ field_count kind == 0)
    (cond (nat_lt (length rest) (size kind map rest)) (Err ShortRecord)
    (Ok (content_of kind map (take (size kind map rest) rest), drop (size kind map rest) rest)))
    (Err UnknownField)

abbrev pub parse_kind : Option Kind → ℕ → List ℕ → Result (Content × List ℕ) Reason
parse_kind None map rest = Err UnknownRecord
parse_kind (Some kind) map rest = parse_fields kind map rest

-- The record at the front of the bytes, and the bytes after it; or why there is none.
abbrev pub parse : List ℕ → Result (Content × List ℕ) Reason
parse [] = Err ShortRecord
parse (kind ∷ []) = Err ShortRecord
parse (kind ∷ high ∷ []) = Err ShortRecord
parse (kind ∷ high ∷ low ∷ rest) = parse_kind (kind_of kind) (high * 256 + low) rest

-- The same of what the code answers.
abbrev pub taken : Result (Record × Bor (List ℕ)) Reason → Result (Content × List ℕ) Reason
taken (Ok answer) = Ok (content answer.0, answer.1.now)
taken (Err reason) = Err reason

-- The laws of records.
use Rattle.std.proofs.Common.{◌≡◌, ℕ, ◌+◌, ◌*◌, ◌/◌, ◌%◌, ◌^◌, ◌<◌, ◌≤◌, Bool, true, false, cond, eqb, List, [], ◌∷◌, ◌++◌, length, take, drop, Some, None, Ok, Option, unwrap_or, sym, refl, ap, ◌∙◌, subst, arith, eqb-true}
use lib.Count.{ones, ones-ones}
use Rattle.std.proofs.lemmas.List.{length-append, take_at, drop_at, take-append-le, take-append-drop, take-take, nil_from_length, length-take-le}
use Rattle.roundfile.specs.Kinds.{kind_of, byte_of, field_count, size}
use Rattle.roundfile.specs.Laws.{bytes_as, bytes_of, FitsAs, FitsFormat, ReadsTheFront, ReadsAllThatFits}
use Rattle.roundfile.specs.Number.{number, number_at, two_bytes}
use Rattle.roundfile.specs.Records.{Content, opening, draws, post, comparator, close, expel, content_of, parse, parse_kind, parse_fields}
use Rattle.roundfile.specs.declared.kind.Kind.{Kind}
use Rattle.roundfile.specs.declared.kind.Kind.TheVariants.{Opening, Draws, Post, Comparator, Close, Expel}
use Rattle.roundfile.proofs.Numbers.{number_there}
use Rattle.roundfile.proofs.Parses.{fields_there, fields_were_there}

kind_of_byte : (kind : Kind) → kind_of (byte_of kind) ≡ Some kind
kind_of_byte Opening = refl
kind_of_byte Draws = refl
kind_of_byte Post = refl
kind_of_byte Comparator = refl
kind_of_byte Close = refl
kind_of_byte Expel = refl

-- a map of bits that the kind has
no_other_bit : (kind : Kind) (map : ℕ) → map < 2 ^ field_count kind → (map / 2 ^ field_count kind ≡ 0) × (map < 65536)
no_other_bit Opening map h = (omega arith, omega arith)
no_other_bit Draws map h = (omega arith, omega arith)
no_other_bit Post map h = (omega arith, omega arith)
no_other_bit Comparator map h = (omega arith, omega arith)
no_other_bit Close map h = (omega arith, omega arith)
no_other_bit Expel map h = (omega arith, omega arith)

-- the size of draws is told by their own bytes
draws_size : (none : Bool) (fields rest : List ℕ) → length fields ≡ cond none 0 (4 + 8 * unwrap_or (number_at 4 fields 0) 0) →
    cond none 0 (4 + 8 * unwrap_or (number_at 4 (fields ++ rest) 0) 0) ≡ cond none 0 (4 + 8 * unwrap_or (number_at 4 fields 0) 0)
draws_size true fields rest h = refl
draws_size false fields rest h =
    let four : 4 ≤ length fields = omega arith in
    let more : 0 + 4 ≤ length (fields ++ rest) = omega (arith, length-append fields rest) in
    ap (λ (o : Option ℕ). 4 + 8 * unwrap_or o 0)
    (number_there 4 (fields ++ rest) 0 more ∙ ap (λ z. Some (number z)) (take-append-le 4 fields rest four) ∙ sym (number_there 4 fields 0 four))

size_same : (kind : Kind) (map : ℕ) (fields rest : List ℕ) → length fields ≡ size kind map fields → size kind map (fields ++ rest) ≡ size kind map fields
size_same Opening map fields rest h = refl
size_same Draws map fields rest h = draws_size (eqb map 0) fields rest h
size_same Post map fields rest h = refl
size_same Comparator map fields rest h = refl
size_same Close map fields rest h = refl
size_same Expel map fields rest h = refl

fits_read : (kind : Kind) (map : ℕ) (fields rest : List ℕ) → FitsAs kind map fields → parse (bytes_as kind map fields ++ rest) ≡ Ok (content_of kind map fields, rest)
fits_read kind map fields rest fit =
    let bits = no_other_bit kind map fit.0 in
    let whole : size kind map (fields ++ rest) ≡ length fields = size_same kind map fields rest fit.1 ∙ sym fit.1 in
    let joins : map / 256 % 256 * 256 + map % 256 ≡ map = omega arith in
    ap (λ k. parse_kind k (map / 256 % 256 * 256 + map % 256) (fields ++ rest)) (kind_of_byte kind)
    ∙ ap (λ m. parse_fields kind m (fields ++ rest)) joins
    ∙ fields_there kind map (fields ++ rest) bits.0 (omega (arith, length-append fields rest))
    ∙ ap (λ n. Ok (content_of kind map (take n (fields ++ rest)), drop n (fields ++ rest))) whole
    ∙ ap (λ z. Ok (content_of kind map z, drop (length fields) (fields ++ rest))) (take_at fields rest (length fields) refl)
    ∙ ap (λ z. Ok (content_of kind map fields, z)) (drop_at fields rest (length fields) refl)

nothing_fits : (kind : Kind) → size kind 0 [] ≡ 0
unfolding ones
nothing_fits Opening = refl
nothing_fits Draws = refl
nothing_fits Post = refl
nothing_fits Comparator = refl
nothing_fits Close = refl
nothing_fits Expel = refl

pub reads_all_that_fits : ReadsAllThatFits
reads_all_that_fits (opening map fields) rest fit = fits_read Opening map fields rest fit
reads_all_that_fits (draws map fields) rest fit = fits_read Draws map fields rest fit
reads_all_that_fits (post map fields) rest fit = fits_read Post map fields rest fit
reads_all_that_fits (comparator map fields) rest fit = fits_read Comparator map fields rest fit
reads_all_that_fits close rest fit = fits_read Close 0 [] rest (omega arith, sym (nothing_fits Close))
reads_all_that_fits expel rest fit = fits_read Expel 0 [] rest (omega arith, sym (nothing_fits Expel))

-- the byte of a kind that is known
picked : (byte n : ℕ) (one kind : Kind) (others : Option Kind) → n ≡ byte_of one → (others ≡ Some kind → byte ≡ byte_of kind) → (test : Bool) → eqb byte n ≡ test →
    cond test (Some one) others ≡ Some kind → byte ≡ byte_of kind
picked byte n one kind others is other true e h = let same : one ≡ kind = cc in eqb-true byte n e ∙ is ∙ ap byte_of same
picked byte n one kind others is other false e h = other h

byte_of_kind : (byte : ℕ) (kind : Kind) → kind_of byte ≡ Some kind → byte ≡ byte_of kind
byte_of_kind byte kind =
    picked byte 1 Opening kind _ refl
    (picked byte 2 Draws kind _ refl
    (picked byte 3 Post kind _ refl
    (picked byte 4 Comparator kind _ refl
    (picked byte 5 Close kind _ refl
    (picked byte 6 Expel kind _ refl (λ h. cc)
    _ refl) _ refl) _ refl) _ refl) _ refl) _ refl

-- a record of close or expel has nothing but its kind
empty : (kind : Kind) (map : ℕ) (fields : List ℕ) → map ≡ 0 → length fields ≡ 4 * ones map → bytes_as kind 0 [] ≡ bytes_as kind map fields
empty kind map fields none long =
    let nothing : fields ≡ [] = nil_from_length fields (long ∙ ap (λ n. 4 * ones n) none ∙ ap (λ n. 4 * n) (ones-ones 0)) in
    ap (λ m. bytes_as kind m []) (sym none) ∙ ap (bytes_as kind map) (sym nothing)

bytes_of_content : (kind : Kind) (map : ℕ) (fields : List ℕ) → FitsAs kind map fields → bytes_of (content_of kind map fields) ≡ bytes_as kind map fields
bytes_of_content Opening map fields fit = refl
bytes_of_content Draws map fields fit = refl
bytes_of_content Post map fields fit = refl
bytes_of_content Comparator map fields fit = refl
bytes_of_content Close map fields fit = empty Close map fields (omega arith) fit.1
bytes_of_content Expel map fields fit = empty Expel map fields (omega arith) fit.1

fits_content : (kind : Kind) (map : ℕ) (fields : List ℕ) → FitsAs kind map fields → FitsFormat (content_of kind map fields)
fits_content Opening map fields fit = fit
fits_content Draws map fields fit = fit
fits_content Post map fields fit = fit
fits_content Comparator map fields fit = fit
fits_content Close map fields fit = tt
fits_content Expel map fields fit = tt

only_its_bits : (kind : Kind) (map : ℕ) → map / 2 ^ field_count kind ≡ 0 → map < 2 ^ field_count kind
only_its_bits Opening map h = omega arith
only_its_bits Draws map h = omega arith
only_its_bits Post map h = omega arith
only_its_bits Comparator map h = omega arith
only_its_bits Close map h = omega arith
only_its_bits Expel map h = omega arith

-- the fields that were taken say their size as the bytes did that they were taken from
draws_taken : (none : Bool) (n : ℕ) (bytes : List ℕ) → n ≡ cond none 0 (4 + 8 * unwrap_or (number_at 4 bytes 0) 0) → n ≤ length bytes →
    cond none 0 (4 + 8 * unwrap_or (number_at 4 (take n bytes) 0) 0) ≡ n
draws_taken true n bytes is h = sym is
draws_taken false n bytes is h =
    let four : 4 ≤ n = omega arith in
    let long : 0 + 4 ≤ length (take n bytes) = omega (arith, length-take-le n bytes h) in
    ap (λ (o : Option ℕ). 4 + 8 * unwrap_or o 0)
    (number_there 4 (take n bytes) 0 long ∙ ap (λ z. Some (number z)) (take-take 4 n bytes four) ∙ sym (number_there 4 bytes 0 (omega arith)))
    ∙ sym is

size_taken : (kind : Kind) (map : ℕ) (bytes : List ℕ) → size kind map bytes ≤ length bytes → size kind map (take (size kind map bytes) bytes) ≡ size kind map bytes
size_taken Opening map bytes h = refl
size_taken Draws map bytes h = draws_taken (eqb map 0) (size Draws map bytes) bytes refl h
size_taken Post map bytes h = refl
size_taken Comparator map bytes h = refl
size_taken Close map bytes h = refl
size_taken Expel map bytes h = refl

front_of : (byte high low : ℕ) (more : List ℕ) (read : Content) (rest : List ℕ) (known : Option Kind) → kind_of byte ≡ known → high < 256 → low < 256 →
    parse_kind known (high * 256 + low) more ≡ Ok (read, rest) → (byte ∷ high ∷ low ∷ more ≡ bytes_of read ++ rest) × FitsFormat read
front_of byte high low more read rest None e hi lo h = cc
front_of byte high low more read rest (Some kind) e hi lo h =
    let map : ℕ = high * 256 + low in
    let n : ℕ = size kind map more in
    let facts = fields_were_there kind map more (read, rest) h in
    let fit : FitsAs kind map (take n more) =
    (only_its_bits kind map facts.0, length-take-le n more facts.1 ∙ sym (size_taken kind map more facts.1)) in
    let is : content_of kind map (take n more) ≡ read = ap (λ (u : Content × List ℕ). u.0) facts.2 in
    let left : drop n more ≡ rest = ap (λ (u : Content × List ℕ). u.1) facts.2 in
    let halves : high ∷ low ∷ [] ≡ two_bytes map = ap (λ a. a ∷ low ∷ []) (omega arith) ∙ ap (λ b. (map / 256 % 256) ∷ b ∷ []) (omega arith) in
    let whole : byte ∷ high ∷ low ∷ more ≡ bytes_as kind map (take n more) ++ drop n more =
    ap (λ b. b ∷ high ∷ low ∷ more) (byte_of_kind byte kind e)
    ∙ ap (λ m. byte_of kind ∷ (m ++ more)) halves
    ∙ ap (λ z. byte_of kind ∷ (two_bytes map ++ z)) (sym (take-append-drop n more)) in (
      whole ∙ ap (λ z. z ++ drop n more) (sym (bytes_of_content kind map (take n more) fit)) ∙ ap (λ z. bytes_of z ++ drop n more) is ∙ ap (λ z. bytes_of read ++ z) left,
      subst FitsFormat is (fits_content kind map (take n more) fit),
    )

pub reads_the_front : ReadsTheFront
reads_the_front [] read rest bytes h = cc
reads_the_front (a ∷ []) read rest bytes h = cc
reads_the_front (a ∷ b ∷ []) read rest bytes h = cc
reads_the_front (a ∷ b ∷ c ∷ more) read rest bytes h = front_of a b c more read rest (kind_of a) refl (bytes 1) (bytes 2) h

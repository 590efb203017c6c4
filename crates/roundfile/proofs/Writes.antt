-- A record of numbers, written into a buffer one number after the other.
use Rattle.std.proofs.Common.{◌≡◌, ℕ, ◌+◌, ◌*◌, ◌<◌, ◌≤◌, List, [], ◌∷◌, ◌++◌, length, get_or, take, drop, sym, refl, ap, ◌∙◌, arith}
use Rattle.std.proofs.lemmas.List.{append_assoc, length-append, length-take-le, take_at, drop_at, drop-drop, take_more, take_all, flat_map_more}
use Rattle.std.specs.List.{flat_map}
use Rattle.roundfile.specs.Kinds.{byte_of}
use Rattle.roundfile.specs.Number.{two_bytes, four_bytes}
use Rattle.roundfile.specs.Writing.{record_bytes}
use Rattle.roundfile.specs.declared.kind.Kind.{Kind}

pub length_joined : (numbers : List ℕ) → length (flat_map four_bytes numbers) ≡ 4 * length numbers
length_joined [] = refl
length_joined (n ∷ numbers) = omega (arith, length_joined numbers)

-- a buffer that began as start, after i numbers
abbrev pub after_numbers : List ℕ → List ℕ → ℕ → List ℕ
after_numbers start numbers i = (take 3 start ++ flat_map four_bytes (take i numbers)) ++ drop (3 + 4 * i) start

pub one_more : (start numbers buffer : List ℕ) (i n : ℕ) → i < length numbers → 3 + 4 * length numbers ≤ length start → n ≡ get_or numbers i 0 →
    buffer ≡ after_numbers start numbers i →
    take (3 + 4 * i) buffer ++ (four_bytes n ++ drop (3 + 4 * i + 4) buffer) ≡ after_numbers start numbers (i + 1)
one_more start numbers buffer i n within enough is was =
    let front : List ℕ = take 3 start ++ flat_map four_bytes (take i numbers) in
    let behind : List ℕ = drop (3 + 4 * i) start in
    let long : length front ≡ 3 + 4 * i =
    omega (
      arith,
      length-append (take 3 start) (flat_map four_bytes (take i numbers)),
      length-take-le 3 start (omega arith),
      length_joined (take i numbers),
      length-take-le i numbers (omega arith),
    ) in
    let first : take (3 + 4 * i) buffer ≡ front = ap (take (3 + 4 * i)) was ∙ take_at front behind (3 + 4 * i) long in
    let last : drop (3 + 4 * i + 4) buffer ≡ drop (3 + 4 * (i + 1)) start =
    sym (drop-drop 4 (3 + 4 * i) buffer)
    ∙ ap (λ z. drop 4 (drop (3 + 4 * i) z)) was
    ∙ ap (drop 4) (drop_at front behind (3 + 4 * i) long)
    ∙ drop-drop 4 (3 + 4 * i) start
    ∙ ap (λ k. drop k start) (omega arith) in
    let more : front ++ four_bytes n ≡ take 3 start ++ flat_map four_bytes (take (i + 1) numbers) =
    flat_map_more four_bytes (take 3 start) (take i numbers) n
    ∙ ap (λ z. take 3 start ++ flat_map four_bytes (take i numbers ++ z ∷ [])) is
    ∙ ap (λ z. take 3 start ++ flat_map four_bytes z) (sym (take_more numbers i 0 within)) in
    ap (λ z. z ++ (four_bytes n ++ drop (3 + 4 * i + 4) buffer)) first
    ∙ ap (λ z. front ++ (four_bytes n ++ z)) last
    ∙ sym (append_assoc front (four_bytes n) (drop (3 + 4 * (i + 1)) start))
    ∙ ap (λ z. z ++ drop (3 + 4 * (i + 1)) start) more

-- and after all of them
pub all_numbers : (kind : Kind) (map : ℕ) (numbers entry start : List ℕ) → start ≡ byte_of kind ∷ (two_bytes map ++ drop 3 entry) →
    after_numbers start numbers (length numbers) ≡ record_bytes kind map numbers ++ drop (3 + 4 * length numbers) entry
all_numbers kind map numbers entry start is =
    ap (λ z. after_numbers z numbers (length numbers)) is
    ∙ ap (λ z. (byte_of kind ∷ (two_bytes map ++ flat_map four_bytes z)) ++ drop (3 + 4 * length numbers) (byte_of kind ∷ (two_bytes map ++ drop 3 entry))) (take_all (length numbers) numbers (omega arith))
    ∙ ap (λ z. record_bytes kind map numbers ++ z)
    (sym (drop-drop (4 * length numbers) 3 (byte_of kind ∷ (two_bytes map ++ drop 3 entry))) ∙ drop-drop (4 * length numbers) 3 entry)

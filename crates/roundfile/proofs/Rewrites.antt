-- A comparator of all fields is read as it was written, and written as it was read.
use Rattle.std.proofs.Common.{◌≡◌, ℕ, zero, suc, ◌+◌, ◌*◌, ◌/◌, ◌%◌, ◌^◌, ◌<◌, ◌≤◌, true, List, [], ◌∷◌, ◌++◌, length, get_or, take, drop, Ok, unwrap_or, sym, refl, ap, ◌∙◌, subst, inl, inr, arith, lit<, shr-shr}
use lib.Count.{ones, ones-ones}
use Rattle.std.proofs.lemmas.List.{drop-drop, drop_all, drop_more, take-append-drop, get_or-drop, get_or_append_left, get_or_past, length-drop}
use Rattle.std.proofs.lemmas.Bool.{cond-true, cases_lt}
use Rattle.std.specs.List.{flat_map}
use Rattle.roundfile.specs.Fields.{default_number, default_element, stands, field, comparator_of}
use Rattle.roundfile.specs.Laws.{Bytes, WritesWhatWasRead}
use Rattle.roundfile.specs.Number.{number, number_at, four_bytes}
use Rattle.roundfile.specs.Records.{comparator, parse}
use Rattle.roundfile.specs.Writing.{all_fields, numbers_of, comparator_bytes}
use Rattle.roundfile.specs.declared.parts.Comparator.{Comparator as Message}
use Rattle.roundfile.proofs.Laws.{reads_all_that_fits, reads_the_front}
use Rattle.roundfile.proofs.Numbers.{number_there}

number_of_four : (n : ℕ) → n < 2 ^ 32 → number (four_bytes n) ≡ n
number_of_four n h =
    let top : n / 16777216 % 256 ≡ n / 16777216 = omega arith in
    omega (arith, shr-shr n 8 8, shr-shr n 16 8)

four_of_number : (bytes : List ℕ) → 4 ≤ length bytes → Bytes bytes → four_bytes (number (take 4 bytes)) ≡ take 4 bytes
four_of_number [] h small = absurd (omega arith)
four_of_number (a ∷ []) h small = absurd (omega arith)
four_of_number (a ∷ b ∷ []) h small = absurd (omega arith)
four_of_number (a ∷ b ∷ c ∷ []) h small = absurd (omega arith)
four_of_number (a ∷ b ∷ c ∷ d ∷ more) h small =
    let n : ℕ = number (a ∷ b ∷ c ∷ d ∷ []) in
    let e0 : n / 16777216 % 256 ≡ a = omega (arith, small 0, small 1, small 2, small 3) in
    let e1 : n / 65536 % 256 ≡ b = omega (arith, small 0, small 1, small 2, small 3) in
    let e2 : n / 256 % 256 ≡ c = omega (arith, small 0, small 1, small 2, small 3) in
    let e3 : n % 256 ≡ d = omega (arith, small 0, small 1, small 2, small 3) in
    cc

-- a field among all, as it is read
full_field : (fields : List ℕ) (bit default : ℕ) → stands all_fields bit ≡ true → ones (all_fields % 2 ^ bit) ≡ bit → 4 * bit + 4 ≤ length fields →
    field all_fields fields bit default ≡ number (take 4 (drop (4 * bit) fields))
unfolding field
full_field fields bit default standing place there =
    cond-true _ _ _ standing
    ∙ ap (λ n. unwrap_or (number_at 4 fields (4 * n)) default) place
    ∙ ap (λ o. unwrap_or o default) (number_there 4 fields (4 * bit) there)

-- the numbers of a comparator, as they are read from all its fields
numbers_from : ℕ → ℕ → List ℕ → List ℕ
numbers_from i zero fields = []
numbers_from i (suc k) fields = number (take 4 (drop (4 * i) fields)) ∷ numbers_from (i + 1) k fields

numbers_read : (fields : List ℕ) → length fields ≡ 48 → numbers_of (comparator_of all_fields fields) ≡ numbers_from 0 12 fields
unfolding numbers_from
numbers_read fields long =
    let e0 = full_field fields 0 default_element refl (ones-ones 0) (omega arith) in
    let e1 = full_field fields 1 default_element refl (ones-ones 1) (omega arith) in
    let e2 = full_field fields 2 default_element refl (ones-ones 2) (omega arith) in
    let e3 = full_field fields 3 default_element refl (ones-ones 3) (omega arith) in
    let e4 = full_field fields 4 default_element refl (ones-ones 4) (omega arith) in
    let e5 = full_field fields 5 default_number refl (ones-ones 5) (omega arith) in
    let e6 = full_field fields 6 default_element refl (ones-ones 6) (omega arith) in
    let e7 = full_field fields 7 default_element refl (ones-ones 7) (omega arith) in
    let e8 = full_field fields 8 default_number refl (ones-ones 8) (omega arith) in
    let e9 = full_field fields 9 default_number refl (ones-ones 9) (omega arith) in
    let e10 = full_field fields 10 default_number refl (ones-ones 10) (omega arith) in
    let e11 = full_field fields 11 default_number refl (ones-ones 11) (omega arith) in
    cc

-- numbers that were written are read again
number_written : (numbers : List ℕ) (i : ℕ) → i < length numbers → take 4 (drop (4 * i) (flat_map four_bytes numbers)) ≡ four_bytes (get_or numbers i 0)
number_written [] i h = absurd (omega arith)
number_written (n ∷ numbers) zero h = refl
number_written (n ∷ numbers) (suc i) h =
    let further : 4 * suc i ≡ 4 + 4 * i = omega arith in
    ap (λ k. take 4 (drop k (four_bytes n ++ flat_map four_bytes numbers))) further
    ∙ ap (take 4) (sym (drop-drop (4 * i) 4 (four_bytes n ++ flat_map four_bytes numbers)))
    ∙ number_written numbers i (omega arith)

numbers_back : (numbers : List ℕ) (i k : ℕ) → i + k ≡ length numbers → ((j : ℕ) → get_or numbers j 0 < 2 ^ 32) → numbers_from i k (flat_map four_bytes numbers) ≡ drop i numbers
unfolding numbers_from
numbers_back numbers i zero long fits = sym (drop_all i numbers (omega arith))
numbers_back numbers i (suc k) long fits =
    let within : i < length numbers = omega arith in
    ap (λ n. n ∷ numbers_from (i + 1) k (flat_map four_bytes numbers)) (ap number (number_written numbers i within) ∙ number_of_four (get_or numbers i 0) (fits i))
    ∙ ap (λ z. get_or numbers i 0 ∷ z) (numbers_back numbers (i + 1) k (omega arith) fits)
    ∙ sym (drop_more numbers i 0 within)

-- bytes that were read are written again
bytes_back : (fields : List ℕ) (i k : ℕ) → 4 * (i + k) ≡ length fields → Bytes fields → flat_map four_bytes (numbers_from i k fields) ≡ drop (4 * i) fields
unfolding numbers_from
bytes_back fields i zero long small = sym (drop_all (4 * i) fields (omega arith))
bytes_back fields i (suc k) long small =
    let there : 4 ≤ length (drop (4 * i) fields) = omega (arith, length-drop (4 * i) fields) in
    let further : 4 * (i + 1) ≡ 4 * i + 4 = omega arith in
    let bytes : Bytes (drop (4 * i) fields) = λ j. subst (λ n. n < 256) (sym (get_or-drop (4 * i) fields j 0)) (small (4 * i + j)) in
    ap (λ z. z ++ flat_map four_bytes (numbers_from (i + 1) k fields)) (four_of_number (drop (4 * i) fields) there bytes)
    ∙ ap (λ z. take 4 (drop (4 * i) fields) ++ z)
    (bytes_back fields (i + 1) k (omega arith) small ∙ ap (λ n. drop n fields) further ∙ sym (drop-drop 4 (4 * i) fields))
    ∙ take-append-drop 4 (drop (4 * i) fields)

-- the comparator that has these numbers from bit 0 up
message_of : List ℕ → Message
message_of n = record {
  first_alpha = get_or n 0 0;
  first_beta = get_or n 1 0;
  second_alpha = get_or n 2 0;
  second_beta = get_or n 3 0;
  product_commitment = get_or n 4 0;
  product_response = get_or n 5 0;
  first_commitment = get_or n 6 0;
  second_commitment = get_or n 7 0;
  first_challenge = get_or n 8 0;
  second_challenge = get_or n 9 0;
  first_response = get_or n 10 0;
  second_response = get_or n 11 0;
}

pub values_back : (m : Message) → ((i : ℕ) → get_or (numbers_of m) i 0 < 2 ^ 32) → comparator_of all_fields (flat_map four_bytes (numbers_of m)) ≡ m
unfolding message_of
values_back m fits =
    ap message_of (numbers_read (flat_map four_bytes (numbers_of m)) refl ∙ numbers_back (numbers_of m) 0 12 refl fits)

part_small : (fields rest : List ℕ) → ((i : ℕ) → get_or (fields ++ rest) i 0 < 256) → Bytes fields
part_small fields rest small i =
    elim (cases_lt i (length fields)) [
      | inl within ↦ subst (λ n. n < 256) (get_or_append_left fields rest 0 i within) (small i)
      | inr past ↦ subst (λ n. n < 256) (sym (get_or_past fields i 0 past)) (lit< tt)
    ]

-- the laws that the writer's contract names
pub reads_back : (m : Message) (rest : List ℕ) → parse (comparator_bytes m ++ rest) ≡ Ok (comparator all_fields (flat_map four_bytes (numbers_of m)), rest)
reads_back m rest =
    reads_all_that_fits (comparator all_fields (flat_map four_bytes (numbers_of m))) rest (omega arith, ap (λ n. 4 * n) (sym (ones-ones 12)))

pub writes_what_was_read : WritesWhatWasRead
writes_what_was_read bytes fields rest small h =
    let front = reads_the_front bytes (comparator all_fields fields) rest small h in
    let long : length fields ≡ 48 = front.1.1 ∙ ap (λ n. 4 * n) (ones-ones 12) in
    let head : List ℕ = 4 ∷ 15 ∷ 255 ∷ [] in
    let whole : Bytes (head ++ (fields ++ rest)) = subst Bytes front.0 small in
    ap (λ z. (head ++ flat_map four_bytes z) ++ rest) (numbers_read fields long)
    ∙ ap (λ z. (head ++ z) ++ rest) (bytes_back fields 0 12 (sym long) (part_small fields rest (λ i. whole (suc (suc (suc i))))))
    ∙ sym front.0

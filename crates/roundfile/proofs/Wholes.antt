-- Records that the format allows lack none of their fields' bytes.
use Rattle.std.proofs.Common.{◌≡◌, ℕ, ◌+◌, ◌*◌, ◌/◌, ◌%◌, ◌^◌, ◌<◌, ◌≤◌, Bool, true, false, cond, eqb, ltb, leb, List, length, take, drop, is_some, Some, None, unwrap_or, sym, refl, ap, ◌∙◌, inl, inr, mod-lt, arith, pow_pos, le-ltb, lt-ltb, eqb-true, le-leb}
use borrow.Author.Tests.{eqb-false, lt-leb}
use lib.Count.{ones, ones_step, ones_cat, ones-ones, ones-le}
use lib.Pow.{split}
use Rattle.std.proofs.lemmas.Bool.{cases_lt, cond-true, cond-false}
use Rattle.roundfile.specs.Fields.{stands, start, field, word, default_number}
use Rattle.roundfile.specs.Laws.{FieldsAreWhole, DrawsHaveTheirWords, RecordLaws}
use Rattle.roundfile.specs.Number.{number, number_at}
use Rattle.roundfile.specs.declared.kind.Kind.TheVariants.{Opening, Draws, Post, Comparator, Close, Expel}
use Rattle.roundfile.proofs.Laws.{reads_the_front, reads_all_that_fits}

-- a bit that stands is not among the lower ones
one_more_stands : (map bit : ℕ) → stands map bit ≡ true → ones (map % 2 ^ bit) + 1 ≤ ones map
one_more_stands map bit stand =
    let high : ℕ = map / 2 ^ bit in
    let apart : ones map ≡ ones high + ones (map % 2 ^ bit) = ap ones (sym (split map bit)) ∙ ones_cat bit high (map % 2 ^ bit) (mod-lt map (pow_pos bit)) in
    omega (arith, ones_step high, eqb-true (high % 2) 1 stand)

draws_whole : (none : Bool) (map bit count : ℕ) → eqb map 0 ≡ none → map < 2 → ones (map % 2 ^ bit) + 1 ≤ ones map → start map bit + 4 ≤ cond none 0 (4 + 8 * count)
draws_whole true map bit count is few more = absurd (omega (arith, ap ones (eqb-true map 0 is) ∙ ones-ones 0))
draws_whole false map bit count is few more = omega (arith, ones-le 1 map few)

fields_are_whole : FieldsAreWhole
fields_are_whole Opening map fields bit fit stand = omega (arith, one_more_stands map bit stand, fit.1)
fields_are_whole Draws map fields bit fit stand =
    let more = one_more_stands map bit stand in
    let room = draws_whole (eqb map 0) map bit (unwrap_or (number_at 4 fields 0) 0) refl fit.0 more in
    omega (arith, room, fit.1)
fields_are_whole Post map fields bit fit stand = omega (arith, one_more_stands map bit stand, fit.1)
fields_are_whole Comparator map fields bit fit stand = omega (arith, one_more_stands map bit stand, fit.1)
fields_are_whole Close map fields bit fit stand = omega (arith, one_more_stands map bit stand, fit.1)
fields_are_whole Expel map fields bit fit stand = omega (arith, one_more_stands map bit stand, fit.1)

there : {X : Type 0} (b : Bool) (x : X) → is_some (cond b (Some x) None) ≡ b
there true x = refl
there false x = refl

-- so many words as bytes
word_there : (fields : List ℕ) (index count : ℕ) → length fields ≡ 4 + 8 * count → is_some (word fields index) ≡ ltb index count
word_there fields index count long =
    there (leb (4 + 8 * index + 8) (length fields)) (number (take 8 (drop (4 + 8 * index) fields)))
    ∙ elim (cases_lt index count) [
      | inl less ↦ le-leb (4 + 8 * index + 8) (length fields) (omega arith) ∙ sym (lt-ltb index count less)
      | inr past ↦ lt-leb (4 + 8 * index + 8) (length fields) (omega arith) ∙ sym (le-ltb index count past)
    ]

no_word : (fields : List ℕ) (index : ℕ) → length fields ≡ 0 → is_some (word fields index) ≡ false
no_word fields index none =
    there (leb (4 + 8 * index + 8) (length fields)) (number (take 8 (drop (4 + 8 * index) fields)))
    ∙ lt-leb (4 + 8 * index + 8) (length fields) (omega arith)

words_of : (none : Bool) (map : ℕ) (fields : List ℕ) (index : ℕ) → eqb map 0 ≡ none → map < 2 → length fields ≡ cond none 0 (4 + 8 * unwrap_or (number_at 4 fields 0) 0) →
    is_some (word fields index) ≡ ltb index (field map fields 0 default_number)
unfolding field
words_of true map fields index is few long =
    let absent : stands map 0 ≡ false = ap (λ m. stands m 0) (eqb-true map 0 is) in
    no_word fields index long
    ∙ sym (le-ltb index 0 (omega arith))
    ∙ ap (ltb index) (sym (cond-false _ _ _ absent))
words_of false map fields index is few long =
    let one : map ≡ 1 = omega (arith, eqb-false map 0 is) in
    let standing : stands map 0 ≡ true = ap (λ m. stands m 0) one in
    let front : start map 0 ≡ 0 = ap (λ m. start m 0) one ∙ ap (λ n. 4 * n) (ones-ones 0) in
    word_there fields index (unwrap_or (number_at 4 fields 0) 0) long
    ∙ ap (λ n. ltb index (unwrap_or (number_at 4 fields n) 0)) (sym front)
    ∙ ap (ltb index) (sym (cond-true _ _ _ standing))

draws_have_their_words : DrawsHaveTheirWords
draws_have_their_words map fields index fit = words_of (eqb map 0) map fields index refl fit.0 fit.1

pub record_laws : RecordLaws
record_laws = record { front = reads_the_front; fitting = reads_all_that_fits; fields = fields_are_whole; words = draws_have_their_words }

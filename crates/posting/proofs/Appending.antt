-- Codes that were written one after another.
use Rattle.std.proofs.Common.{◌≡◌, ℕ, ◌+◌, ◌*◌, List, [], ◌∷◌, ◌++◌, length, take, Ok, Err, Result, sym, refl, ap, ◌∙◌, append_assoc, append-nil, add-mul, arith, length-append, subst}
use Rattle.group.specs.Codes.{Written}
use Rattle.group.specs.Operations.{Operations}
use Rattle.posting.specs.Posting.{codes, Appended}

pub codes_append : {P : Type 0} (G : Operations P) (xs ys : List P) → codes G (xs ++ ys) ≡ codes G xs ++ codes G ys
unfolding codes
codes_append G [] ys = refl
codes_append G (x ∷ xs) ys = ap (λ l. G.code x ++ l) (codes_append G xs ys) ∙ sym (append_assoc (G.code x) (codes G xs) (codes G ys))

pub codes_one : {P : Type 0} (G : Operations P) (x : P) → codes G (x ∷ []) ≡ G.code x
unfolding codes
codes_one G x = append-nil (G.code x)

-- some points and then some more
pub appended_both : {P : Type 0} {G : Operations P} {xs ys : List P} {at mid end : ℕ} {before between after : List ℕ}
    → Appended G xs at mid before between → Appended G ys mid end between after → Appended G (xs ++ ys) at end before after
appended_both {P} {G} {xs} {ys} {at} {mid} {end} {before} {between} {after} p q = record {
  ends =
      let long : length (xs ++ ys) * G.width ≡ length xs * G.width + length ys * G.width =
      ap (λ (n : ℕ). n * G.width) (length-append xs ys) ∙ add-mul (length xs) (length ys) G.width in
      omega (arith, p.ends, q.ends);
  bytes =
      q.bytes ∙ ap (λ l. l ++ codes G ys) p.bytes ∙ append_assoc (take at before) (codes G xs) (codes G ys)
      ∙ ap (λ l. take at before ++ l) (sym (codes_append G xs ys));
}

-- a code is written where the buffer has its length
pub written_fits : {X E : Type 0} (width : ℕ) (code before after : List ℕ) (r : Result X E) → Written width code before after r → length before ≡ width → after ≡ code
written_fits width code before after (Ok x) w h = w.1
written_fits width code before after (Err e) w h = absurd (w.0 h)

pub appended_none : {P : Type 0} (G : Operations P) (at : ℕ) (buffer : List ℕ) → Appended G [] at at buffer buffer
unfolding codes
appended_none G at buffer = record { ends = omega arith; bytes = sym (append-nil (take at buffer)) }

-- what was written from the buffer's front on
pub front : {P : Type 0} {G : Operations P} {xs : List P} {at end : ℕ} {before after : List ℕ} → Appended G xs at end before after → at ≡ 0 → take end after ≡ codes G xs
front {P} {G} {xs} {at} {end} {before} {after} p e = let Q : ℕ → Type 0 = λ k. take end after ≡ take k before ++ codes G xs in subst Q e p.bytes

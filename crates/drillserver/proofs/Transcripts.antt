-- Transcripts that a task's maker makes: they fit, they are accepted, and they show the exponent.
use Rattle.std.proofs.Common.{◌≡◌, ℕ, ◌+◌, ◌%◌, ◌^◌, ◌<◌, Bool, true, false, eqb, [], ◌∷◌, sym, refl, ap, ◌∙◌, ap₂, add_comm, lt-ltb}
use native.Mathlib.Nat.{zero-mod}
use borrow.Author.Tests.{eqb-false}
use Rattle.algebra.proofs.Solver.{var, unity, ◌⊕◌, ◌⊗◌, ⊝◌, pt, ◌·◌, inv, ◌^◌ as ◌↑◌, given, solve}
use Rattle.drill.proofs.Powers.{by_remainder, by_sum, by_product, by_difference, by_inverse, base_tells, undone, remainder_below}
use Rattle.elgamal.specs.Ciphertexts.{multiplied, reencrypted}
use Rattle.elgamal.specs.declared.Ciphertext.{Ciphertext}
use Rattle.equivalence.proofs.SamePoint.{point_same}
use Rattle.equivalence.specs.Equations.{folded_key, folded_quotient, accepted}
use Rattle.group.proofs.Powers.{power_first}
use Rattle.group.specs.Exponents.{Exponents, ExponentLaws, remainder, sum, difference, product}
use Rattle.group.specs.Operations.{Operations, GroupLaws, power, quotient}
use Rattle.witness.specs.Refusals.{both, answer_fits, transcript_fits, transcript_accepted}
use Rattle.witness.specs.Samples.{gamma}
use Rattle.witness.specs.declared.posted.Answer.{Answer}
use Rattle.witness.specs.declared.posted.Challenges.{Challenges}
use Rattle.drillserver.proofs.Challenges.{Fair, fair_exponents}
use Rattle.drillserver.proofs.Made.{answering_by_b, answering_quotient}
use Rattle.drillserver.specs.Answering.{made_answer, proved_transcript, simulated_transcript}
use Rattle.drillserver.specs.Knowledge.{reencryption_known, answering}

module _ {P : Type 0} {G : Operations P} (laws : GroupLaws G) where
  -- the folded quotient of a ciphertext and its re-encrypting is a power of the folded key
  pub quotient_power : (y : P) (c : Ciphertext P) (r z : ℕ) → folded_quotient G c (reencrypted G y c r) z ≡ power G (folded_key G y z) r
  quotient_power y c r z =
      solve laws (z ∷ r ∷ []) (y ∷ G.base ∷ c.alpha ∷ c.beta ∷ [])
      (((pt 2 · pt 0 ↑ var 1) · inv (pt 2)) ↑ var 0 · ((pt 3 · pt 1 ↑ var 1) · inv (pt 3))) ((pt 0 ↑ var 0 · pt 1) ↑ var 1) [] tt refl

  -- an answer that was chosen before its commitment is accepted
  simulated_accepted : (K Y : P) (c s : ℕ) → accepted G K Y (quotient G (power G K s) (power G Y c)) c s ≡ true
  simulated_accepted K Y c s =
      point_same laws _ _ (solve laws (c ∷ s ∷ []) (K ∷ Y ∷ []) (pt 0 ↑ var 1) ((pt 0 ↑ var 1 · inv (pt 1 ↑ var 0)) · pt 1 ↑ var 0) [] tt refl)

  pub simulated_transcript_accepted : (y : P) (old new : Ciphertext P) (z s c : ℕ)
      → transcript_accepted G y old new z (simulated_transcript G (folded_key G y z) (folded_quotient G old new z) s c) ≡ true
  simulated_transcript_accepted y old new z s c =
      let a = simulated_accepted (folded_key G y z) (folded_quotient G old new z) c s in
      ap₂ both a a

module _ {P : Type 0} {G : Operations P} (laws : GroupLaws G) {E : Exponents} (exponents : ExponentLaws E) (same : G.order ≡ E.order) where
  -- two ciphertexts and both re-encrypted, multiplied, in either order
  pub product_power : (y : P) (c d : Ciphertext P) (r s z : ℕ)
      → folded_quotient G (multiplied G c d) (multiplied G (reencrypted G y c r) (reencrypted G y d s)) z ≡ power G (folded_key G y z) (sum E r s)
  product_power y c d r s z =
      solve laws (z ∷ r ∷ s ∷ []) (y ∷ G.base ∷ c.alpha ∷ c.beta ∷ d.alpha ∷ d.beta ∷ [])
      ((((pt 2 · pt 0 ↑ var 1) · (pt 4 · pt 0 ↑ var 2)) · inv (pt 2 · pt 4)) ↑ var 0 · (((pt 3 · pt 1 ↑ var 1) · (pt 5 · pt 1 ↑ var 2)) · inv (pt 3 · pt 5)))
      ((pt 0 ↑ var 0 · pt 1) ↑ (var 1 ⊕ var 2)) [] tt refl
      ∙ sym (by_remainder laws exponents same (folded_key G y z) (r + s))

  pub product_swapped : (y : P) (c d : Ciphertext P) (r s z : ℕ)
      → folded_quotient G (multiplied G c d) (multiplied G (reencrypted G y d r) (reencrypted G y c s)) z ≡ power G (folded_key G y z) (sum E r s)
  product_swapped y c d r s z =
      ap (λ n. folded_quotient G (multiplied G c d) n z) turned ∙ product_power y c d s r z ∙ by_remainder laws exponents same (folded_key G y z) (s + r) ∙ back
    where
      turned : multiplied G (reencrypted G y d r) (reencrypted G y c s) ≡ multiplied G (reencrypted G y c s) (reencrypted G y d r)
      turned = ap₂ (λ a b. record { alpha = a; beta = b }) (laws.commutative _ _) (laws.commutative _ _)

      back : power G (folded_key G y z) (s + r) ≡ power G (folded_key G y z) (sum E r s)
      back =
          solve laws (r ∷ s ∷ []) (folded_key G y z ∷ []) (pt 0 ↑ (var 1 ⊕ var 0)) (pt 0 ↑ (var 0 ⊕ var 1)) [] tt refl
          ∙ sym (by_remainder laws exponents same (folded_key G y z) (r + s))

  -- what is left of the sum of two, less either
  pub left_of_sum : (a b : ℕ) → a < E.order → b < E.order → difference E (sum E a b) a ≡ b
  left_of_sum a b ha hb =
      base_tells laws exponents same _ b (remainder_below laws exponents same _) hb
      (by_difference laws exponents same G.base (sum E a b) a ha
      ∙ ap (λ x. quotient G x (power G G.base a)) (by_sum laws exponents same G.base a b)
      ∙ solve laws (a ∷ b ∷ []) (G.base ∷ []) (pt 0 ↑ var 0 · pt 0 ↑ var 1 · inv (pt 0 ↑ var 0)) (pt 0 ↑ var 1) [] tt refl)

  pub left_of_other : (a b : ℕ) → a < E.order → b < E.order → difference E (sum E a b) b ≡ a
  left_of_other a b ha hb = ap (λ (n : ℕ). difference E (n % E.order) b) (add_comm a b) ∙ left_of_sum b a hb ha

  -- Who re-encrypted by r answers by r at every z: (x·r·z + r) / (x·z + 1) = r.
  pub answering_own : (x r z : ℕ) → r < E.order → answering E x (reencryption_known E x r) z ≡ r
  answering_own x r z h = go (eqb (sum E (product E x z) (remainder E 1)) (remainder E 0)) refl
    where
      go : (t : Bool) → eqb (sum E (product E x z) (remainder E 1)) (remainder E 0) ≡ t → answering E x (reencryption_known E x r) z ≡ r
      go true e = answering_by_b E x (reencryption_known E x r) z e
      go false e =
          let g = G.base in
          let b = sum E (product E x z) (remainder E 1) in
          let i = E.inverse b in
          let a = product E (product E x r) z in
          let apart : b ≡ 0 → ⊥ = λ n. eqb-false b (remainder E 0) e (n ∙ sym (zero-mod E.order)) in
          let below_power = by_sum laws exponents same g (product E x z) (remainder E 1)
          ∙ ap₂ G.times (by_product laws exponents same g x z) (by_remainder laws exponents same g 1 ∙ power_first laws g) in
          answering_quotient E x (reencryption_known E x r) z e
          ∙ base_tells laws exponents same _ r (remainder_below laws exponents same _) h
          (by_product laws exponents same g (sum E a r) i
          ∙ ap (λ p. power G p i) (by_sum laws exponents same g a r
          ∙ ap (λ p. G.times p (power G g r)) (by_product laws exponents same g (product E x r) z ∙ ap (λ p. power G p z) (by_product laws exponents same g x r)))
          ∙ solve laws (x ∷ r ∷ z ∷ i ∷ b ∷ []) (g ∷ []) ((pt 0 ↑ var 0 ↑ var 1 ↑ var 2 · pt 0 ↑ var 1) ↑ var 3) (pt 0 ↑ var 1)
          (given (var 1) (pt 0 ↑ (var 4 ⊗ var 3)) (pt 0) ∷ given (⊝ (var 3 ⊗ var 1)) (pt 0 ↑ var 4) (pt 0 ↑ var 0 ↑ var 2 · pt 0) ∷ [])
          (by_inverse laws exponents same g b apart (remainder_below laws exponents same _), (below_power, tt)) refl)

  -- two answers upon one commitment show the exponent that they are made from
  pub made_gamma : (e γ : ℕ) (h : Challenges) → γ < E.order → Fair exponents h → gamma E (made_answer E e γ h.first) (made_answer E e γ h.second) ≡ γ
  unfolding gamma
  made_gamma e γ h below fair =
      let g = G.base in
      let c = remainder E h.first in
      let d = remainder E h.second in
      let i = E.inverse (difference E c d) in
      let s = sum E e (product E γ c) in
      let t = sum E e (product E γ d) in
      let answer = λ (m : ℕ). by_sum laws exponents same g e (product E γ m) ∙ ap (G.times (power G g e)) (by_product laws exponents same g γ m) in
      base_tells laws exponents same _ γ (remainder_below laws exponents same _) below
      (by_product laws exponents same g (difference E s t) i
      ∙ ap (λ p. power G p i) (by_difference laws exponents same g s t (remainder_below laws exponents same _))
      ∙ solve laws (c ∷ d ∷ i ∷ []) (power G g e ∷ power G g γ ∷ power G g s ∷ power G g t ∷ []) ((pt 2 · inv (pt 3)) ↑ var 2) (pt 1)
      (given (var 2) (pt 2) (pt 0 · pt 1 ↑ var 0) ∷ given (⊝ var 2) (pt 3) (pt 0 · pt 1 ↑ var 1) ∷ given unity ((pt 1 ↑ var 0 · inv (pt 1 ↑ var 1)) ↑ var 2) (pt 1) ∷ [])
      (answer c, (answer d, (undone laws exponents same (power G g γ) c d (remainder_below laws exponents same _) (remainder_below laws exponents same _) (fair_exponents exponents h fair), tt))) refl)

  answer_fit : (a : Answer ℕ) → a.challenge < 2 ^ E.challenge_bits → a.exponent < E.order → answer_fits E a ≡ true
  answer_fit a h k = ap₂ both (lt-ltb _ _ h) (lt-ltb _ _ k)

  pub proved_fits : (K : P) (γ e : ℕ) (h : Challenges) → Fair exponents h → transcript_fits E (proved_transcript G E K γ e h) ≡ true
  proved_fits K γ e h fair =
      ap₂ both (answer_fit (made_answer E e γ h.first) fair.first_below (remainder_below laws exponents same _))
      (answer_fit (made_answer E e γ h.second) fair.second_below (remainder_below laws exponents same _))

  pub simulated_fits : (K Y : P) (s c : ℕ) → s < E.order → c < 2 ^ E.challenge_bits → transcript_fits E (simulated_transcript G K Y s c) ≡ true
  simulated_fits K Y s c below bits = let a = answer_fit (record { challenge = c; exponent = s }) bits below in ap₂ both a a

  made_accepted : (K Y : P) (γ e c : ℕ) → Y ≡ power G K γ → accepted G K Y (power G K e) c (sum E e (product E γ (remainder E c))) ≡ true
  made_accepted K Y γ e c is =
      point_same laws _ _
      (by_sum laws exponents same K e (product E γ (remainder E c))
      ∙ ap (G.times (power G K e)) (by_product laws exponents same K γ (remainder E c) ∙ by_remainder laws exponents same (power G K γ) c ∙ ap (λ p. power G p c) (sym is)))

  pub proved_accepted : (y : P) (old new : Ciphertext P) (z γ e : ℕ) (h : Challenges) → folded_quotient G old new z ≡ power G (folded_key G y z) γ
      → transcript_accepted G y old new z (proved_transcript G E (folded_key G y z) γ e h) ≡ true
  proved_accepted y old new z γ e h is = ap₂ both (made_accepted (folded_key G y z) _ γ e h.first is) (made_accepted (folded_key G y z) _ γ e h.second is)

-- Answers that are accepted: to a true commitment, and to a simulated one.
use Rattle.std.proofs.Common.{◌≡◌, ℕ, ◌+◌, ◌*◌, ◌%◌, [], ◌∷◌, sym, refl, ap, ◌∙◌, mul_comm}
use Rattle.algebra.proofs.Solver.{var, ◌⊕◌, pt, ◌·◌, inv, ◌^◌, solve}
use Rattle.elgamal.specs.Ciphertexts.{reencrypted, multiplied}
use Rattle.elgamal.specs.declared.Ciphertext.{Ciphertext}
use Rattle.equivalence.specs.Equations.{folded_key, folded_quotient, Accepted}
use Rattle.group.proofs.Powers.{power_add, power_mul, power_mod}
use Rattle.group.specs.Exponents.{Exponents, sum}
use Rattle.group.specs.Operations.{Operations, GroupLaws, power, quotient}
use Rattle.prover.specs.Honest.{answer_of}

module _ {P : Type 0} {G : Operations P} (laws : GroupLaws G) where
  -- the folded quotient of a ciphertext and its re-encrypting is a power of the folded key
  pub quotient_power : (y : P) (c : Ciphertext P) (r z : ℕ) → folded_quotient G c (reencrypted G y c r) z ≡ power G (folded_key G y z) r
  quotient_power y c r z =
      solve laws (z ∷ r ∷ []) (y ∷ G.base ∷ c.alpha ∷ c.beta ∷ [])
      (((pt 2 · pt 0 ^ var 1) · inv (pt 2)) ^ var 0 · ((pt 3 · pt 1 ^ var 1) · inv (pt 3))) ((pt 0 ^ var 0 · pt 1) ^ var 1) [] tt refl

  -- the same of two ciphertexts, multiplied, in either order
  pub product_power : (y : P) (c d : Ciphertext P) (r s z : ℕ)
      → folded_quotient G (multiplied G c d) (multiplied G (reencrypted G y c r) (reencrypted G y d s)) z ≡ power G (folded_key G y z) (r + s)
  product_power y c d r s z =
      solve laws (z ∷ r ∷ s ∷ []) (y ∷ G.base ∷ c.alpha ∷ c.beta ∷ d.alpha ∷ d.beta ∷ [])
      ((((pt 2 · pt 0 ^ var 1) · (pt 4 · pt 0 ^ var 2)) · inv (pt 2 · pt 4)) ^ var 0 · (((pt 3 · pt 1 ^ var 1) · (pt 5 · pt 1 ^ var 2)) · inv (pt 3 · pt 5)))
      ((pt 0 ^ var 0 · pt 1) ^ (var 1 ⊕ var 2)) [] tt refl

  pub product_swapped : (y : P) (c d : Ciphertext P) (r s z : ℕ)
      → folded_quotient G (multiplied G c d) (multiplied G (reencrypted G y d r) (reencrypted G y c s)) z ≡ power G (folded_key G y z) (r + s)
  product_swapped y c d r s z =
      solve laws (z ∷ r ∷ s ∷ []) (y ∷ G.base ∷ c.alpha ∷ c.beta ∷ d.alpha ∷ d.beta ∷ [])
      ((((pt 4 · pt 0 ^ var 1) · (pt 2 · pt 0 ^ var 2)) · inv (pt 2 · pt 4)) ^ var 0 · (((pt 5 · pt 1 ^ var 1) · (pt 3 · pt 1 ^ var 2)) · inv (pt 3 · pt 5)))
      ((pt 0 ^ var 0 · pt 1) ^ (var 1 ⊕ var 2)) [] tt refl

  -- a true answer is accepted
  pub true_accepted : (E : Exponents) → G.order ≡ E.order → (key quotient : P) (e c r : ℕ) → quotient ≡ power G key r → Accepted G key quotient (power G key e) c (answer_of E e c r)
  true_accepted E same key quotient e c r h =
      let q = G.order in
      ap (λ (n : ℕ). power G key ((e + (c * r) % n) % n)) (sym same)
      ∙ power_mod laws key (e + (c * r) % q)
      ∙ power_add laws key e ((c * r) % q)
      ∙ ap (G.times (power G key e)) (power_mod laws key (c * r) ∙ ap (power G key) (mul_comm c r) ∙ sym (power_mul laws key r c) ∙ ap (λ x. power G x c) (sym h))

  -- an exponent counts modulo the order
  pub sum_power : (E : Exponents) → G.order ≡ E.order → (key : P) (r s : ℕ) → power G key (r + s) ≡ power G key (sum E r s)
  sum_power E same key r s = sym (power_mod laws key (r + s)) ∙ ap (λ (n : ℕ). power G key ((r + s) % n)) same

  -- an answer that was chosen before its commitment is accepted
  pub simulated_accepted : (key quot : P) (c s : ℕ) → Accepted G key quot (quotient G (power G key s) (power G quot c)) c s
  simulated_accepted key quot c s =
      solve laws (c ∷ s ∷ []) (key ∷ quot ∷ []) (pt 0 ^ var 1) ((pt 0 ^ var 1 · inv (pt 1 ^ var 0)) · pt 1 ^ var 0) [] tt refl

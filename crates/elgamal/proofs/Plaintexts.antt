-- What encrypting, re-encrypting and multiplying do to plaintexts.
use Rattle.std.proofs.Common.{◌≡◌, ℕ, ◌+◌, ◌%◌, [], ◌∷◌, sym, refl, ap, ◌∙◌, ap₂}
use Rattle.algebra.proofs.Solver.{var, ⊝◌, pt, ◌·◌, inv, ◌^◌, given, solve}
use Rattle.elgamal.specs.Ciphertexts.{encrypted, reencrypted, Carries, SamePlaintext, Joins, Multiplies}
use Rattle.elgamal.specs.declared.Ciphertext.{Ciphertext}
use Rattle.group.proofs.Powers.{power_add, power_mod}
use Rattle.group.specs.Operations.{Operations, GroupLaws, power}

module _ {P : Type 0} {G : Operations P} (laws : GroupLaws G) where
  pub encrypted_carries : (y m : P) (γ : ℕ) → Carries G y (encrypted G y m γ) m
  encrypted_carries y m γ x k =
      solve laws (γ ∷ x ∷ []) (m ∷ y ∷ G.base ∷ []) (pt 0 · pt 1 ^ var 0 · inv ((pt 2 ^ var 0) ^ var 1)) (pt 0)
      (given (⊝ var 0) (pt 2 ^ var 1) (pt 1) ∷ []) (k, tt) refl

  pub reencrypted_keeps : (y : P) (c : Ciphertext P) (r : ℕ) → SamePlaintext G y (reencrypted G y c r) c
  reencrypted_keeps y c r x k =
      solve laws (r ∷ x ∷ []) (c.alpha ∷ c.beta ∷ y ∷ G.base ∷ [])
      ((pt 0 · pt 2 ^ var 0) · inv ((pt 1 · pt 3 ^ var 0) ^ var 1)) (pt 0 · inv (pt 1 ^ var 1))
      (given (⊝ var 0) (pt 3 ^ var 1) (pt 2) ∷ []) (k, tt) refl

  sum_power : (a x : P) (r s : ℕ) → G.times (G.times a (power G x r)) (power G x s) ≡ G.times a (power G x ((r + s) % G.order))
  sum_power a x r s = laws.associative a (power G x r) (power G x s) ∙ ap (G.times a) (sym (power_add laws x r s) ∙ sym (power_mod laws x (r + s)))

  pub reencrypted_joins : (y : P) (c : Ciphertext P) (r : ℕ) → Joins G y c (reencrypted G y c r) r
  reencrypted_joins y c r s =
      ap₂ (λ a b. record { alpha = a; beta = b }) (sum_power c.alpha y r s) (sum_power c.beta G.base r s)

  pub plaintexts_multiply : (c d : Ciphertext P) → Multiplies G c d
  plaintexts_multiply c d x =
      solve laws (x ∷ []) (c.alpha ∷ c.beta ∷ d.alpha ∷ d.beta ∷ [])
      ((pt 0 · pt 2) · inv ((pt 1 · pt 3) ^ var 0)) ((pt 0 · inv (pt 1 ^ var 0)) · (pt 2 · inv (pt 3 ^ var 0))) [] tt refl

use Rattle.std.proofs.Common.{ℕ, ◌^◌, ◌<◌, T, refl, subst, arith}
use Rattle.group.proofs.FourBytes.{own_bytes}
use Rattle.group.specs.Operations.{power}
use Rattle.modular.specs.Residues.{member, member_below}
use Rattle.polynomial.specs.Product.{times_t, product}
use Rattle.examples.specs.Ciphertexts.{CiphertextExamples, NoCode}

-- a number of 32 bits that is no element has no element's code
no_code : (n : ℕ) → n < 2 ^ 32 → (T (member 23 11 n) → ⊥) → NoCode n
no_code n small none x e =
    let below = member_below 23 11 x.0 x.1 in
    none (subst (λ (m : ℕ). T (member 23 11 m)) (own_bytes x.0 n (omega arith) small e) x.1)

pub ciphertexts_hold : CiphertextExamples
unfolding power product times_t
ciphertexts_hold = record {
  key_is = refl;
  sealed_is = refl;
  mixed_is = refl;
  opened_is = refl;
  code_0 = no_code 0 (omega arith) (λ t. t);
  code_5 = no_code 5 (omega arith) (λ t. t);
  code_23 = no_code 23 (omega arith) (λ t. t);
  refused_by = refl;
  polynomial_product = refl;
}

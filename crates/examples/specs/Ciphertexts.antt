-- Groups, codes and ciphertexts: in group 1 the private key 3 has the public key 8.
use Rattle.std.specs.Prelude.{◌≡◌, ℕ, ◌≢◌}
use Rattle.elgamal.specs.Ciphertexts.{encrypted, reencrypted, plaintext}
use Rattle.elgamal.specs.declared.Ciphertext.{Ciphertext}
use Rattle.group.specs.Codes.{four_bytes}
use Rattle.group.specs.Operations.{power}
use Rattle.modular.specs.Residues.{Residue}
use Rattle.refusal.specs.Table.{number_of}
use Rattle.refusal.specs.declared.Reason.TheVariants.{NoElement}
use Rattle.examples.specs.Small.{group1, group2, element, polynomial, numbers}

abbrev pub key : Residue 23 11
key = element 8 tt

-- 4, encrypted by 5, and that re-encrypted by 4
abbrev pub sealed : Ciphertext (Residue 23 11)
sealed = encrypted group1 key (element 4 tt) 5

abbrev pub mixed : Ciphertext (Residue 23 11)
mixed = reencrypted group1 key sealed 4

-- no element of group 1 has the code of this number
abbrev pub NoCode : ℕ → Type 0
NoCode n = (x : Residue 23 11) → group1.code x ≢ four_bytes n

pub record CiphertextExamples : Type 0 where
  pub key_is : (power group1 group1.base 3).0 ≡ 8
  pub sealed_is : numbers sealed ≡ (18, 9)
  pub mixed_is : numbers mixed ≡ (13, 6)
  pub opened_is : (plaintext group1 3 mixed).0 ≡ 4
  pub code_0 : NoCode 0
  pub code_5 : NoCode 5
  pub code_23 : NoCode 23
  pub refused_by : number_of NoElement ≡ 10
  pub polynomial_product : (group2.times (polynomial 4096 tt) (polynomial 2 tt)).0 ≡ 27

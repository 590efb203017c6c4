-- What a finding means for the comparator.
use Rattle.std.specs.Prelude.{◌≡◌, ℕ, Ok, Err, Result}
use Rattle.elgamal.specs.Ciphertexts.{PrivateKey, reencrypted, SamePlaintext}
use Rattle.elgamal.specs.declared.Ciphertext.{Ciphertext}
use Rattle.group.specs.Operations.{Operations}
use Rattle.plan.specs.declared.Setting.{Setting}
use Rattle.plan.specs.declared.Setting.TheVariants.{Straight, Swapped}
use Rattle.posting.specs.declared.comparison.Comparison.{Comparison}
use Rattle.refusal.specs.declared.Refusal.{Refusal}
use Rattle.drill.specs.declared.finding.Finding.{Finding}
use Rattle.drill.specs.declared.finding.Finding.TheVariants.{Key, Outputs}

module _ {Point : Type 0} (G : Operations Point) where
  -- new is old re-encrypted by r, and so carries its plaintext under every private key
  pub record Reencrypts (y : Point) (old new : Ciphertext Point) (r : ℕ) : Type 0 where
    pub is : new ≡ reencrypted G y old r
    pub keeps : SamePlaintext G y new old

  -- the outputs are the inputs re-encrypted by r1 and r2, in this order
  abbrev pub Keeps : Comparison Point → Setting → (r1 r2 : ℕ) → Type 0
  Keeps k Straight r1 r2 = Reencrypts k.key k.inputs.first k.outputs.first r1 × Reencrypts k.key k.inputs.second k.outputs.second r2
  Keeps k Swapped r1 r2 = Reencrypts k.key k.inputs.second k.outputs.first r1 × Reencrypts k.key k.inputs.first k.outputs.second r2

  -- a key that is found is the private one; without a key, the outputs are the inputs re-encrypted
  abbrev pub Shown : Comparison Point → Result (Finding ℕ) Refusal → Type 0
  Shown k (Ok (Key x)) = PrivateKey G k.key x
  Shown k (Ok (Outputs o)) = Keeps k o.setting o.r1 o.r2
  Shown k (Err f) = Unit {0}

-- What is found, as numbers, and how two conclusions are joined.
use Rattle.std.specs.Prelude.{ℕ, Ok, Err, Result}
use Rattle.group.specs.Exponents.{Exponents, difference}
use Rattle.plan.specs.declared.Setting.{Setting}
use Rattle.plan.specs.declared.Setting.TheVariants.{Straight, Swapped}
use Rattle.refusal.specs.declared.Refusal.{Refusal}
use Rattle.drill.specs.declared.finding.Finding.{Finding}
use Rattle.drill.specs.declared.finding.Finding.TheVariants.{Key, Outputs}
use Rattle.drill.specs.declared.finding.KeyFound.{KeyFound}
use Rattle.drill.specs.declared.finding.Reencryption.{Reencryption}

module _ {X : Type 0} (value : X → ℕ) where
  -- what three samples show: one exponent, or a key
  abbrev pub conclusion_meaning : Result X (KeyFound X) → Result ℕ (KeyFound ℕ)
  conclusion_meaning (Ok γ) = Ok (value γ)
  conclusion_meaning (Err found) = Err (record { key = value found.key })

  abbrev pub finding_meaning : Finding X → Finding ℕ
  finding_meaning (Key x) = Key (value x)
  finding_meaning (Outputs o) = Outputs (record { setting = o.setting; r1 = value o.r1; r2 = value o.r2 })

  abbrev pub drilled_meaning : Result (Finding X) Refusal → Result (Finding ℕ) Refusal
  drilled_meaning (Ok f) = Ok (finding_meaning f)
  drilled_meaning (Err f) = Err f

-- The output of the branch has the branch's exponent γ, the other output what is left of the product's p.
abbrev pub ordered : Exponents → Setting → (p γ : ℕ) → Reencryption ℕ
ordered E Straight p γ = record { setting = Straight; r1 = γ; r2 = difference E p γ }
ordered E Swapped p γ = record { setting = Swapped; r1 = difference E p γ; r2 = γ }

-- A key of the product's samples is answered first, then one of the branch's; without a key, the order and the exponents.
abbrev pub answer : Exponents → Result ℕ (KeyFound ℕ) → Setting → Result ℕ (KeyFound ℕ) → Finding ℕ
answer E (Err found) setting branch = Key found.key
answer E (Ok p) setting (Err found) = Key found.key
answer E (Ok p) setting (Ok γ) = Outputs (ordered E setting p γ)

-- a finding, by the order and the exponents or a key
abbrev pub finding_of : {X : Type 0} → Result (Reencryption X) (KeyFound X) → Finding X
finding_of (Ok outputs) = Outputs outputs
finding_of (Err found) = Key found.key

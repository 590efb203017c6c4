-- How the key is computed: by second differences, -top / bottom. The rule says which key it is.
use Rattle.std.specs.Prelude.{ℕ, true, false, Ok, Err, Result, ◌==◌}
use Rattle.group.specs.Exponents.{Exponents, remainder, sum, difference, product}
use Rattle.witness.specs.Refusals.{both}
use Rattle.witness.specs.declared.samples.Examination.{Examination}
use Rattle.witness.specs.declared.samples.Sample.{Sample}
use Rattle.witness.specs.declared.samples.Samples.{Samples}
use Rattle.drill.specs.Findings.{answer}
use Rattle.drill.specs.declared.finding.KeyFound.{KeyFound}
use Rattle.drill.specs.declared.finding.Finding.{Finding}

module _ (E : Exponents) where
  -- the second difference of three numbers at the samples' z, up to a factor
  unfoldable pub second : Samples ℕ → (f1 f2 f3 : ℕ) → ℕ
  second s f1 f2 f3 =
      sum E (sum E (product E (difference E s.second.z s.third.z) f1) (product E (difference E s.third.z s.first.z) f2))
      (product E (difference E s.first.z s.second.z) f3)

  abbrev pub top : Samples ℕ → ℕ
  top s = second s s.first.gamma s.second.gamma s.third.gamma

  abbrev pub bottom : Samples ℕ → ℕ
  bottom s = second s (product E s.first.z s.first.gamma) (product E s.second.z s.second.gamma) (product E s.third.z s.third.gamma)

  -- a sample with its exponent times its z
  abbrev pub weighted : Sample ℕ → Sample ℕ
  weighted s = record { z = s.z; gamma = product E s.z s.gamma }

  unfoldable pub formula : Samples ℕ → ℕ
  formula s = product E (difference E (remainder E 0) (top s)) (E.inverse (bottom s))

  -- the exponent of all three samples where it is one, else the key
  abbrev pub conclusion : Samples ℕ → Result ℕ (KeyFound ℕ)
  conclusion s =
      elim (both (s.first.gamma == s.second.gamma) (s.second.gamma == s.third.gamma)) [ true ↦ Ok s.first.gamma | false ↦ Err (record { key = formula s }) ]

  -- what is found by it
  abbrev pub computed : Examination ℕ → Finding ℕ
  computed e = answer E (conclusion e.product) e.branch.setting (conclusion e.branch.samples)

-- The drill, in group 1.
use Rattle.std.specs.Prelude.{◌≡◌, ℕ}
use Rattle.drill.specs.Rule.{TheKey}
use Rattle.witness.specs.Samples.{gamma}
use Rattle.witness.specs.declared.samples.Samples.{Samples}
use Rattle.examples.specs.Comparators.{exponents1}

-- the exponents 1, 3 and 8 at the draws 0, 1 and 2
abbrev pub samples : Samples ℕ
samples = record { first = record { z = 0; gamma = 1 }; second = record { z = 1; gamma = 3 }; third = record { z = 2; gamma = 8 } }

pub record DrillExamples : Type 0 where
  pub gamma_is : gamma exponents1 (record { challenge = 5; exponent = 4 }) (record { challenge = 1; exponent = 10 }) ≡ 4
  pub key_is : TheKey exponents1 samples 3

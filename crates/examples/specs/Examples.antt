-- All worked examples.
use Rattle.examples.specs.Ciphertexts.{CiphertextExamples}
use Rattle.examples.specs.Comparators.{ComparatorExamples}
use Rattle.examples.specs.Drills.{DrillExamples}
use Rattle.examples.specs.Plans.{PlanExamples}

pub record Examples : Type 0 where
  pub ciphertexts : CiphertextExamples
  pub comparators : ComparatorExamples
  pub drills : DrillExamples
  pub plans : PlanExamples

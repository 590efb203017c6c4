use Rattle.std.proofs.Common.{refl}
use Rattle.equivalence.specs.Equations.{same_bytes}
use Rattle.equivalence.specs.Judgement.{judge, judge_equations}
use Rattle.group.specs.Operations.{power}
use Rattle.examples.specs.Comparators.{ComparatorExamples}

pub comparators_hold : ComparatorExamples
unfolding power same_bytes judge judge_equations
comparators_hold = record {
  quotient_is = refl;
  folded_is = refl;
  commitment_is = refl;
  answer_to_5 = refl;
  taken_to_5 = refl;
  another_answer = refl;
  answer_to_1 = refl;
  first_output = refl;
  second_output = refl;
  proofs_are = refl;
  taken = refl;
  split_refused = refl;
  product_number = refl;
  split_number = refl;
}

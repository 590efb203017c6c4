use Rattle.std.proofs.Common.{ap, eq-eqb, eqb-true}
use Rattle.polynomial.specs.Laws.{nonzero_path}
use Rattle.polynomial.proofs.PolynomialsGroup.equals.Goals as goal

pub returns : goal.returns
returns c = record {
  same = λ e. nonzero_path _ _ (eqb-true _ _ e);
  told = λ e. eq-eqb _ _ (ap (λ x. x.0) e);
}

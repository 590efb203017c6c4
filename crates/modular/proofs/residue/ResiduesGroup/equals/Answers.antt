use Rattle.std.proofs.Common.{ap, eq-eqb, eqb-true}
use Rattle.modular.specs.ResidueLaws.{residue_path}
use Rattle.modular.proofs.residue.ResiduesGroup.equals.Goals as goal

pub returns : goal.returns
returns g c = record {
  same = λ e. residue_path g.row.P g.row.Q _ _ (eqb-true _ _ e);
  told = λ e. eq-eqb _ _ (ap (λ x. x.0) e);
}

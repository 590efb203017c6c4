use Rattle.std.proofs.Common.{refl}
use Rattle.modular.specs.ResidueLaws.{residue_path}
use Rattle.modular.proofs.residue.ResiduesGroup.generator.Goals as goal

pub returns : goal.returns
returns g c = residue_path g.row.P g.row.Q _ _ refl

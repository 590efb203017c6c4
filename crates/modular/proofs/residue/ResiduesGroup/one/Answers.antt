use Rattle.std.proofs.Common.{refl}
use Rattle.modular.specs.ResidueLaws.{residue_path}
use Rattle.modular.specs.Residues.{large_of, one_member}
use Rattle.modular.proofs.residue.ResiduesGroup.one.Goals as goal

pub invariant_of-result : goal.invariant_of-result
invariant_of-result g c = record { member = one_member g.row.P g.row.Q (large_of g.row.P g.row.Q g.row.G g.M.Subgroup.tested) }

pub returns : goal.returns
returns g c = residue_path g.row.P g.row.Q _ _ refl

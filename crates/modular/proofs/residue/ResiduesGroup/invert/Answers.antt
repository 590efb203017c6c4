use Rattle.std.proofs.Common.{ℕ, ◌-◌, T, sym, subst}
use Rattle.modular.specs.ResidueLaws.{residue_path}
use Rattle.modular.specs.Residues.{member, large_of, power_member}
use Rattle.modular.proofs.residue.ResiduesGroup.invert.Goals as goal

pub invariant_of-result : goal.invariant_of-result
invariant_of-result g c =
    let large = large_of g.row.P g.row.Q g.row.G g.M.Subgroup.tested in
    record { member = subst (λ (x : ℕ). T (member g.row.P g.row.Q x)) (sym c.power_modulo.ensures) (power_member g.row.P g.row.Q large c.args.a.value (g.row.Q - 1) c.args.a.member) }

pub returns : goal.returns
returns g c = residue_path g.row.P g.row.Q _ _ c.power_modulo.ensures

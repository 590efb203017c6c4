use Rattle.std.proofs.Common.{ℕ, T, sym, subst}
use Rattle.modular.specs.ResidueLaws.{residue_path}
use Rattle.modular.specs.Residues.{member, large_of, product_member}
use Rattle.modular.proofs.residue.ResiduesGroup.multiply.Goals as goal

pub invariant_of-result : goal.invariant_of-result
invariant_of-result g c =
    let large = large_of g.row.P g.row.Q g.row.G g.M.Subgroup.tested in
    record { member = subst (λ (x : ℕ). T (member g.row.P g.row.Q x)) (sym c.multiply_modulo.ensures) (product_member g.row.P g.row.Q large c.args.a.value c.args.b.value c.args.a.member c.args.b.member) }

pub returns : goal.returns
returns g c = residue_path g.row.P g.row.Q _ _ c.multiply_modulo.ensures

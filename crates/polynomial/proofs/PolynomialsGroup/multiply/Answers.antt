use Rattle.std.proofs.Common.{ℕ, T, sym, subst}
use Rattle.polynomial.specs.Laws.{nonzero_path}
use Rattle.polynomial.specs.Polynomials.{nonzero, product_nonzero}
use Rattle.polynomial.proofs.PolynomialsGroup.multiply.Goals as goal

pub invariant_of-result : goal.invariant_of-result
invariant_of-result c =
    record { nonzero = subst (λ (x : ℕ). T (nonzero x)) (sym c.multiply.ensures.is) (product_nonzero (c.args.a.value, c.args.a.nonzero) (c.args.b.value, c.args.b.nonzero)) }

pub returns : goal.returns
returns c = nonzero_path _ _ c.multiply.ensures.is

use Rattle.std.proofs.Common.{◌≡◌, map, Ok, sym, ap, ◌∙◌, subst}
use Rattle.posting.specs.Comparison.{comparison_meaning}
use Rattle.std.proofs.lemmas.Result.{err_from_is_err_and}
use Rattle.witness.specs.Samples.{examination}
use Rattle.witness.specs.Witnesses.{equivalence_meaning, disjunctive_meaning}
use Rattle.drill.specs.Findings.{finding_meaning}
use Rattle.drill.specs.Formula.{computed}
use Rattle.drill.specs.Rule.{Found}
use Rattle.drill.proofs.Soundness.{found, drilled_shown}
use Rattle.drill.proofs.drilling.drill.Goals as goal

pub returns-in_err-examination : goal.returns-in_err-examination
returns-in_err-examination g c =
    let p = err_from_is_err_and c.from_residual.result c.from_residual.ensures.1 in
    rw (p.1, p.2) (record { drilled = c.in_err-examination.ensures; shown = tt })

pub returns : goal.returns
returns g c =
    let G = g.G.Group.operations in
    let E = g.G.Exponent.Exponent.exponents in
    let laws = g.G.Group.laws in
    let point = g.G.Group.point in
    let number = g.G.Exponent.Exponent.number in
    let k = comparison_meaning point c.args.comparison in
    let W = map (equivalence_meaning point number) c.args.equivalence.now in
    let V = map (disjunctive_meaning point number) c.args.disjunction.now in
    let examined = c.in_ok-examination.ensures in
    let same = c.order.ensures.same_order in
    let is : finding_meaning g.G.Exponent.Exponent.value c.find.result ≡ computed E (examination E W V) = c.find.ensures ∙ ap (computed E) examined.1 in
    let all = subst (Found E (examination E W V)) (sym is) (found laws g.G.Exponent.Exponent.laws same k W V examined.0) in
    record {
      drilled = (examined.0, all);
      shown = drilled_shown laws g.G.Exponent.Exponent.laws same k W V (Ok (finding_meaning g.G.Exponent.Exponent.value c.find.result)) (examined.0, all);
    }

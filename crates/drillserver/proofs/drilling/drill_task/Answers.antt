use Rattle.std.proofs.Common.{Ok, rules, arith}
use Rattle.std.proofs.lemmas.Grind.{common_steps}
use Rattle.drillserver.proofs.Honest.{honest_where_drilled}
use Rattle.drillserver.specs.Drilling.{IfDrilled, DrilledAsMade}
use Rattle.drillserver.proofs.drilling.drill_task.Goals as goal

pub returns-in_err-drill : goal.returns-in_err-drill
returns-in_err-drill g c =
    let value = g.G.Exponent.Exponent.value in
    let answered = c.from_residual-in_err-drill.result in
    let drilled : IfDrilled value answered (DrilledAsMade g.G.Group.operations g.G.Exponent.Exponent.exponents c.args.task) = grind (arith, common_steps) in
    record {
      drilled = drilled;
      honest = honest_where_drilled g.G.Group.laws g.G.Exponent.Exponent.laws c.order.ensures.same_order value c.args.task answered drilled;
    }

pub returns : goal.returns
returns g c =
    let value = g.G.Exponent.Exponent.value in
    let drilled : IfDrilled value (Ok c.in_ok-drill.field-0) (DrilledAsMade g.G.Group.operations g.G.Exponent.Exponent.exponents c.args.task) = search rules in
    record {
      drilled = drilled;
      honest = honest_where_drilled g.G.Group.laws g.G.Exponent.Exponent.laws c.order.ensures.same_order value c.args.task (Ok c.in_ok-drill.field-0) drilled;
    }

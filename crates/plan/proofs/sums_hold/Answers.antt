use Rattle.plan.proofs.Totals.{sums_along_routes}
use Rattle.plan.proofs.sums_hold.Goals as goal

pub returns : goal.returns
returns g c = sums_along_routes _

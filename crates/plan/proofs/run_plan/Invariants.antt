use Rattle.std.proofs.Common.{◌≡◌, drop}
use Rattle.plan.specs.Plans.{run}
use Rattle.plan.proofs.run_plan.Given as goal

abbrev pub invariant-loop-k : goal.invariant-loop-k
invariant-loop-k g l =
    run (drop l.k (g.P.Plan.listing l.plan)) (drop l.k l.settings) l.items
    ≡ run (g.P.Plan.listing l.plan) l.settings l.initial.items

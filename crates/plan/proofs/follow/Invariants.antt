use Rattle.std.proofs.Common.{◌≡◌, ◌+◌, ◌*◌, ◌^◌, ◌≤◌, length, drop}
use Rattle.plan.specs.Plans.{source}
use Rattle.plan.specs.Sums.{route_sum}
use Rattle.plan.proofs.follow.Given as goal

abbrev pub invariant-loop-k : goal.invariant-loop-k
invariant-loop-k g l =
    (l.start ≡ source (drop l.k (g.P.Plan.listing l.plan)) (drop l.k l.settings) l.wire)
    × (l.sum ≡ route_sum (drop l.k (g.P.Plan.listing l.plan)) (drop l.k l.settings) (drop l.k l.words) l.wire)
    × (l.sum + l.k * 2 ^ 64 ≤ length l.settings * 2 ^ 64)

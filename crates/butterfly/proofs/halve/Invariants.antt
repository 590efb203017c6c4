use Rattle.std.proofs.Common.{◌≡◌, ℕ, ◌<◌}
use Rattle.plan.specs.Plans.{at}
use Rattle.butterfly.specs.Halves.{side, sides, half_of}
use Rattle.butterfly.proofs.halve.Given as goal

abbrev pub invariant-loop-i : goal.invariant-loop-i
invariant-loop-i l = (k : ℕ) → k < l.i → at l.table k ≡ half_of (at l.entries) (sides l.halves) (side l.half) k

use Rattle.std.proofs.Common.{◌≡◌, ℕ, ◌<◌, length}
use Rattle.plan.specs.Plans.{at}
use Rattle.butterfly.specs.Halves.{sides}
use Rattle.butterfly.proofs.Pairs.halves_by_start.Given as goal

abbrev pub invariant-loop-y : goal.invariant-loop-y
invariant-loop-y l = (length l.starts ≡ 64) × ((k : ℕ) → k < l.y → sides l.starts k ≡ sides l.ends (at l.self.inverse.now k))

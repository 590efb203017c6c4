use Rattle.std.proofs.Common.{◌≡◌, ℕ, ◌<◌, length}
use Rattle.plan.specs.Plans.{at}
use Rattle.butterfly.specs.Colours.{partner}
use Rattle.butterfly.proofs.Pairs.partners.Given as goal

abbrev pub invariant-loop-x : goal.invariant-loop-x
invariant-loop-x l = (length l.table ≡ 64) × ((k : ℕ) → k < l.x → at l.table k ≡ partner (at l.self.entries.now) (at l.self.inverse.now) k)

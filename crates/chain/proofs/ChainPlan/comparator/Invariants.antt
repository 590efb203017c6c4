use Rattle.std.proofs.Common.{◌≡◌, ◌-◌}
use Rattle.plan.specs.Plans.{nth}
use Rattle.chain.specs.Listing.{chain, chain_from}
use Rattle.chain.proofs.ChainPlan.comparator.Given as goal

abbrev pub invariant-loop-first : goal.invariant-loop-first
invariant-loop-first l = nth (chain_from l.first (l.self.width - l.first)) l.left ≡ nth (chain l.self.width) l.k

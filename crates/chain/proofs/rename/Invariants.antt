use Rattle.std.proofs.Common.{◌≡◌, ℕ, ◌<◌, ◌≤◌}
use Rattle.plan.specs.Plans.{at, on, crossed}
use Rattle.chain.proofs.rename.Given as goal

abbrev pub invariant-loop-entry : goal.invariant-loop-entry
invariant-loop-entry l =
    ((i : ℕ) → i < l.entry-index → at l.entries i ≡ crossed (on l.one l.other) (at l.initial.entries i))
    × ((i : ℕ) → l.entry-index ≤ i → at l.entries i ≡ at l.initial.entries i)

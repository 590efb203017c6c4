use Rattle.std.proofs.Common.{◌≡◌, ◌+◌, ◌-◌, length, take}
use Rattle.plan.specs.Plans.{at}
use Rattle.chain.specs.Listing.{chain_from}
use Rattle.chain.specs.Stages.{Permutes}
use Rattle.chain.proofs.Routing.{Goes}
use Rattle.chain.proofs.set_rows.Given as goal

abbrev pub invariant-loop-j : goal.invariant-loop-j
invariant-loop-j l =
    (length l.wanted ≡ l.wires)
    × (l.start + length (chain_from l.j (l.wires - l.j)) ≡ length l.settings)
    × Permutes l.j l.wires (at l.wanted)
    × Goes l.j l.wires (at l.wanted) (take l.start l.settings) (at l.initial.wanted)

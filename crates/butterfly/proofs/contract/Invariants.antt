use Rattle.std.proofs.Common.{◌/◌, ◌≤◌, length}
use Rattle.plan.specs.Plans.{at}
use Rattle.butterfly.specs.Colours.{Matching, Contracted}
use Rattle.butterfly.proofs.contract.Given as goal

abbrev pub invariant-loop-j : goal.invariant-loop-j
invariant-loop-j l =
    (l.j ≤ length l.initial.table / 2) × Matching l.j (at l.table) × Contracted l.j (length l.initial.table / 2) l.table (at l.initial.table)

use Rattle.std.proofs.Common.{◌≡◌}
use Rattle.group.specs.Operations.{power}
use Rattle.group.proofs.Group.raise_word.Given as goal

-- what is done, times the power that is left, is the whole power
abbrev pub invariant-loop-left : goal.invariant-loop-left
invariant-loop-left g l =
    let m = g.Self.Group in
    m.operations.times (m.point l.done) (power m.operations (m.point l.square) l.left) ≡ power m.operations (m.point l.initial.square) l.initial.left

abbrev pub decreases-loop-left : goal.decreases-loop-left
decreases-loop-left g l = l.left

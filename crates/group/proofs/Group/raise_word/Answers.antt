use Rattle.std.proofs.Common.{ap, ◌∙◌, arith}
use Rattle.group.proofs.Powers.{squared_even, squared_odd, squared_none}
use Rattle.group.proofs.Group.raise_word.Goals as goal
use Rattle.group.proofs.Group.raise_word.Goals.{then-left-eq1, else-left-eq1}

pub loop-left-preserved : goal.loop-left-preserved
loop-left-preserved g c =
    let m = g.Self.Group in
    elim c.if-left-eq1.branch [
      | then-left-eq1 w ↦ squared_odd m.laws c.loop-left.left w.if-left-eq1.true (ap m.point w.done-is ∙ w.multiply-done.ensures) c.multiply-square.ensures c.loop-left.invariant
      | else-left-eq1 w ↦ squared_even m.laws c.loop-left.left w.if-left-eq1.false (ap m.point w.done-is) c.multiply-square.ensures c.loop-left.invariant
    ]

pub returns : goal.returns
returns g c = squared_none g.Self.Group.laws _ (g.Self.Group.point c.loop-left.square) _ c.loop-left.left (omega arith) c.loop-left.invariant

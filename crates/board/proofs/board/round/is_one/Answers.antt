use Rattle.std.proofs.Common.{ap, ◌∙◌}
use Rattle.equivalence.proofs.SamePoint.{point_test}
use Rattle.equivalence.specs.Equations.{same_point}
use Rattle.board.proofs.board.round.is_one.Goals as goal

pub returns : goal.returns
returns g c =
    let point = g.G.Group.point in
    point_test g.G.Group.laws (point c.args.element) (point c.one.result) c.equals.result c.equals.ensures.same c.equals.ensures.told
    ∙ ap (same_point g.G.Group.operations (point c.args.element)) c.one.ensures

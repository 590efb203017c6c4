use Rattle.std.proofs.Common.{◌≡◌, ap, ◌∙◌, ap₂}
use Rattle.group.specs.Operations.{power}
use Rattle.equivalence.proofs.SamePoint.{point_test}
use Rattle.equivalence.specs.Equations.{same_point}
use Rattle.equivalence.proofs.equation.accepts.Goals as goal

pub returns : goal.returns
returns g c =
    let G = g.G.Group.operations in
    let point = g.G.Group.point in
    let left : point c.raise-left.result ≡ power G (point c.args.key) (g.G.Exponent.Exponent.value c.args.answer) = c.raise-left.ensures.is in
    let right : point c.multiply-right.result ≡ G.times (point c.args.commitment) (power G (point c.args.quotient) c.args.challenge) =
    c.multiply-right.ensures ∙ ap (G.times (point c.args.commitment)) c.raise_word.ensures in
    point_test g.G.Group.laws (point c.raise-left.result) (point c.multiply-right.result) c.equals.result c.equals.ensures.same c.equals.ensures.told
    ∙ ap₂ (same_point G) left right

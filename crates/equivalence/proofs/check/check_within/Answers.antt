use Rattle.std.proofs.Common.{◌≡◌, sym, ap, ◌∙◌, subst}
use Rattle.std.proofs.lemmas.Result.{err_from_is_err_and}
use Rattle.equivalence.proofs.Judging.{numbers_fail, reach_fails, equations_left}
use Rattle.posting.specs.Comparison.{comparison_meaning}
use Rattle.equivalence.specs.Judgement.{proofs_meaning, draws, judge_equations, Answered}
use Rattle.equivalence.proofs.check.check_within.Goals as goal

pub returns-in_err-proofs : goal.returns-in_err-proofs
returns-in_err-proofs g c =
    let k = comparison_meaning g.G.Group.point c.args.comparison in
    let p = proofs_meaning g.G.Group.point g.G.Exponent.Exponent.number c.args.proofs in
    let read = c.in_err-proofs.ensures in
    let e = err_from_is_err_and c.from_residual.result c.from_residual.ensures.1 in
    let judged = numbers_fail g.G.Group.operations g.G.Exponent.Exponent.exponents (g.S.Source.words c.args.challenger.now.source.now) k p c.args.first read.0 in
    rw (judged, e.1, e.2) read.1

pub returns-in_err-draws : goal.returns-in_err-draws
returns-in_err-draws g c =
    let k = comparison_meaning g.G.Group.point c.args.comparison in
    let p = proofs_meaning g.G.Group.point g.G.Exponent.Exponent.number c.args.proofs in
    let read = c.in_ok-proofs.ensures in
    let drawn = c.in_err-draws.ensures in
    let e = err_from_is_err_and c.from_residual-in_err-draws.result c.from_residual-in_err-draws.ensures.1 in
    let judged = reach_fails g.G.Group.operations g.G.Exponent.Exponent.exponents (g.S.Source.words c.args.challenger.now.source.now) k p c.args.first read.0 drawn.0 in
    rw (judged, e.1, e.2) drawn.1

pub returns : goal.returns
returns g c =
    let G = g.G.Group.operations in
    let point = g.G.Group.point in
    let value = g.G.Exponent.Exponent.value in
    let S = g.S.Source.words c.args.challenger.now.source.now in
    let k = comparison_meaning point c.args.comparison in
    let posted = proofs_meaning point g.G.Exponent.Exponent.number c.args.proofs in
    let read = c.in_ok-proofs.ensures in
    let drawn = c.in_ok-draws.ensures in
    let same : proofs_meaning point value c.in_ok-proofs.proofs ≡ posted = ap (proofs_meaning point (λ n. n)) read.1 in
    let judged = equations_left G g.G.Exponent.Exponent.exponents S k posted c.args.first read.0 drawn.0 in
    let all : judge_equations G k (proofs_meaning point value c.in_ok-proofs.proofs) _ ≡ judge_equations G k posted (draws G g.G.Exponent.Exponent.exponents S k posted c.args.first) =
    ap (judge_equations G k (proofs_meaning point value c.in_ok-proofs.proofs)) drawn.1
    ∙ ap (λ p. judge_equations G k p (draws G g.G.Exponent.Exponent.exponents S k p c.args.first)) same in
    subst (λ j. Answered j c.args.challenger.now.place c.check_equations.result) (all ∙ sym judged) c.check_equations.ensures

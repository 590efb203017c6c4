use Rattle.std.proofs.Common.{eqb, ◌∙◌, rules, tests}
use Rattle.std.proofs.lemmas.Iterator.{YieldsList-from_slice}
use Rattle.std.proofs.lemmas.Iterator.Search.{any_from_yields_List}
use Rattle.witness.proofs.Draws.{any_stands}
use Rattle.witness.proofs.reading.drawn_among.Goals as goal

pub returns : goal.returns
returns g c =
    let number = g.X.Exponent.number in
    let z = number c.args.z in
    any_from_yields_List (λ w. eqb z (number w.z)) _ _ _ c.any.ensures.ran (YieldsList-from_slice c.args.witnesses.now cc) (λ x b q k. search (rules, tests))
    ∙ any_stands number z c.args.witnesses.now

use Rattle.std.proofs.Common.{refl, rules, tests}
use Rattle.std.proofs.lemmas.Iterator.{YieldsList-from_range, YieldsList-from_map_by}
use Rattle.std.proofs.lemmas.Iterator.Consumers.{YieldsList-at, map_from_collect}
use Rattle.posting.specs.Comparison.{comparison_meaning}
use Rattle.witness.specs.Witnesses.{disjunctive_meaning}
use Rattle.drillserver.specs.Answering.{made_disjunctive_witness}
use Rattle.drillserver.proofs.answering.Maker.disjunctive_witnesses.Goals as goal

pub returns : goal.returns
returns g c =
    let made = made_disjunctive_witness g.G.Group.operations g.G.Exponent.Exponent.exponents (comparison_meaning g.G.Group.point c.args.self.now.comparison) c.args.self.now.task in
    map_from_collect c.collect.result c.collect.ensures.ran
    (YieldsList-from_map_by _ (disjunctive_meaning g.G.Group.point g.G.Exponent.Exponent.number) made
    (YieldsList-at c.map.ensures.source (YieldsList-from_range _ _ _ refl refl)) c.map.ensures.closure (λ x r q k. search (rules, tests)))

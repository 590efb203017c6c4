use Rattle.std.proofs.Common.{ap, ◌∙◌, rules, tests}
use Rattle.std.proofs.lemmas.Iterator.{YieldsList-from_slice}
use Rattle.posting.specs.Comparison.{comparison_meaning}
use Rattle.witness.specs.Refusals.{shown_where_fit, equivalence_proof}
use Rattle.witness.specs.Samples.{sample_meaning, equivalence_sample, three_of}
use Rattle.witness.specs.Witnesses.{equivalence_meaning}
use Rattle.witness.proofs.Chains.{YieldsList-from_filter_map_by, filter_map-map, at_list}
use Rattle.witness.proofs.examining.product_samples.Goals as goal

pub returns : goal.returns
returns g c =
    let E = g.G.Exponent.Exponent.exponents in
    let m = equivalence_meaning g.G.Group.point g.G.Exponent.Exponent.number in
    let asks = equivalence_proof g.G.Group.operations E (comparison_meaning g.G.Group.point c.args.proof.now.comparison) in
    let h = shown_where_fit E asks (equivalence_sample E) in
    let value = g.G.Exponent.Exponent.value in
    at_list c.first_three.ensures (YieldsList-from_filter_map_by _ (sample_meaning value) (λ w. h (m w)) (YieldsList-from_slice c.args.witnesses.now cc) c.filter_map.ensures.closure (λ x r q k. search (rules, tests)))
    ∙ ap three_of (filter_map-map h m c.args.witnesses.now)

use Rattle.std.proofs.Common.{◌≡◌, map, ap, ◌∙◌, rules, tests}
use Rattle.std.proofs.lemmas.Iterator.{YieldsList-from_slice}
use Rattle.std.specs.Iterator.Adapters.{filter_map_callee}
use Rattle.std.specs.List.{filter_map}
use Rattle.std.specs.Option.{option_map}
use Rattle.posting.specs.Comparison.{comparison_meaning}
use Rattle.witness.specs.Refusals.{shown_where_fit, disjunctive_proof}
use Rattle.witness.specs.Samples.{sample_meaning, samples_meaning, drawn_meaning, drawn, sample_on, on_branch, three_of}
use Rattle.witness.specs.Witnesses.{disjunctive_meaning}
use Rattle.witness.proofs.Chains.{YieldsList-from_filter_map_by, filter_map-map, at_list}
use Rattle.witness.proofs.Gathering.{picked}
use Rattle.witness.proofs.examining.branch_on.Goals as goal

pub returns : goal.returns
returns g c =
    let E = g.G.Exponent.Exponent.exponents in
    let value = g.G.Exponent.Exponent.value in
    let m = disjunctive_meaning g.G.Group.point g.G.Exponent.Exponent.number in
    let asks = disjunctive_proof g.G.Group.operations E (comparison_meaning g.G.Group.point c.args.proof.now.comparison) in
    let h = shown_where_fit E asks (drawn E) in
    let ws = c.args.witnesses.now in
    let three : option_map (samples_meaning value) c.first_three.result ≡ three_of (on_branch c.args.setting (filter_map h (map m ws))) =
    at_list c.first_three.ensures
    (YieldsList-from_filter_map_by _ (sample_meaning value) (sample_on c.args.setting)
    (YieldsList-from_filter_map_by _ (drawn_meaning value) (λ w. h (m w)) (YieldsList-from_slice ws cc)
    (ap filter_map_callee c.filter_map-2.ensures.source ∙ c.filter_map.ensures.closure) (λ x r q k. search (rules, tests)))
    c.filter_map-2.ensures.closure (λ x r q k. search (rules, tests)))
    ∙ ap three_of (picked c.args.setting (filter_map (λ w. h (m w)) ws) ∙ ap (on_branch c.args.setting) (filter_map-map h m ws)) in
    search rules

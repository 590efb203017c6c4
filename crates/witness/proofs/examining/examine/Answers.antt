use Rattle.std.proofs.Common.{Some, sym, ap, ◌∙◌, ap₂}
use Rattle.std.proofs.lemmas.Result.{err_from_is_err_and}
use Rattle.std.specs.Option.{option_map}
use Rattle.posting.specs.Comparison.{comparison_meaning}
use Rattle.witness.specs.Samples.{samples_meaning, branch_meaning}
use Rattle.witness.specs.Witnesses.{equivalence_meaning, disjunctive_meaning}
use Rattle.witness.proofs.Gathering.{some_meant}
use Rattle.witness.proofs.Judging.{few, counts_fit, refused_first, refused_then, product_shown, branch_shown}
use Rattle.witness.proofs.examining.examine.Goals as goal

pub returns-then-equivalence-ne3 : goal.returns-then-equivalence-ne3
returns-then-equivalence-ne3 g c =
    let W = equivalence_meaning g.G.Group.point g.G.Exponent.Exponent.number in
    let V = disjunctive_meaning g.G.Group.point g.G.Exponent.Exponent.number in
    few g.G.Group.operations g.G.Exponent.Exponent.exponents (comparison_meaning g.G.Group.point c.args.comparison) W V c.args.equivalence.now c.args.disjunction.now c.then-equivalence-ne3.either
    ∙ ap Some (sym c.at.ensures)

pub returns-in_err-check_witnesses : goal.returns-in_err-check_witnesses
returns-in_err-check_witnesses g c =
    let W = equivalence_meaning g.G.Group.point g.G.Exponent.Exponent.number in
    let V = disjunctive_meaning g.G.Group.point g.G.Exponent.Exponent.number in
    let p = err_from_is_err_and c.from_residual.result c.from_residual.ensures.1 in
    rw (p.1, p.2) (counts_fit g.G.Group.operations g.G.Exponent.Exponent.exponents (comparison_meaning g.G.Group.point c.args.comparison) W V c.args.equivalence.now c.args.disjunction.now c.if-equivalence-ne3.false c.if-disjunction-ne5.false
    ∙ refused_first _ _ c.in_err-check_witnesses.ensures)

pub returns-in_err-check_witnesses-2 : goal.returns-in_err-check_witnesses-2
returns-in_err-check_witnesses-2 g c =
    let W = equivalence_meaning g.G.Group.point g.G.Exponent.Exponent.number in
    let V = disjunctive_meaning g.G.Group.point g.G.Exponent.Exponent.number in
    let p = err_from_is_err_and c.from_residual-in_err-check_witnesses-2.result c.from_residual-in_err-check_witnesses-2.ensures.1 in
    rw (p.1, p.2) (counts_fit g.G.Group.operations g.G.Exponent.Exponent.exponents (comparison_meaning g.G.Group.point c.args.comparison) W V c.args.equivalence.now c.args.disjunction.now c.if-equivalence-ne3.false c.if-disjunction-ne5.false
    ∙ refused_then _ _ c.in_ok-check_witnesses.ensures c.in_err-check_witnesses-2.ensures)

pub unwrap-product-requires : goal.unwrap-product-requires
unwrap-product-requires g c =
    some_meant (samples_meaning g.G.Exponent.Exponent.value) c.product_samples.result
    (c.product_samples.ensures ∙ product_shown g.G.Group.operations g.G.Exponent.Exponent.exponents (comparison_meaning g.G.Group.point c.args.comparison) (equivalence_meaning g.G.Group.point g.G.Exponent.Exponent.number) c.args.equivalence.now c.if-equivalence-ne3.false c.in_ok-check_witnesses.ensures)

pub unwrap-branch-requires : goal.unwrap-branch-requires
unwrap-branch-requires g c =
    some_meant (branch_meaning g.G.Exponent.Exponent.value) c.choose_branch.result
    (c.choose_branch.ensures ∙ branch_shown g.G.Group.operations g.G.Exponent.Exponent.exponents (comparison_meaning g.G.Group.point c.args.comparison) (disjunctive_meaning g.G.Group.point g.G.Exponent.Exponent.number) c.args.disjunction.now c.if-disjunction-ne5.false c.in_ok-check_witnesses-2.ensures)

pub returns : goal.returns
returns g c =
    let G = g.G.Group.operations in
    let E = g.G.Exponent.Exponent.exponents in
    let k = comparison_meaning g.G.Group.point c.args.comparison in
    let W = equivalence_meaning g.G.Group.point g.G.Exponent.Exponent.number in
    let V = disjunctive_meaning g.G.Group.point g.G.Exponent.Exponent.number in
    let product = product_shown G E k W c.args.equivalence.now c.if-equivalence-ne3.false c.in_ok-check_witnesses.ensures in
    let branch = branch_shown G E k V c.args.disjunction.now c.if-disjunction-ne5.false c.in_ok-check_witnesses-2.ensures in
    let a = sym (ap (option_map (samples_meaning g.G.Exponent.Exponent.value)) c.unwrap-product.ensures) ∙ c.product_samples.ensures ∙ product in
    let b = sym (ap (option_map (branch_meaning g.G.Exponent.Exponent.value)) c.unwrap-branch.ensures) ∙ c.choose_branch.ensures ∙ branch in (
      counts_fit G E k W V c.args.equivalence.now c.args.disjunction.now c.if-equivalence-ne3.false c.if-disjunction-ne5.false
          ∙ refused_then _ _ c.in_ok-check_witnesses.ensures c.in_ok-check_witnesses-2.ensures,
      ap₂ (λ p q. record { product = p; branch = q }) (cc) (cc),
    )

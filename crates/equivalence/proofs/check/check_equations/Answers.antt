use Rattle.std.proofs.Common.{sym, ◌∙◌, eq-eqb, ne_eqb}
use Rattle.equivalence.proofs.Judging.{product_fails, split_fails, first_fails, second_fails, none_fails, first_at, second_at}
use Rattle.posting.specs.Comparison.{comparison_meaning}
use Rattle.equivalence.specs.Drawing.{draws_meaning}
use Rattle.equivalence.specs.Judgement.{proofs_meaning}
use Rattle.equivalence.proofs.check.check_equations.Goals as goal

pub returns-then-not-equivalence_holds : goal.returns-then-not-equivalence_holds
returns-then-not-equivalence_holds g c =
    let G = g.G.Group.operations in
    let k = comparison_meaning g.G.Group.point c.args.comparison in
    let p = proofs_meaning g.G.Group.point g.G.Exponent.Exponent.value c.args.proofs in
    let d = draws_meaning g.G.Exponent.Exponent.value c.args.draws in
    product_fails _ G k p d c.args.place _
    (sym c.equivalence_holds.ensures ∙ c.if-not-equivalence_holds.true)
    c.at.ensures

pub returns-then-first-second : goal.returns-then-first-second
returns-then-first-second g c =
    let G = g.G.Group.operations in
    let k = comparison_meaning g.G.Group.point c.args.comparison in
    let p = proofs_meaning g.G.Group.point g.G.Exponent.Exponent.value c.args.proofs in
    let d = draws_meaning g.G.Exponent.Exponent.value c.args.draws in
    split_fails _ G k p d c.args.place _
    (sym c.equivalence_holds.ensures ∙ c.if-not-equivalence_holds.false)
    (ne_eqb _ _ c.if-first-second.true)
    c.at-then-first-second.ensures

pub returns-then-not-branch_holds : goal.returns-then-not-branch_holds
returns-then-not-branch_holds g c =
    let G = g.G.Group.operations in
    let k = comparison_meaning g.G.Group.point c.args.comparison in
    let p = proofs_meaning g.G.Group.point g.G.Exponent.Exponent.value c.args.proofs in
    let d = draws_meaning g.G.Exponent.Exponent.value c.args.draws in
    first_fails _ G k p d c.args.place _
    (sym c.equivalence_holds.ensures ∙ c.if-not-equivalence_holds.false)
    (eq-eqb _ _ c.if-first-second.false)
    (first_at G k p d (g.G.Group.point c.fold_key-folded.result) c.branch_holds.result c.fold_key-folded.ensures c.branch_holds.ensures ∙ c.if-not-branch_holds.true)
    c.at-then-not-branch_holds.ensures

pub returns-then-not-branch_holds-2 : goal.returns-then-not-branch_holds-2
returns-then-not-branch_holds-2 g c =
    let G = g.G.Group.operations in
    let k = comparison_meaning g.G.Group.point c.args.comparison in
    let p = proofs_meaning g.G.Group.point g.G.Exponent.Exponent.value c.args.proofs in
    let d = draws_meaning g.G.Exponent.Exponent.value c.args.draws in
    second_fails _ G k p d c.args.place _
    (sym c.equivalence_holds.ensures ∙ c.if-not-equivalence_holds.false)
    (eq-eqb _ _ c.if-first-second.false)
    (first_at G k p d (g.G.Group.point c.fold_key-folded.result) c.branch_holds.result c.fold_key-folded.ensures c.branch_holds.ensures ∙ c.if-not-branch_holds.false)
    (second_at G k p d (g.G.Group.point c.fold_key-folded.result) c.branch_holds-2.result c.fold_key-folded.ensures c.branch_holds-2.ensures ∙ c.if-not-branch_holds-2.true)
    c.at-then-not-branch_holds-2.ensures

pub returns : goal.returns
returns g c =
    let G = g.G.Group.operations in
    let k = comparison_meaning g.G.Group.point c.args.comparison in
    let p = proofs_meaning g.G.Group.point g.G.Exponent.Exponent.value c.args.proofs in
    let d = draws_meaning g.G.Exponent.Exponent.value c.args.draws in
    let none = none_fails G k p d
    (sym c.equivalence_holds.ensures ∙ c.if-not-equivalence_holds.false)
    (eq-eqb _ _ c.if-first-second.false)
    (first_at G k p d (g.G.Group.point c.fold_key-folded.result) c.branch_holds.result c.fold_key-folded.ensures c.branch_holds.ensures ∙ c.if-not-branch_holds.false)
    (second_at G k p d (g.G.Group.point c.fold_key-folded.result) c.branch_holds-2.result c.fold_key-folded.ensures c.branch_holds-2.ensures ∙ c.if-not-branch_holds-2.false) in
    rw none tt

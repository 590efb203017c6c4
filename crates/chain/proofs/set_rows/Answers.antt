use Rattle.std.proofs.Common.{◌≡◌, ◌+◌, ◌-◌, List, ◌++◌, map, length, take, ap, ◌∙◌, subst, arith}
use Rattle.std.specs.List.{range_with_len}
use Rattle.std.proofs.lemmas.List.{take_all}
use Rattle.std.proofs.lemmas.List.FromFn.{length-map-range_with_len}
use Rattle.std.proofs.lemmas.Slice.{take-put_mid}
use Rattle.plan.specs.declared.Setting.{Setting}
use Rattle.plan.specs.Plans.{at}
use Rattle.plan.proofs.Places.{length_part, length_put}
use Rattle.chain.specs.Stages.{row_setting}
use Rattle.chain.proofs.Routing.{Goes, chain_left, none_left, permutes_more, goes_more, goes_all}
use Rattle.chain.proofs.set_rows.Goals as goal

pub slice_bounds-set_row-end : goal.slice_bounds-set_row-end
slice_bounds-set_row-end c = let l = chain_left c.loop-j.j (length c.args.wanted.now) c.loop-j-test.true in omega (arith, c.loop-j.invariant.1)

pub loop-j-preserved : goal.loop-j-preserved
loop-j-preserved c =
    let l = chain_left c.loop-j.j (length c.args.wanted.now) c.loop-j-test.true in
    let i0 = c.loop-j.invariant.0 in
    let i1 = c.loop-j.invariant.1 in
    let r : c.set_row.new.row ≡ map (row_setting (at c.loop-j.wanted c.loop-j.j)) (range_with_len (c.loop-j.j + 1) ((length c.args.wanted.now) - 1 - c.loop-j.j)) =
    c.set_row.ensures ∙ ap (λ m. map (row_setting (at c.loop-j.wanted c.loop-j.j)) (range_with_len (c.loop-j.j + 1) m)) (length_part c.loop-j.settings c.loop-j.start ((length c.args.wanted.now) - 1 - c.loop-j.j) (omega arith)) in
    let n : length c.set_row.new.row ≡ (length c.args.wanted.now) - 1 - c.loop-j.j = ap length r ∙ length-map-range_with_len _ _ _ in
    let t = length_put c.loop-j.settings c.set_row.new.row c.loop-j.start ((length c.args.wanted.now) - 1 - c.loop-j.j) (omega arith) n in (
      c.rename.auto.entries ∙ i0,
      omega arith,
      permutes_more c.loop-j.j (length c.args.wanted.now) (at c.loop-j.wanted) _ c.loop-j-test.true c.loop-j.invariant.2 (λ x h. c.rename.ensures x (omega arith)),
      goes_more c.loop-j.j (length c.args.wanted.now) (at c.loop-j.wanted) _ _ _ _ c.loop-j-test.true c.loop-j.invariant.2 (λ x h. c.rename.ensures x (omega arith))
          (take-put_mid c.loop-j.start _ c.loop-j.settings c.set_row.new.row _ (omega arith) (omega arith) ∙ ap (λ z. take c.loop-j.start c.loop-j.settings ++ z) r)
          c.loop-j.invariant.3,
    )

pub returns : goal.returns
returns c =
    let l = none_left c.loop-j.j (length c.args.wanted.now) c.loop-j-test.false in
    let i1 = c.loop-j.invariant.1 in
    let t = take_all c.loop-j.start c.loop-j.settings (omega arith) in
    goes_all c.loop-j.j (length c.args.wanted.now) (at c.loop-j.wanted) (at c.args.wanted.now) c.loop-j.settings c.loop-j-test.false
    (subst (λ (ss : List Setting). Goes c.loop-j.j (length c.args.wanted.now) (at c.loop-j.wanted) ss (at c.args.wanted.now)) t c.loop-j.invariant.3)

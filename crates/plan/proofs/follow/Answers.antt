use Rattle.std.proofs.Common.{◌-◌, length, get_or, sym, ap, ◌∙◌, ⊎_elim, true≢false, arith}
use Rattle.std.proofs.lemmas.List.{get_or_read}
use Rattle.plan.specs.declared.Setting.TheVariants.{Straight}
use Rattle.plan.proofs.Running.{nth_none}
use Rattle.plan.proofs.Totals.{sums_along_routes, back_none, back_wire, back_sum, back_all, back_below}
use Rattle.plan.proofs.follow.Goals as goal

pub returns-then-not-fits : goal.returns-then-not-fits
returns-then-not-fits g c =
    record {
      followed = λ a b d e.
          ⊎_elim (λ f. true≢false (sym (c.fits.ensures.1 (a, d)) ∙ f)) (λ r. ⊎_elim (λ h. h.1 (b ∙ sym a)) (λ h. let l = h.2 in omega arith) r) c.then-not-fits.either;
      sums = sums_along_routes _;
    }

pub loop-k-init : goal.loop-k-init
loop-k-init g c =
    let b = back_none (g.P.Plan.listing c.args.plan.now) c.args.settings.now c.args.words.now c.args.wire (length c.args.settings.now) (omega arith) in
    (b.0, b.1, omega arith)

pub loop-k-preserved-in-Some : goal.loop-k-preserved-in-Some
loop-k-preserved-in-Some g c = (
  back_wire _ c.args.settings.now c.args.wire c.loop-k.k c.loop-k.start _ c.in-Some.comparator _ c.loop-k-test.true (sym c.in-Some.ensures) (omega arith)
      c.loop-k.invariant.0 c.came_from-start.ensures,
  back_sum _ c.args.settings.now c.args.words.now c.args.wire c.loop-k.k c.loop-k.start c.loop-k.sum _ c.in-Some.comparator Straight _ c.loop-k-test.true
      (sym c.in-Some.ensures) (omega arith) (omega arith) c.loop-k.invariant.0 c.loop-k.invariant.1 c.word_taken.ensures,
  omega arith,
)

pub loop-k-preserved : goal.loop-k-preserved
loop-k-preserved g c = absurd (let n = nth_none (g.P.Plan.listing c.args.plan.now) (c.loop-k.k - 1) (sym c.in_default.ensures) in omega arith)

pub offset_bounds-items-start : goal.offset_bounds-items-start
offset_bounds-items-start g c =
    let l = back_below _ _ c.args.settings.now c.args.wire c.loop-k.k c.loop-k.start (g.met.P.Plan.lawful c.args.plan.now).within (omega arith) c.loop-k-test.false c.loop-k.invariant.0 in
    omega arith

pub bounds-items-start : goal.bounds-items-start
bounds-items-start g c =
    let l = back_below _ _ c.args.settings.now c.args.wire c.loop-k.k c.loop-k.start (g.met.P.Plan.lawful c.args.plan.now).within (omega arith) c.loop-k-test.false c.loop-k.invariant.0 in
    omega arith

pub returns : goal.returns
returns g c =
    let l = back_below _ _ c.args.settings.now c.args.wire c.loop-k.k c.loop-k.start (g.met.P.Plan.lawful c.args.plan.now).within (omega arith) c.loop-k-test.false c.loop-k.invariant.0 in
    let b = back_all _ c.args.settings.now c.args.words.now c.args.wire c.loop-k.k c.loop-k.start c.loop-k.sum c.loop-k-test.false c.loop-k.invariant.0 c.loop-k.invariant.1 in
    let xs = c.args.items.now in
    record {
      followed =
          record {
            item = λ d. get_or_read xs c.loop-k.start c.index-items-start.result (omega arith) c.index-items-start.is d ∙ ap (λ i. get_or xs i d) b.0;
            total = b.1;
          };
      sums = sums_along_routes _;
    }

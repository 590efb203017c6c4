use Rattle.std.proofs.Common.{get_or, sym, ap, ◌∙◌, arith}
use Rattle.plan.proofs.Running.{nth_within, run_more, run_all, nth_none, moved}
use Rattle.plan.proofs.run_plan.Goals as goal
use Rattle.plan.proofs.run_plan.Goals.{in-Some, in_default}

pub apply-requires : goal.apply-requires
apply-requires g c =
    let w = nth_within _ _ _ _ (g.met.P.Plan.lawful c.args.plan.now).within (sym c.in-Some.ensures) in
    record { first = omega arith; second = omega arith }

pub loop-k-preserved : goal.loop-k-preserved
loop-k-preserved g c =
    elim c.match-comparator.branch [
      | in-Some w ↦ run_more _ c.args.settings.now _ _ _ c.loop-k.k _ _ (sym w.in-Some.ensures) c.loop-k-test.true (w.items-is ∙ w.apply.ensures) c.loop-k.invariant
      | in_default w ↦ absurd (let n = nth_none (g.P.Plan.listing c.args.plan.now) c.loop-k.k (sym w.in_default.ensures) in omega arith)
    ]

pub returns : goal.returns
returns g c =
    let l = g.met.P.Plan.lawful c.args.plan.now in
    let e = sym (run_all _ c.args.settings.now c.loop-k.items c.loop-k.k (omega arith)) ∙ c.loop-k.invariant in
    record {
      ran = (omega arith, omega arith, e);
      moved = λ _ p b j d h. ap (λ xs. get_or xs j d) e ∙ moved _ _ _ p c.args.items.now j d l.within b (omega arith) h;
    }

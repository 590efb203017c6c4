use Rattle.std.proofs.Common.{ap, ◌∙◌, ap₂}
use Rattle.std.specs.List.{range_with_len}
use Rattle.std.proofs.lemmas.List.{take_at}
use Rattle.plan.specs.Plans.{run}
use Rattle.route.proofs.route_on.Goals as goal

pub returns : goal.returns
returns g c =
    let b = c.in_ok-route.ensures.1 in
    let s = take_at c.route.new.settings _ c.in_ok-settings.settings.len (c.route.auto.settings ∙ c.as_mut_slice.ensures.len) in
    let t = take_at c.run_plan.new.items _ c.in_ok-brought.brought.len (c.run_plan.auto.items ∙ c.as_mut_slice-2.ensures.len) in (
      rw s b,
      t ∙ c.in_ok-run_plan.ensures.ran.2
          ∙ ap₂ (λ ss ws. run (g.P.Plan.listing c.args.plan.now) ss ws) (c.as_slice.ensures.value ∙ s) (c.as_mut_slice-2.ensures.value ∙ c.in_ok-brought.ensures ∙ ap (range_with_len 0) c.wires.ensures)
          ∙ b.brought,
    )

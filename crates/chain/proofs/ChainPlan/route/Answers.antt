use Rattle.std.proofs.Common.{length, take, ap, ◌∙◌}
use Rattle.chain.proofs.Routing.{routed}
use Rattle.chain.proofs.ChainPlan.route.Goals as goal

pub returns : goal.returns
returns c =
    let s = c.in_ok-shuffle.shuffle in
    let t = c.copy_from_slice.ensures.after ∙ c.entries-entries.ensures.entries in
    let w = c.in_ok-shuffle.ensures.0 in
    let n = ap length c.copy_from_slice.ensures.after ∙ c.entries-entries.ensures.length ∙ w in
    routed c.args.self.now.width c.wires.result c.args.permutation.now s.entries s.inverse _ _ c.wires.ensures c.args.self.now.fits
    c.in_ok-shuffle.ensures.1 (t ∙ ap (λ m. take m s.entries) w) n (c.set_rows.auto.settings ∙ c.if-settings-count.false ∙ c.count.ensures) c.set_rows.ensures

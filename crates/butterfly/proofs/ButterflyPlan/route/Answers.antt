use Rattle.std.proofs.Common.{length, take, ap, ◌∙◌, arith}
use Rattle.butterfly.specs.Placing.{butterfly_is}
use Rattle.butterfly.proofs.Routing.{shown_inverse, routed}
use Rattle.butterfly.proofs.ButterflyPlan.route.Goals as goal

pub route_over-requires : goal.route_over-requires
route_over-requires c =
    let s = c.in_ok-shuffle.shuffle in
    let w = c.in_ok-shuffle.ensures.0 in
    let v = c.wires.ensures.value in
    let n = ap length (butterfly_is c.args.self.now.levels.count) in
    record {
      entries = c.entries.ensures.length ∙ w ∙ v;
      inverse = c.inverse.ensures.length ∙ w ∙ v;
      inverses = shown_inverse _ c.wires.result c.args.permutation.now s.entries s.inverse _ _ v c.in_ok-shuffle.ensures.1
          (c.entries.ensures.entries ∙ ap (λ i. take i s.entries) w) (c.inverse.ensures.inverse ∙ ap (λ i. take i s.inverse) w);
      places = omega (arith, c.if-settings-count.false, c.count.ensures);
    }

pub returns : goal.returns
returns c =
    let s = c.in_ok-shuffle.shuffle in
    let l = c.args.self.now.levels in
    routed l.count c.wires.result c.args.permutation.now s.entries s.inverse _ _ c.wires.ensures.value c.args.self.now.some l.few c.in_ok-shuffle.ensures.1
    (c.entries.ensures.entries ∙ ap (λ i. take i s.entries) c.in_ok-shuffle.ensures.0) (c.route_over.auto.settings ∙ c.if-settings-count.false ∙ c.count.ensures) c.route_over.ensures

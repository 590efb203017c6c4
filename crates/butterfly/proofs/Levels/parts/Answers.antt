use Rattle.std.proofs.Common.{arith, pow_mono}
use Rattle.butterfly.proofs.Routing.{in_parts}
use Rattle.butterfly.proofs.Levels.parts.Goals as goal

pub invariant_of-result : goal.invariant_of-result
invariant_of-result c =
    let l = c.in_ok-count.ensures in
    let e = c.wires.ensures.value in
    let b = pow_mono {i = c.in_ok-count.count} {j = 5} (omega (arith, l.1)) in
    record {
      wires = e;
      comparators = c.comparators.ensures.value;
      some = c.wires.ensures.bound.0;
      few = (omega arith, c.comparators.ensures.bound);
    }

pub returns : goal.returns
returns c =
    let l = c.in_ok-count.ensures in
    in_parts c.args.self.count c.in_ok-count.count c.wires.result c.comparators.result l.0 l.1 c.wires.ensures.value c.comparators.ensures.value

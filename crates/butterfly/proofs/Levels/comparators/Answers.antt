use Rattle.std.proofs.Common.{◌*◌, length, ap, arith}
use Rattle.butterfly.specs.Network.{network_count}
use Rattle.butterfly.specs.Placing.{sizes, butterfly_is}
use Rattle.butterfly.proofs.Levels.comparators.Goals as goal

pub overflow_sub-result : goal.overflow_sub-result
overflow_sub-result c =
    let n = network_count c.args.self.count in
    let e = ap (λ w. c.args.self.count * w) c.wires-wires.ensures.value in
    omega arith

pub returns : goal.returns
returns c =
    let n = network_count c.args.self.count in
    let s = sizes c.args.self.count c.args.self.few in
    let e = ap (λ w. c.args.self.count * w) c.wires-wires.ensures.value in
    let b = ap length (butterfly_is c.args.self.count) in
    record { value = omega arith; listed = omega arith; bound = omega arith }

use Rattle.std.proofs.Common.{arith}
use Rattle.std.proofs.lemmas.Nat.{one_shl}
use Rattle.butterfly.specs.Placing.{widths}
use Rattle.butterfly.proofs.Levels.wires.Goals as goal

pub returns : goal.returns
returns c =
    let e = one_shl c.args.self.count 64 (omega arith) in
    let b = widths c.args.self.count c.args.self.few in
    let b0 = b.0 in
    let b1 = b.1 in
    record { value = e; bound = (omega arith, omega arith) }

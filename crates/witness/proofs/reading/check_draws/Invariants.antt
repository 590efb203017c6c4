use Rattle.std.proofs.Common.{◌≡◌, ◌+◌, [], take, drop}
use Rattle.witness.specs.Refusals.{repeated, draws}
use Rattle.witness.proofs.reading.check_draws.Given as goal

abbrev pub invariant-loop-i : goal.invariant-loop-i
invariant-loop-i g l =
    repeated (l.start + l.i) (draws g.X.Exponent.number (take l.i l.witnesses)) (draws g.X.Exponent.number (drop l.i l.witnesses))
    ≡ repeated l.start [] (draws g.X.Exponent.number l.witnesses)

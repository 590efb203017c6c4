use Rattle.std.proofs.Common.{◌≡◌, ◌+◌, [], map, drop, None}
use Rattle.witness.specs.Refusals.{repeated, draws, judge, judged}
use Rattle.witness.specs.Witnesses.{witness_meaning}
use Rattle.witness.proofs.examining.check_witnesses.Given as goal

abbrev pub invariant-loop-i : goal.invariant-loop-i
invariant-loop-i g l =
    let number = g.P.Exponent.Exponent.number in
    let m = witness_meaning number g.P.Proof.posted_meaning in
    let J = judge g.P.Exponent.Exponent.exponents (g.P.Proof.asks l.proof) in
    (repeated l.start [] (draws number l.witnesses) ≡ None) × (judged J (l.start + l.i) (map m (drop l.i l.witnesses)) ≡ judged J l.start (map m l.witnesses))

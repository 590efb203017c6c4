use Rattle.std.proofs.Common.{◌≡◌, ℕ, ◌+◌, take, Some, sym, ap, ◌∙◌}
use native.Mathlib.Nat.{sub-zero}
use Rattle.witness.specs.Refusals.{stands, draws}
use Rattle.witness.proofs.Draws.{repeated_here, repeated_after, repeated_none}
use Rattle.witness.proofs.reading.check_draws.Goals as goal

pub returns-then-drawn_among : goal.returns-then-drawn_among
returns-then-drawn_among g c =
    let number = g.X.Exponent.number in
    let ws = c.args.witnesses.now in
    let i = c.loop-i.i in
    let z = number c.index-witnesses-i.result.z in
    let drawn : c.drawn_among.result ≡ stands z (draws number (take i ws)) = c.drawn_among.ensures ∙ ap (λ (n : ℕ). stands z (draws number (take n ws))) (sub-zero i) in
    sym c.loop-i.invariant
    ∙ repeated_here number ws i c.index-witnesses-i.result c.index-witnesses-i.is c.loop-i-test.true (c.args.start + i) (draws number (take i ws)) (sym drawn ∙ c.if-drawn_among.true)
    ∙ ap Some (sym c.at.ensures)

pub loop-i-preserved : goal.loop-i-preserved
loop-i-preserved g c =
    let number = g.X.Exponent.number in
    let ws = c.args.witnesses.now in
    let i = c.loop-i.i in
    let z = number c.index-witnesses-i.result.z in
    let drawn : c.drawn_among.result ≡ stands z (draws number (take i ws)) = c.drawn_among.ensures ∙ ap (λ (n : ℕ). stands z (draws number (take n ws))) (sub-zero i) in
    sym (repeated_after number ws i c.index-witnesses-i.result c.index-witnesses-i.is c.loop-i-test.true c.args.start (sym drawn ∙ c.if-drawn_among.false))
    ∙ c.loop-i.invariant

pub returns : goal.returns
returns g c =
    let number = g.X.Exponent.number in
    let ws = c.args.witnesses.now in
    let i = c.loop-i.i in
    sym c.loop-i.invariant ∙ repeated_none number ws i c.loop-i-test.false (c.args.start + i) (draws number (take i ws))

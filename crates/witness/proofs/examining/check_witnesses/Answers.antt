use Rattle.std.proofs.Common.{◌≡◌, ℕ, ◌+◌, Some, ◌∙◌, sym, subst, arith}
use Rattle.std.proofs.lemmas.Result.{err_from_is_err_and}
use Rattle.witness.specs.Refusals.{at_place, judge}
use Rattle.witness.specs.Witnesses.{witness_meaning}
use Rattle.witness.proofs.Judging.{stop_at, done_at, refused_first, refused_then, among_is}
use Rattle.witness.proofs.examining.check_witnesses.Goals as goal

pub returns-in_err-check_draws : goal.returns-in_err-check_draws
returns-in_err-check_draws g c =
    let E = g.P.Exponent.Exponent.exponents in
    let asks = g.P.Proof.asks c.args.proof.now in
    let p = err_from_is_err_and c.from_residual.result c.from_residual.ensures.1 in
    rw (p.1, p.2) (among_is E asks g.P.Exponent.Exponent.number g.P.Proof.posted_meaning c.args.start c.args.witnesses.now ∙ refused_first _ _ c.in_err-check_draws.ensures)

pub returns-in_err-check_witness : goal.returns-in_err-check_witness
returns-in_err-check_witness g c =
    let number = g.P.Exponent.Exponent.number in
    let m = witness_meaning number g.P.Proof.posted_meaning in
    let E = g.P.Exponent.Exponent.exponents in
    let asks = g.P.Proof.asks c.args.proof.now in
    let J = judge E asks in
    let ws = c.args.witnesses.now in
    let p = err_from_is_err_and c.from_residual-in_err-check_witness.result c.from_residual-in_err-check_witness.ensures.1 in
    let told : at_place (c.args.start + c.loop-i.i) (J (m c.index-witnesses-i.result)) ≡ Some c.in_err-check_witness.field-0.0 =
    subst (λ (place : ℕ). at_place place (J (m c.index-witnesses-i.result)) ≡ Some c.in_err-check_witness.field-0.0) (omega arith) c.in_err-check_witness.ensures in
    rw (p.1, p.2) (among_is E asks number g.P.Proof.posted_meaning c.args.start ws ∙ refused_then _ _ c.loop-i.invariant.0
    (sym c.loop-i.invariant.1 ∙ stop_at J m ws (c.args.start + c.loop-i.i) c.loop-i.i c.index-witnesses-i.result c.index-witnesses-i.is c.loop-i-test.true told))

pub returns : goal.returns
returns g c =
    let number = g.P.Exponent.Exponent.number in
    let m = witness_meaning number g.P.Proof.posted_meaning in
    let E = g.P.Exponent.Exponent.exponents in
    let asks = g.P.Proof.asks c.args.proof.now in
    let J = judge E asks in
    let ws = c.args.witnesses.now in
    among_is E asks number g.P.Proof.posted_meaning c.args.start ws ∙ refused_then _ _ c.loop-i.invariant.0
    (sym c.loop-i.invariant.1 ∙ done_at J m ws (c.args.start + c.loop-i.i) c.loop-i.i c.loop-i-test.false)

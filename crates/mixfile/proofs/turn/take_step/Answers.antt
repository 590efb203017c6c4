use Rattle.std.proofs.Common.{length, subst}
use Rattle.board.specs.Calls.{terms, Happens}
use Rattle.board.specs.Serving.{judge_honest, HonestStep}
use Rattle.board.specs.States.{view, state_map}
use Rattle.board.specs.declared.board.Board.{Board}
use Rattle.board.specs.declared.events.Event.TheVariants.{Step}
use Rattle.elgamal.specs.Ciphertexts.{meaning}
use Rattle.prover.specs.States.{message_meaning}
use Rattle.prover.specs.declared.states.Message.{Message}
use Rattle.roundcheck.proofs.Failing.{mapped_ok}
use Rattle.roundcheck.proofs.Openings.{not_refused}
use Rattle.mixfile.proofs.Happening.{taken_state}
use Rattle.mixfile.proofs.turn.take_step.Goals as goal

pub returns-clause-taken : goal.returns-clause-taken
returns-clause-taken g c =
    let point = g.G.Group.point in
    let number = g.G.Exponent.Exponent.number in
    let b = c.args.board.now in
    let terms-of = λ (k : g.row.G-Element.Denot). terms g.G.Group.operations g.G.Exponent.Exponent.exponents (g.S.Source.words c.args.setup.now.source.now) (point k) (g.P.Plan.listing c.args.setup.now.plan.now) in
    let s = state_map (meaning point) (view b) in
    let s' = state_map (meaning point) (view c.call.new.board) in
    let told = c.honest_step.ensures in
    let m = c.in_ok-message.message in
    let e = Step (message_meaning point number m) in
    let bytes = length c.honest_step.new.buffer in
    let made = mapped_ok c.honest_step.result c.map_err.result _ _ c.map_err.ensures.cases c.in_ok-message.was in
    let taken = mapped_ok c.call.result c.map_err-2.result _ _ c.map_err-2.ensures.cases c.in_ok-map_err.was in
    let honest = (not_refused (judge_honest (terms-of b.key) s (length c.args.words.now) (length c.args.buffer.now)) b.next
    (λ (x : Message g.row.G-Element.Denot _). HonestStep (terms-of b.key) s c.args.setting c.args.words.now (message_meaning point number x)) m (rw made at told.outcome)).1 in
    let happens = subst (λ (x : Board g.row.G-Element.Denot). Happens (terms-of x.key) (state_map (meaning point) (view x)) e bytes c.call.result s') told.kept c.call.ensures.happens in
    (honest, taken_state (terms-of b.key) s s' e bytes c.call.result _ taken happens)

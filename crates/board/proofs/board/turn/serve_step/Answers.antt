use Rattle.std.proofs.Common.{◌≡◌, ℕ, length, ap, ◌∙◌, arith}
use Rattle.elgamal.specs.Ciphertexts.{meaning}
use Rattle.prover.proofs.Outcomes.{no_refusal as not_refused}
use Rattle.prover.specs.States.{message_meaning}
use Rattle.prover.specs.declared.states.Message.{Message}
use Rattle.board.proofs.Meanings.{map_stepped}
use Rattle.board.specs.Calls.{terms}
use Rattle.board.specs.Serving.{honest_step}
use Rattle.board.specs.States.{view, state_map, stepped_state}
use Rattle.board.proofs.board.turn.serve_step.Goals as goal

pub write-requires-clause-few : goal.write-requires-clause-few
write-requires-clause-few g c = let plan = g.met.P.Plan.lawful c.args.setup.now.plan.now in omega (arith, plan.few, c.count.ensures)

pub returns-clause-state : goal.returns-clause-state
returns-clause-state g c =
    let point = g.G.Group.point in
    let number = g.G.Exponent.Exponent.number in
    let cs = g.P.Plan.listing c.args.setup.now.plan.now in
    let b = c.args.board.now in
    let T = terms g.G.Group.operations g.G.Exponent.Exponent.exponents (g.S.Source.words c.args.setup.now.source.now) (point b.key) cs in
    let s = state_map (meaning point) (view b) in
    let on = c.args.on in
    let m = c.in_ok-outputs.field-0 in
    let o = m.outputs in
    let told = not_refused _ _ (λ x. message_meaning point number x ≡ honest_step T s on c.args.setting c.args.words) m c.in_ok-outputs.ensures.outcome in
    ap (state_map (meaning point)) c.write.ensures.state
    ∙ map_stepped (meaning point) c.count.result (view b) on.first on.second o.first o.second
    ∙ ap (λ (n : ℕ). stepped_state n s on.first on.second (meaning point o.first) (meaning point o.second)) c.count.ensures
    ∙ ap (λ (x : Message g.G.Group.Point ℕ). stepped_state (length cs) s on.first on.second x.outputs.first x.outputs.second) told.1

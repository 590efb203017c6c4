use Rattle.std.proofs.Common.{◌≡◌, ℕ, ◌+◌, ◌<◌, ◌≤◌, List, length, get_or, Some, sym, refl, ap, ◌∙◌, subst, arith}
use Rattle.std.proofs.lemmas.List.{take_more}
use Rattle.elgamal.specs.Ciphertexts.{meaning}
use Rattle.elgamal.specs.declared.Ciphertext.{Ciphertext}
use Rattle.plan.specs.declared.Setting.TheVariants.{Straight}
use Rattle.board.proofs.Meanings.{length-map}
use Rattle.board.proofs.Stepping.{on_wires}
use Rattle.board.proofs.Turning.{SoFar, none_made, one_made, all_made, nth_within, question_below}
use Rattle.board.specs.Calls.{terms, after_step}
use Rattle.board.specs.Serving.{honest_step}
use Rattle.board.specs.Stages.{turning}
use Rattle.board.specs.States.{State, view, state_map}
use Rattle.board.proofs.board.turn.serve_steps.Goals as goal

pub loop-k-init : goal.loop-k-init
loop-k-init g c = (refl, none_made _ _ _ _ c.requires.stage c.requires.next)

pub returns-in_default : goal.returns-in_default
returns-in_default g c = absurd (nth_within (g.P.Plan.listing c.args.setup.now.plan.now) c.loop-k.k (omega (arith, c.loop-k-test.true, c.requires.settings)) (sym c.in_default.ensures))

pub serve_step-requires : goal.serve_step-requires
serve_step-requires g c =
    let plan = g.met.P.Plan.lawful c.args.setup.now.plan.now in
    let on = on_wires _ _ _ _ plan.within c.in-Some.ensures in
    let so_far = c.loop-k.invariant.1 in
    let long = length-map (meaning g.G.Group.point) c.loop-k.board.wires.now in
    let long₀ = length-map (meaning g.G.Group.point) c.args.board.now.wires.now in
    let stage = so_far.turning on.2 in
    let some : 1 ≤ c.loop-k.board.server = omega (arith, c.loop-k.board.done, ap turning stage) in
    record {
      first = omega (arith, on.0, on.1, so_far.long, long, long₀, c.requires.wide);
      second = omega (arith, on.1, so_far.long, long, long₀, c.requires.wide);
      next = omega (arith, on.2, so_far.next on.2);
      stage = stage;
      buffer = omega (arith, c.requires.buffer, c.loop-k.auto.buffer);
      reach = rw (so_far.next on.2) (question_below (length (g.P.Plan.listing c.args.setup.now.plan.now)) c.loop-k.board.server c.loop-k.k _ some on.2 (rw (so_far.server on.2) c.requires.reach));
    }

pub loop-k-preserved : goal.loop-k-preserved
loop-k-preserved g c =
    let point = g.G.Group.point in
    let terms-of = λ (y : g.row.G-Element.Denot). terms g.G.Group.operations g.G.Exponent.Exponent.exponents (g.S.Source.words c.args.setup.now.source.now) (point y) (g.P.Plan.listing c.args.setup.now.plan.now) in
    let T = terms-of c.args.board.now.key in
    let s₀ = state_map (meaning point) (view c.args.board.now) in
    let s = state_map (meaning point) (view c.loop-k.board) in
    let ss = c.args.settings.now in
    let k = c.loop-k.k in
    let on = on_wires _ _ _ _ (g.met.P.Plan.lawful c.args.setup.now.plan.now).within c.in-Some.ensures in
    let told = c.in_ok-serve_step.ensures in
    let x = get_or ss k Straight in
    let s' = state_map (meaning point) (view c.serve_step.new.board) in
    let below : k < length ss = omega (arith, c.loop-k-test.true) in
    let made = one_made T ss c.args.words.now s₀ k s c.in-Some.on x c.requires.settings on.2 (sym c.in-Some.ensures) (take_more ss k Straight below) c.loop-k.invariant.1 in
    let is = subst (λ (y : g.row.G-Element.Denot). s' ≡ after_step (terms-of y) s (honest_step (terms-of y) s c.in-Some.on x c.six_words-six.result) (Some c.in-Some.on)) c.loop-k.invariant.0 told.state
    ∙ ap (λ (ws : List ℕ). after_step T s (honest_step T s c.in-Some.on x ws) (Some c.in-Some.on)) c.six_words-six.ensures in (
      told.key ∙ c.loop-k.invariant.0,
      subst (λ (t : State (Ciphertext g.G.Group.Point)). SoFar T ss c.args.words.now s₀ (k + 1) t) (sym is) made,
    )

pub returns : goal.returns
returns g c =
    let point = g.G.Group.point in
    let terms-of = λ (y : g.row.G-Element.Denot). terms g.G.Group.operations g.G.Exponent.Exponent.exponents (g.S.Source.words c.args.setup.now.source.now) (point y) (g.P.Plan.listing c.args.setup.now.plan.now) in
    let T = terms-of c.args.board.now.key in
    let s₀ = state_map (meaning point) (view c.args.board.now) in
    record {
      made = refl;
      key = c.loop-k.invariant.0;
      state = all_made T c.args.settings.now c.args.words.now s₀ c.loop-k.k _ c.requires.settings (omega (arith, c.loop-k-test.false)) c.loop-k.invariant.1;
    }

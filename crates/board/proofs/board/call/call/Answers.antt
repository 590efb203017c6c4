use Rattle.std.proofs.Common.{◌∙◌, length, sym, refl, subst, leb-true, rules}
use Rattle.board.proofs.Calling.{post_happens, step_happens}
use Rattle.board.specs.Calls.{terms, event_meaning, Happens}
use Rattle.board.specs.States.{view, state_map}
use Rattle.board.specs.declared.events.Event.{Event}
use Rattle.elgamal.specs.Ciphertexts.{meaning}
use Rattle.prover.specs.States.{message_meaning}
use Rattle.board.proofs.board.call.call.Goals as goal

pub returns-in-Gathering-Post : goal.returns-in-Gathering-Post
returns-in-Gathering-Post g c =
    let point = g.G.Group.point in
    let b = c.args.board.now in
    let T = terms g.G.Group.operations g.G.Exponent.Exponent.exponents (g.S.Source.words c.args.setup.now.source.now) (point b.key) (g.P.Plan.listing c.args.setup.now.plan.now) in
    let bytes = length c.args.buffer.now in
    let done = λ (e : Event g.row.G-Element.Denot _). Happens T (state_map (meaning point) (view b)) (event_meaning point g.G.Exponent.Exponent.number e) bytes c.post.result (state_map (meaning point) (view c.post.new.self)) in
    record {
      happens = subst done (sym c.in-Gathering-Post.is-1) (post_happens T point (view b) (view c.post.new.self) bytes c.in-Gathering-Post.quote c.post.result c.in-Gathering-Post.is-0 c.post.ensures.outcome);
      key = c.post.ensures.key;
      cleared = search rules;
    }

pub returns-in-Turning-Step : goal.returns-in-Turning-Step
returns-in-Turning-Step g c =
    let point = g.G.Group.point in
    let b = c.args.board.now in
    let T = terms g.G.Group.operations g.G.Exponent.Exponent.exponents (g.S.Source.words c.args.setup.now.source.now) (point b.key) (g.P.Plan.listing c.args.setup.now.plan.now) in
    let bytes = length c.args.buffer.now in
    let message = c.in_default-Step.field-0-1 in
    let m = message_meaning point g.G.Exponent.Exponent.number message in
    let fits = leb-true _ _ (sym c.buffer_fits-fits.ensures ∙ c.if-not-fits.false) in
    let done = λ (e : Event g.row.G-Element.Denot _). Happens T (state_map (meaning point) (view b)) (event_meaning point g.G.Exponent.Exponent.number e) bytes c.step.result (state_map (meaning point) (view c.step.new.board)) in
    record {
      happens = subst done (sym c.in_default-Step.is-1) (step_happens T point (view b) (view c.step.new.board) bytes m message.outputs refl c.step.result c.in-Turning-Step.is-0 fits c.step.ensures.happens);
      key = c.step.ensures.key;
      cleared = search rules;
    }

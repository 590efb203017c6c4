use Rattle.std.proofs.Common.{Ok, Err, refl, ap, ◌∙◌, subst}
use Rattle.std.proofs.lemmas.Result.{err_from_is_err_and}
use Rattle.board.specs.Calls.{terms}
use Rattle.board.specs.States.{view, state_map}
use Rattle.elgamal.specs.Ciphertexts.{meaning}
use Rattle.roundcheck.proofs.Judging.{refused_kept, begun, went_on, stopped}
use Rattle.roundcheck.proofs.Reading.{gave_by, ended_by, refused_by}
use Rattle.roundcheck.specs.Runs.{found_in, Judges}
use Rattle.roundcheck.proofs.records.run_records.Goals as goal

pub loop-entry-init : goal.loop-entry-init
loop-entry-init g c = (refl, begun _ _ _ _ _)

pub returns-in_err-entry : goal.returns-in_err-entry
returns-in_err-entry g c =
    let e = err_from_is_err_and c.from_residual.result c.from_residual.ensures.1 in
    rw (e.1, e.2) (stopped _ _ _ _ _ _ _ _ _ _ c.loop-entry.invariant.1 (refused_by _ _ c.in_err-entry.ensures.gives) refl)

pub returns : goal.returns
returns g c =
    stopped _ _ _ _ _ _ _ _ _ _ c.loop-entry.invariant.1 (ended_by _ (rw c.in_default.is at c.in_ok-entry.ensures.gives)) (ap Ok c.judge_round.ensures.standing)

pub returns-in_err-line : goal.returns-in_err-line
returns-in_err-line g c =
    let point = g.G.Group.point in
    let number = g.G.Exponent.Exponent.number in
    let terms-of = λ (k : g.row.G-Element.Denot). terms g.G.Group.operations g.G.Exponent.Exponent.exponents (g.S.Source.words c.args.setup.now.source.now) (point k) (g.P.Plan.listing c.args.setup.now.plan.now) in
    let s = state_map (meaning point) (view c.loop-entry.board) in
    let s' = state_map (meaning point) (view c.judge_record.new.board) in
    let f = found_in c.in-Some.entry in
    let read = c.in_ok-entry.ensures in
    let r = c.in_err-line.field-0.0 in
    let e = err_from_is_err_and c.from_residual-in_err-line.result c.from_residual-in_err-line.ensures.1 in
    let judged = subst (λ (k : g.row.G-Element.Denot). Judges (terms-of k) number s f (Err r) s') c.loop-entry.invariant.0 c.in_err-line.ensures.judged in
    rw (e.1, e.2)
    (stopped _ _ _ _ _ _ s _ _ _ c.loop-entry.invariant.1 (gave_by _ _ _ f (rw c.in-Some.is at read.gives) read.leaves)
    (r, refused_kept (terms-of c.args.board.now.key) number s s' f r judged, refl))

pub loop-entry-preserved : goal.loop-entry-preserved
loop-entry-preserved g c =
    let point = g.G.Group.point in
    let number = g.G.Exponent.Exponent.number in
    let terms-of = λ (k : g.row.G-Element.Denot). terms g.G.Group.operations g.G.Exponent.Exponent.exponents (g.S.Source.words c.args.setup.now.source.now) (point k) (g.P.Plan.listing c.args.setup.now.plan.now) in
    let s = state_map (meaning point) (view c.loop-entry.board) in
    let s' = state_map (meaning point) (view c.judge_record.new.board) in
    let f = found_in c.in-Some.entry in
    let read = c.in_ok-entry.ensures in
    let told = c.in_ok-line.ensures in
    let judged = subst (λ (k : g.row.G-Element.Denot). Judges (terms-of k) number s f (Ok c.in_ok-line.line) s') c.loop-entry.invariant.0 told.judged in (
      told.key ∙ c.loop-entry.invariant.0,
      went_on _ _ _ _ _ _ _ _ _ _ _ f c.in_ok-line.line c.loop-entry.invariant.1 (gave_by _ _ _ f (rw c.in-Some.is at read.gives) read.leaves) judged c.in_ok-push.ensures.items,
    )

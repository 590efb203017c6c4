use Rattle.std.proofs.Common.{◌≡◌, ℕ, length, Some, Err, Option, sym, ap, ◌∙◌, subst, rules}
use Rattle.std.proofs.lemmas.Result.{err_from_is_err_and}
use Rattle.std.specs.Result.{result_ok}
use Rattle.board.specs.Calls.{terms, event_meaning}
use Rattle.board.specs.States.{view, state_map}
use Rattle.board.specs.declared.events.Event.{Event}
use Rattle.elgamal.specs.Ciphertexts.{meaning}
use Rattle.refusal.specs.Table.{refused_at}
use Rattle.roundcheck.proofs.Failing.{mapped_err}
use Rattle.roundcheck.proofs.Judging.{refused_call}
use Rattle.roundcheck.specs.Events.{call_of}
use Rattle.roundfile.specs.Records.{content}
use Rattle.roundcheck.specs.Runs.{found_in, JudgesCall}
use Rattle.roundcheck.proofs.records.judge_record.Goals as goal

pub returns-in_err-taken-clause-judged : goal.returns-in_err-taken-clause-judged
returns-in_err-taken-clause-judged g c =
    let point = g.G.Group.point in
    let number = g.G.Exponent.Exponent.number in
    let b = c.args.board.now in
    let T = terms g.G.Group.operations g.G.Exponent.Exponent.exponents (g.S.Source.words c.args.setup.now.source.now) (point b.key) (g.P.Plan.listing c.args.setup.now.plan.now) in
    let s = state_map (meaning point) (view b) in
    let s' = state_map (meaning point) (view c.call.new.board) in
    let f = found_in c.args.entry in
    let e = err_from_is_err_and c.from_residual-in_err-taken.result c.from_residual-in_err-taken.ensures.1 in
    let m = mapped_err c.call.result c.map_err.result _ _ c.map_err.ensures.cases c.in_err-taken.was in
    let told : e.0 ≡ refused_at m.0.reason f.offset = search rules in
    let codes = c.in_ok-codes.codes in
    let known : call_of (content c.args.entry.record) ≡ Some codes = sym c.call_of.ensures ∙ c.ok_or.ensures.ok_part ∙ ap result_ok c.in_ok-codes.was in
    rw e.1
    (subst (λ (o : Option (Event ℕ ℕ)). JudgesCall T number o s f (Err e.0) s') (sym known)
    (refused_call T number s s' codes f (event_meaning point number c.in_ok-event.event) (length c.args.buffer.now) m.0 e.0 c.in_ok-event.ensures c.requires
    (rw m.1 at c.call.ensures.happens) told))

use Rattle.std.proofs.Common.{◌≡◌, ℕ, List, [], length, Some, None, vec_items, sym, ap, ◌∙◌, subst, ap₂, inl, rules}
use Rattle.std.proofs.lemmas.List.{append-nil}
use Rattle.std.proofs.lemmas.Result.{err_from_is_err_and}
use lib.ListN.{length-replicate}
use Rattle.board.specs.Calls.{terms}
use Rattle.board.specs.Rounds.{judge_open}
use Rattle.board.specs.States.{view, state_map}
use Rattle.elgamal.specs.Ciphertexts.{meaning}
use Rattle.plan.specs.declared.Comparator.{Comparator}
use Rattle.refusal.specs.Table.{refused_at}
use Rattle.roundfile.specs.Reading.{place, step}
use Rattle.roundcheck.proofs.Failing.{mapped_err, mapped_ok}
use Rattle.roundcheck.proofs.Openings.{finished_more, not_refused, was_refused, opened_round, refused_round}
use Rattle.roundcheck.specs.Checks.{next_draws, ChecksFirst, ChecksRound}
use Rattle.roundcheck.specs.Finishing.{Behind}
use Rattle.roundcheck.specs.Runs.{Ending}
use Rattle.roundcheck.specs.declared.report.Line.{Line}
use Rattle.roundcheck.proofs.round.OpenedFile.finish_on.Goals as goal

pub returns-in_err-board : goal.returns-in_err-board
returns-in_err-board g c =
    let G = g.G.Group.operations in
    let n = g.P.Plan.width c.args.plan.now in
    let o = c.args.self.opening in
    let y = g.G.Group.point c.in_ok-key.key in
    let wires : length c.as_mut_slice.result.now ≡ n = ap length (c.as_mut_slice.ensures.value ∙ c.in_ok-wires.ensures) ∙ length-replicate c.wires.result _ ∙ c.wires.ensures in
    let start : length c.as_mut_slice-2.result.now ≡ n = ap length (c.as_mut_slice-2.ensures.value ∙ c.in_ok-start.ensures) ∙ length-replicate c.wires-2.result _ ∙ c.wires-2.ensures in
    let e = err_from_is_err_and c.from_residual-in_err-board.result c.from_residual-in_err-board.ensures.1 in
    let m = mapped_err c.open.result c.map_err.result _ _ c.map_err.ensures.cases c.in_err-board.was in
    let told : c.in_err-board.field-0.0 ≡ refused_at m.0.reason c.args.self.offset = search rules in
    let judged : judge_open G n o.servers y n n ≡ Some m.0.reason =
    ap₂ (λ (a b : ℕ). judge_open G n o.servers y a b) (sym wires) (sym start) ∙ was_refused _ _ _ _ (rw m.1 at c.open.ensures) in
    rw (e.1, e.2)
    (inl (
      [],
      sym (append-nil (vec_items c.args.lines.now)),
      refused_round G g.G.Exponent.Exponent.exponents g.G.Exponent.Exponent.number n (g.P.Plan.listing c.args.plan.now) c.args.self.offset o (place c.args.self.reader) y m.0.reason _ c.in_ok-key.ensures judged told,
    ))

pub returns : goal.returns
returns g c =
    let G = g.G.Group.operations in
    let E = g.G.Exponent.Exponent.exponents in
    let point = g.G.Group.point in
    let number = g.G.Exponent.Exponent.number in
    let n = g.P.Plan.width c.args.plan.now in
    let cs = g.P.Plan.listing c.args.plan.now in
    let o = c.args.self.opening in
    let q = place c.args.self.reader in
    let y = point c.in_ok-key.key in
    let board = c.in_ok-board.board in
    let wires : length c.as_mut_slice.result.now ≡ n = ap length (c.as_mut_slice.ensures.value ∙ c.in_ok-wires.ensures) ∙ length-replicate c.wires.result _ ∙ c.wires.ensures in
    let start : length c.as_mut_slice-2.result.now ≡ n = ap length (c.as_mut_slice-2.ensures.value ∙ c.in_ok-start.ensures) ∙ length-replicate c.wires-2.result _ ∙ c.wires-2.ensures in
    let told = not_refused _ _ _ _ (rw (mapped_ok c.open.result c.map_err.result _ _ c.map_err.ensures.cases c.in_ok-board.was) at c.open.ensures) in
    let judged : judge_open G n o.servers y n n ≡ None =
    ap₂ (λ (a b : ℕ). judge_open G n o.servers y a b) (sym wires) (sym start) ∙ told.0 in
    let s = state_map (meaning point) (view board) in
    let Drawn : g.row.G-Element.Denot → List Line → Ending → Type 0 =
    λ k lines ending. Behind (vec_items c.push.new.self) (ChecksFirst number (λ S. terms G E S (point k) cs) s (next_draws (step q))) lines ending in
    let lines = vec_items c.finish_drawn.new.lines in
    let Planned : ℕ → List Comparator → Type 0 = λ m ks. (m ≡ n) × (ks ≡ cs) in
    finished_more (Drawn board.key) (Behind (vec_items c.args.lines.now) (ChecksRound G E number n cs c.args.self.offset o q)) Planned Planned (g.F.Finish.answers c.args.end) (g.F.Finish.refuses c.args.end) lines
    (λ ending h. opened_round G E number n cs c.args.self.offset o q y s (vec_items c.args.lines.now) (vec_items c.push.new.self) lines ending c.in_ok-key.ensures judged told.1.1 c.in_ok-push.ensures.items
    (subst (λ (k : g.row.G-Element.Denot). Drawn k lines ending) told.1.0 h))
    (λ m ks h. h) c.finish_drawn.result c.finish_drawn.ensures

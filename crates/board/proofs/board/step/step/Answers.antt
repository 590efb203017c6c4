use Rattle.std.proofs.Common.{◌≡◌, ℕ, ◌+◌, ◌-◌, ◌*◌, map, length, sym, refl, ap, ◌∙◌, subst, ap₂, arith, le-leb}
use Rattle.board.proofs.Meanings.{length-map, comparison_at_meaning}
use Rattle.board.proofs.Serving.{next_is, next_map, unmet}
use Rattle.board.proofs.Stepping.{on_wires, inside, answer_ok, answer_err}
use Rattle.board.specs.Calls.{terms, judge_step, question}
use Rattle.board.specs.States.{view, state_map, stepped_state}
use Rattle.board.specs.Steps.{comparison_at}
use Rattle.equivalence.specs.Judgement.{judge}
use Rattle.plan.specs.Plans.{nth}
use Rattle.posting.specs.Comparison.{pair_meaning, comparison_meaning}
use Rattle.elgamal.specs.Ciphertexts.{meaning}
use Rattle.prover.specs.States.{message_meaning}
use Rattle.std.proofs.lemmas.Result.{err_from_is_err_and}
use Rattle.board.proofs.board.step.step.Goals as goal

pub returns-in_default : goal.returns-in_default
returns-in_default g c =
    let point = g.G.Group.point in
    let b = c.args.board.now in
    let cs = g.P.Plan.listing c.args.setup.now.plan.now in
    let T = terms g.G.Group.operations g.G.Exponent.Exponent.exponents (g.S.Source.words c.args.setup.now.source.now) (point b.key) cs in
    let m = message_meaning point g.G.Exponent.Exponent.number c.args.message in
    let judged = unmet T (state_map (meaning point) (view b)) m c.requires.stage (next_map (meaning point) cs (view b) ∙ sym c.in_default.ensures) in
    record { key = refl; happens = rw judged (c.at.ensures, refl) }

pub comparison_on-comparison-requires : goal.comparison_on-comparison-requires
comparison_on-comparison-requires g c =
    let plan = g.met.P.Plan.lawful c.args.setup.now.plan.now in
    let here = next_is (g.P.Plan.listing c.args.setup.now.plan.now) (view c.args.board.now) c.in-Some.on (sym c.in-Some.ensures) in
    let on = on_wires _ _ _ _ plan.within (sym here.listed) in
    record { first = omega (arith, on.0, here.inside); second = here.inside }

pub question_of-question-requires-clause-count : goal.question_of-question-requires-clause-count
question_of-question-requires-clause-count g c = let plan = g.met.P.Plan.lawful c.args.setup.now.plan.now in omega (arith, plan.few, c.count-count.ensures)

pub write-requires : goal.write-requires
write-requires g c =
    let plan = g.met.P.Plan.lawful c.args.setup.now.plan.now in
    let here = next_is (g.P.Plan.listing c.args.setup.now.plan.now) (view c.args.board.now) c.in-Some.on (sym c.in-Some.ensures) in
    let on = on_wires _ _ _ _ plan.within (sym here.listed) in
    record {
      first = omega (arith, on.0, here.inside);
      second = here.inside;
      next = omega (arith, on.2, c.count-count.ensures);
      few = omega (arith, plan.few, c.count-count.ensures);
      stage = c.requires.stage;
    }

pub returns-in_err-check : goal.returns-in_err-check
returns-in_err-check g c =
    let G = g.G.Group.operations in
    let E = g.G.Exponent.Exponent.exponents in
    let S = g.S.Source.words c.args.setup.now.source.now in
    let point = g.G.Group.point in
    let cs = g.P.Plan.listing c.args.setup.now.plan.now in
    let b = c.args.board.now in
    let T = terms G E S (point b.key) cs in
    let s = state_map (meaning point) (view b) in
    let m = message_meaning point g.G.Exponent.Exponent.number c.args.message in
    let on = c.in-Some.on in
    let long = length-map (meaning point) b.wires.now in
    let here = next_is cs (view b) on (sym c.in-Some.ensures) in
    let same-comparison : comparison_meaning point c.comparison_on-comparison.result ≡ comparison_at (point b.key) (map (meaning point) b.wires.now) on (pair_meaning point c.args.message.outputs) =
    ap (comparison_meaning point) c.comparison_on-comparison.ensures ∙ comparison_at_meaning point b.key b.wires.now on c.args.message.outputs in
    let same-question : c.question_of-question.result ≡ question T s =
    c.question_of-question.ensures ∙ ap (λ (n : ℕ). 4 * (n * (b.server - 1) + b.next)) c.count-count.ensures in
    let judged : judge_step T s m (nth cs b.next) ≡ judge G E S (comparison_meaning point c.comparison_on-comparison.result) m.proofs c.question_of-question.result =
    ap (judge_step T s m) here.listed ∙ inside T s m on (omega (arith, here.inside)) ∙ sym (ap₂ (λ k (q : ℕ). judge G E S k m.proofs q) same-comparison same-question) in
    let fits = le-leb (11 * G.width) (length c.args.buffer.now) c.requires.buffer in
    let e = err_from_is_err_and c.from_residual.result c.from_residual.ensures.1 in
    let told = answer_err _ _ _ _ (simp fits at c.in_err-check.ensures.verdict) in
    record { key = refl; happens = rw (judged, told.1, e.1, e.2) (told.2, refl) }

pub returns : goal.returns
returns g c =
    let G = g.G.Group.operations in
    let E = g.G.Exponent.Exponent.exponents in
    let S = g.S.Source.words c.args.setup.now.source.now in
    let point = g.G.Group.point in
    let cs = g.P.Plan.listing c.args.setup.now.plan.now in
    let b = c.args.board.now in
    let T = terms G E S (point b.key) cs in
    let s = state_map (meaning point) (view b) in
    let m = message_meaning point g.G.Exponent.Exponent.number c.args.message in
    let on = c.in-Some.on in
    let long = length-map (meaning point) b.wires.now in
    let here = next_is cs (view b) on (sym c.in-Some.ensures) in
    let same-comparison : comparison_meaning point c.comparison_on-comparison.result ≡ comparison_at (point b.key) (map (meaning point) b.wires.now) on (pair_meaning point c.args.message.outputs) =
    ap (comparison_meaning point) c.comparison_on-comparison.ensures ∙ comparison_at_meaning point b.key b.wires.now on c.args.message.outputs in
    let same-question : c.question_of-question.result ≡ question T s =
    c.question_of-question.ensures ∙ ap (λ (n : ℕ). 4 * (n * (b.server - 1) + b.next)) c.count-count.ensures in
    let judged : judge_step T s m (nth cs b.next) ≡ judge G E S (comparison_meaning point c.comparison_on-comparison.result) m.proofs c.question_of-question.result =
    ap (judge_step T s m) here.listed ∙ inside T s m on (omega (arith, here.inside)) ∙ sym (ap₂ (λ k (q : ℕ). judge G E S k m.proofs q) same-comparison same-question) in
    let fits = le-leb (11 * G.width) (length c.args.buffer.now) c.requires.buffer in
    let none = answer_ok _ _ _ (simp fits at c.in_ok-check.ensures.verdict) in
    let Count : ℕ → Type 0 = λ n. view c.write.new.self ≡ stepped_state n (view b) on.first on.second c.args.message.outputs.first c.args.message.outputs.second in
    record {
      key = c.write.ensures.key;
      happens = rw (judged, none) (
        on,
        here.listed,
        c.write.ensures.answer,
        subst Count c.count-count.ensures c.write.ensures.state,
      );
    }

use Rattle.std.proofs.Common.{◌≡◌, ◌+◌, ◌*◌, ◌≤◌, ltb, length, Some, None, Option, sym, refl, ap, ◌∙◌, subst, arith, rules, leb-true}
use Rattle.elgamal.specs.Ciphertexts.{meaning}
use Rattle.equivalence.specs.Judgement.{unless}
use Rattle.posting.specs.declared.comparison.Pair.{Pair}
use Rattle.prover.specs.declared.states.Message.{Message}
use Rattle.prover.specs.States.{Outcome, message_meaning, Taken}
use Rattle.refusal.specs.declared.Reason.{Reason}
use Rattle.refusal.specs.declared.Reason.TheVariants.{BeyondReach}
use Rattle.board.proofs.Serving.{next_is, next_map, outcome_more, made_at, made_more, judged_next, judged_prove, honest_judged}
use Rattle.board.proofs.Stepping.{on_wires}
use Rattle.board.specs.Calls.{terms, question, judge_call}
use Rattle.board.specs.Serving.{HonestStep, honest_step, inputs_on, judge_honest, next_comparator}
use Rattle.board.specs.Stages.{turning}
use Rattle.board.specs.States.{view, state_map}
use Rattle.board.specs.declared.events.Event.TheVariants.{Step}
use Rattle.board.proofs.board.serve.honest_step.Goals as goal

pub prove_on-requires : goal.prove_on-requires
prove_on-requires g c =
    let next = next_is (g.P.Plan.listing c.args.setup.now.plan.now) (view c.args.board.now) c.in-Some.on (sym c.in-Some.ensures) in
    let on = on_wires _ _ _ _ (g.met.P.Plan.lawful c.args.setup.now.plan.now).within (sym next.listed) in
    record { first = omega (arith, on.0, next.inside); second = next.inside; turn = omega (arith, c.args.board.now.done, ap turning next.turning) }

pub returns : goal.returns
returns g c =
    let G = g.G.Group.operations in
    let E = g.G.Exponent.Exponent.exponents in
    let S = g.S.Source.words c.args.setup.now.source.now in
    let point = g.G.Group.point in
    let number = g.G.Exponent.Exponent.number in
    let cs = g.P.Plan.listing c.args.setup.now.plan.now in
    let b = c.args.board.now in
    let T = terms G E S (point b.key) cs in
    let s = state_map (meaning point) (view b) in
    let on = c.in-Some.on in
    let words = c.args.words.now in
    let bytes = length c.args.buffer.now in
    let q = question T s in
    let room : 11 * G.width ≤ bytes = leb-true _ _ (sym c.buffer_fits.ensures ∙ c.if-not-buffer_fits.false) in
    let found : next_comparator cs s ≡ Some on = next_map (meaning point) cs (view b) ∙ sym c.in-Some.ensures in
    let judged : judge_honest T s (length words) bytes ≡ unless (ltb (q + 3) S.reach) BeyondReach None =
    judged_next T s (length words) bytes (Some on) c.if-words-ne6.false room found in
    let proved = judged_prove T s (length words) bytes q c.if-words-ne6.false room in
    let Made : Message g.row.G-Element.Denot _ → Type 0 = λ m. message_meaning point number m ≡ honest_step T s on c.args.setting words in
    let Wanted : Message g.row.G-Element.Denot _ → Type 0 = λ m. HonestStep T s c.args.setting words (message_meaning point number m) in
    let outcome = outcome_more (unless (ltb (q + 3) S.reach) BeyondReach None) b.next Made Wanted c.prove_on.result
    (λ m e. (on, found, e))
    (subst (λ (j : Option Reason). Outcome j b.next Made c.prove_on.result) proved c.prove_on.ensures.outcome) in
    let Known : Pair g.G.Group.Point → Message g.row.G-Element.Denot _ → Type 0 =
    λ d m. Taken G E S (point b.key) (inputs_on d s.wires on) (message_meaning point number m) q in
    record {
      outcome = subst (λ (j : Option Reason). Outcome j b.next Wanted c.prove_on.result) (sym judged) outcome;
      taken = made_more c.prove_on.result (λ m. Known (message_meaning point number m).outputs m) (λ m. judge_call T s (Step (message_meaning point number m)) bytes ≡ None)
          (λ m e. honest_judged T s on bytes q (inputs_on (message_meaning point number m).outputs s.wires on) (message_meaning point number m) (next_is cs s on found) room refl refl e)
          (made_at c.prove_on.result Known (λ m. (message_meaning point number m).outputs) c.prove_on.ensures.taken);
      kept = refl;
      words_cleared = search rules;
      buffer_cleared = search rules;
    }

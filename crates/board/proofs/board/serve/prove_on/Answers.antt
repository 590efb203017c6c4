use Rattle.std.proofs.Common.{◌≡◌, ℕ, ◌-◌, ◌+◌, ◌*◌, eqb, length, IfOk, ap, ◌∙◌, subst}
use Rattle.elgamal.specs.Ciphertexts.{meaning}
use Rattle.equivalence.specs.Judgement.{unless}
use Rattle.posting.specs.Comparison.{pair_meaning}
use Rattle.posting.specs.declared.comparison.Pair.{Pair}
use Rattle.prover.specs.Secrets.{secrets_of}
use Rattle.prover.specs.States.{Outcome, Taken, message_meaning, honest_message, unready}
use Rattle.refusal.specs.declared.Reason.TheVariants.{UnfitLength}
use Rattle.board.proofs.Serving.{inputs_meaning}
use Rattle.board.specs.Calls.{terms, question}
use Rattle.board.specs.Rounds.{blank}
use Rattle.board.specs.States.{view, state_map}
use Rattle.board.proofs.board.serve.prove_on.Goals as goal

pub returns : goal.returns
returns g c =
    let G = g.G.Group.operations in
    let E = g.G.Exponent.Exponent.exponents in
    let S = g.S.Source.words c.args.setup.now.source.now in
    let point = g.G.Group.point in
    let number = g.G.Exponent.Exponent.number in
    let b = c.args.board.now in
    let T = terms G E S (point b.key) (g.P.Plan.listing c.args.setup.now.plan.now) in
    let s = state_map (meaning point) (view b) in
    let words = c.args.words.now in
    let bytes = length c.args.buffer.now in
    let inputs = pair_meaning point c.inputs_on-inputs.result in
    let same : c.question_of-question.result ≡ question T s =
    c.question_of-question.ensures ∙ ap (λ (n : ℕ). 4 * (n * (b.server - 1) + b.next)) c.count.ensures in
    let read : (d : Pair g.G.Group.Point) → inputs ≡ _ = inputs_meaning point b.wires.now c.args.on c.inputs_on-inputs.result c.inputs_on-inputs.ensures c.requires.first c.requires.second in
    let blanks : Pair g.G.Group.Point = record { first = blank G; second = blank G } in
    let Made : Pair g.G.Group.Point → ℕ → Type 0 =
    λ i k. Outcome (unless (eqb (length words) 6) UnfitLength (unready G S k bytes)) b.next (λ m. message_meaning point number m ≡ honest_message G E S (point b.key) i c.args.setting (secrets_of E words) k) c.prove.result in
    let Known : Pair g.G.Group.Point → ℕ → Type 0 =
    λ i k. IfOk c.prove.result (λ m. Taken G E S (point b.key) i (message_meaning point number m) k) in
    record {
      outcome = subst (λ i. Made i (question T s)) (read blanks) (subst (Made inputs) same c.prove.ensures.outcome);
      taken = λ d. subst (λ i. Known i (question T s)) (read d) (subst (Known inputs) same c.prove.ensures.taken);
      words_cleared = c.prove.ensures.words_cleared;
      buffer_cleared = c.prove.ensures.buffer_cleared;
    }

use Rattle.std.proofs.Common.{◌≡◌, ℕ, ◌<◌, length, ap, ◌∙◌, subst, mod-lt, arith, pow_pos, rules, eq-eqb}
use Rattle.equivalence.specs.Judgement.{judge}
use Rattle.posting.specs.Comparison.{pair_meaning}
use Rattle.prover.proofs.Completeness.{Fit, honest_taken}
use Rattle.prover.proofs.Outcomes.{no_refusal, value_made, ready_reaches}
use Rattle.prover.specs.Secrets.{secrets_of}
use Rattle.prover.specs.States.{message_meaning, committed_meaning, honest_message, answer_message, committed, outputs_made, unready, Outcome}
use Rattle.prover.specs.declared.states.Committed.{Committed}
use Rattle.prover.specs.declared.states.Message.{Message}
use Rattle.prover.proofs.honest.prove.Goals as goal

pub returns : goal.returns
returns g c =
    let G = g.G.Group.operations in
    let P = g.G.Group.Point in
    let point = g.G.Group.point in
    let E = g.G.Exponent.Exponent.exponents in
    let number = g.G.Exponent.Exponent.number in
    let value = g.G.Exponent.Exponent.value in
    let S = g.S.Source.words c.args.challenger.now.source.now in
    let y = point c.args.key in
    let inputs = pair_meaning point c.args.inputs in
    let secrets = secrets_of E c.args.words.now in
    let question = c.args.question in
    let bytes = length c.args.buffer.now in
    let read = c.in_ok-secrets.ensures.read in
    let ready = no_refusal (unready G S question bytes) _ _ c.in_ok-committed.committed c.in_ok-committed.ensures.outcome in
    let same : committed_meaning point value c.in_ok-committed.committed ≡ committed G E S (outputs_made G y inputs c.args.setting secrets) question =
    ready.1 ∙ ap (λ m. committed G E S m question) (c.make_outputs-made.ensures ∙ ap (outputs_made G y inputs c.args.setting) read.1) in
    let answered : Committed P ℕ → ℕ → Type 0 = λ k n. Outcome (unready G S k.question n) c.args.challenger.now.place (λ m. message_meaning point number m ≡ answer_message G E S k) c.answer.result in
    let outcome : Outcome (unready G S question bytes) c.args.challenger.now.place (λ m. message_meaning point number m ≡ honest_message G E S y inputs c.args.setting secrets question) c.answer.result =
    subst (λ k. answered k bytes) same (subst (answered (committed_meaning point value c.in_ok-committed.committed)) c.commit.auto.buffer c.answer.ensures.outcome) in
    let exponents = g.G.Exponent.Exponent.laws in
    let order = c.in_ok-committed.ensures.same_order in
    let positive : 0 < E.order = let h = g.G.Group.laws.some_order in omega (arith, order) in
    let fit : Fit E secrets = record { answer_below = mod-lt _ positive; challenge_below = mod-lt _ (pow_pos E.challenge_bits) } in
    let taken = honest_taken g.G.Group.laws E exponents order S y inputs c.args.setting secrets question fit (ready_reaches G S question bytes ready.0) in
    let six = eq-eqb (length c.args.words.now) 6 read.0 in
    record {
      outcome = rw six outcome;
      taken = value_made (unready G S question bytes) c.args.challenger.now.place (λ m. message_meaning point number m ≡ honest_message G E S y inputs c.args.setting secrets question) _ c.answer.result outcome
          (λ m e. ap (λ (n : Message P ℕ). judge G E S (record { key = y; inputs = inputs; outputs = n.outputs }) n.proofs question) e ∙ taken);
      words_cleared = search rules;
      buffer_cleared = search rules;
    }

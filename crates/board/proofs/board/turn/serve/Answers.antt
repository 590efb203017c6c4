use Rattle.std.proofs.Common.{◌≡◌, ℕ, true, eqb, [], length, sym, refl, ap, ◌∙◌, ap₂, inl, inr, rules}
use Rattle.elgamal.specs.Ciphertexts.{meaning}
use Rattle.equivalence.specs.Judgement.{both}
use Rattle.refusal.specs.Table.{refused_at}
use Rattle.refusal.specs.declared.Reason.TheVariants.{NoPermutation}
use Rattle.refusal.specs.declared.Refusal.{Refusal}
use Rattle.board.proofs.Meanings.{length-map}
use Rattle.board.proofs.Turning.{entries_fit, places_fit}
use Rattle.board.specs.Calls.{terms, is_turning}
use Rattle.board.specs.Serving.{lengths_fit, at_start}
use Rattle.board.specs.States.{view, state_map}
use Rattle.board.proofs.board.turn.serve.Goals as goal

pub returns-in-Err : goal.returns-in-Err
returns-in-Err g c =
    let point = g.G.Group.point in
    let n = g.P.Plan.width c.args.setup.now.plan.now in
    let cs = g.P.Plan.listing c.args.setup.now.plan.now in
    let b = c.args.board.now in
    let T = terms g.G.Group.operations g.G.Exponent.Exponent.exponents (g.S.Source.words c.args.setup.now.source.now) (point b.key) cs in
    let s = state_map (meaning point) (view b) in
    let fit : lengths_fit T n (length c.args.permutation.now) (length c.args.settings.now) (length c.args.words.now) (length c.args.buffer.now) ≡ true = sym c.lengths_fit.ensures ∙ c.if-not-lengths_fit.false in
    let start : at_start T n s ≡ c.is_at_start.result =
    ap₂ (λ (k m : ℕ). both (is_turning b.stage) (both (eqb b.next 0) (eqb k m))) (length-map (meaning point) b.wires.now) (sym c.wires.ensures) ∙ sym c.is_at_start.ensures in
    let no = c.in-Err.ensures.1.entries (entries_fit T n _ _ _ _ fit) (places_fit T n _ _ _ _ fit) in
    let told : c.at-in-Err.result ≡ refused_at NoPermutation b.next = c.at-in-Err.ensures ∙ ap (λ (x : Refusal). refused_at x.reason b.next) no.1 in
    record {
      serves = ([], ((NoPermutation, inr (inr (inl (fit, start ∙ c.if-not-is_at_start.false, no.0, refl))), told), refl, refl));
      key = refl;
      places_cleared = search rules;
      words_cleared = search rules;
      buffer_cleared = search rules;
    }

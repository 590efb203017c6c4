use Rattle.std.proofs.Common.{◌≡◌, ℕ, List, [], Err, vec_items, Option, sym, refl, ap, ◌∙◌, subst, inl, inr, rules}
use Rattle.std.proofs.lemmas.List.{append-nil}
use Rattle.std.proofs.lemmas.Result.{err_from_is_err_and}
use Rattle.kinds.specs.Kinds.{plan_kind, LaidOut}
use Rattle.kinds.specs.Known.{width_of, listing_of}
use Rattle.kinds.specs.declared.PlanKind.{PlanKind}
use Rattle.plan.specs.declared.Comparator.{Comparator}
use Rattle.refusal.specs.Table.{refused_at}
use Rattle.refusal.specs.declared.Refusal.{Refusal}
use Rattle.roundfile.specs.Reading.{place}
use Rattle.roundcheck.proofs.Failing.{mapped_err, mapped_ok}
use Rattle.roundcheck.proofs.Openings.{finished_more}
use Rattle.roundcheck.specs.Checks.{ChecksRound, ChecksPlan}
use Rattle.roundcheck.specs.Finishing.{OpeningPlan, Behind}
use Rattle.roundcheck.proofs.round.OpenedFile.finish_in.Goals as goal

pub returns-in_err-plan : goal.returns-in_err-plan
returns-in_err-plan g c =
    let o = c.args.self.opening in
    let offset = c.args.self.offset in
    let e = err_from_is_err_and c.from_residual-in_err-plan.result c.from_residual-in_err-plan.ensures.1 in
    let named = rw (mapped_ok c.try_from.result c.map_err.result _ _ c.map_err.ensures.cases c.in_ok-kind.was) at c.try_from.ensures in
    let m = mapped_err c.new.result c.map_err-2.result _ _ c.map_err-2.ensures.cases c.in_err-plan.was in
    let told : c.in_err-plan.field-0.0 ≡ refused_at m.0.reason offset = search rules in
    let unlaid = rw m.1 at c.new.ensures in
    rw (e.1, e.2)
    (inl (
      [],
      sym (append-nil (vec_items c.args.lines.now)),
      subst (λ (k : Option PlanKind). ChecksPlan g.G.Group.operations g.G.Exponent.Exponent.exponents g.G.Exponent.Exponent.number k offset o (place c.args.self.reader) [] (Err c.in_err-plan.field-0.0)) (sym named)
          (inr (unlaid.0, (refl, ap Err (told ∙ ap (λ (x : Refusal). refused_at x.reason offset) unlaid.1)))),
    ))

pub returns : goal.returns
returns g c =
    let o = c.args.self.opening in
    let offset = c.args.self.offset in
    let q = place c.args.self.reader in
    let G = g.G.Group.operations in
    let E = g.G.Exponent.Exponent.exponents in
    let number = g.G.Exponent.Exponent.number in
    let plan = c.in_ok-plan.plan in
    let named = rw (mapped_ok c.try_from.result c.map_err.result _ _ c.map_err.ensures.cases c.in_ok-kind.was) at c.try_from.ensures in
    let laid = rw (mapped_ok c.new.result c.map_err-2.result _ _ c.map_err-2.ensures.cases c.in_ok-plan.was) at c.new.ensures in
    let before = vec_items c.args.lines.now in
    finished_more (Behind before (ChecksRound G E number (width_of plan) (listing_of plan) offset o q)) (Behind before (ChecksPlan G E number (plan_kind o.plan) offset o q)) (λ n cs. (n ≡ width_of plan) × (cs ≡ listing_of plan)) (OpeningPlan o)
    (g.F.Finish.answers c.args.end) (g.F.Finish.refuses c.args.end) (vec_items c.finish_on.new.lines)
    (λ ending h. (
      h.0,
      h.1,
      subst (λ (k : Option PlanKind). ChecksPlan G E number k offset o q h.0 ending) (sym named)
          (inl (listing_of plan, laid.laid, subst (λ (n : ℕ). ChecksRound G E number n (listing_of plan) offset o q h.0 ending) laid.width h.2)),
    ))
    (λ n cs h. (
      c.in_ok-kind.kind,
      named,
      h.0 ∙ laid.width,
      subst (λ (ks : List Comparator). LaidOut c.in_ok-kind.kind n ks) (sym h.1) (subst (λ (m : ℕ). LaidOut c.in_ok-kind.kind m (listing_of plan)) (sym (h.0 ∙ laid.width)) laid.laid),
    ))
    c.finish_on.result c.finish_on.ensures

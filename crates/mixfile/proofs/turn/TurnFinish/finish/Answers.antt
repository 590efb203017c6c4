use Rattle.std.proofs.Common.{◌≡◌, ℕ, ◌+◌, ◌*◌, ◌<◌, List, ◌++◌, length, vec_items, refl, ap, ◌∙◌, inr, arith, rules}
use Rattle.std.specs.List.{flat_map}
use Rattle.refusal.specs.declared.Reason.TheVariants.{NoRoundFile}
use Rattle.roundcheck.proofs.Failing.{mapped_ok}
use Rattle.roundfile.specs.Writing.{comparator_bytes}
use Rattle.mixfile.proofs.Lengths.{file_length}
use Rattle.mixfile.proofs.turn.TurnFinish.finish.Goals as goal

pub returns-then-len-gt-LONGEST : goal.returns-then-len-gt-LONGEST
returns-then-len-gt-LONGEST g c =
    let file = c.args.self.file.now in
    let cs = g.P.Plan.listing c.args.setup.now.plan.now in
    let bytes = vec_items c.add_records.new.bytes in
    let added = c.in_ok-add_records.ensures in
    let judged = rw (mapped_ok c.judge_turn.result c.map_err.result _ _ c.map_err.ensures.cases c.in_ok-map_err.was) at c.judge_turn.ensures in
    let long : 65536 < length bytes = search rules in
    let count : length added.0 ≡ length cs = search rules in
    let copied : vec_items c.in_ok-bytes.bytes ≡ file = search rules in
    let is : bytes ≡ file ++ flat_map comparator_bytes added.0 =
    added.2 ∙ ap (λ (xs : List ℕ). xs ++ flat_map comparator_bytes added.0) copied in
    let total : length bytes ≡ length file + 51 * length added.0 = ap length is ∙ file_length file added.0 in
    (NoRoundFile, inr (inr (judged.0, omega (arith, long, total, count), refl)), c.at.ensures)

use Rattle.std.proofs.Common.{ℕ, ◌+◌, List, [], ◌∷◌, ◌++◌, vec_items, sym, ap, ◌∙◌, ap₂, length-append}
use Rattle.std.proofs.lemmas.List.{flat_map_more}
use Rattle.roundcheck.proofs.Failing.{mapped_ok}
use Rattle.roundfile.specs.Writing.{comparator_bytes}
use Rattle.mixfile.proofs.turn.add_records.Goals as goal

pub loop-setting-preserved : goal.loop-setting-preserved
loop-setting-preserved g c =
    let inv = c.loop-setting.invariant in
    let made = rw (mapped_ok c.step_record.result c.map_err.result _ _ c.map_err.ensures.cases c.in_ok-record.was) at c.step_record.ensures.posts in (
      inv.0 ++ made.0 ∷ [],
      length-append inv.0 (made.0 ∷ []) ∙ ap (λ (n : ℕ). n + 1) inv.1 ∙ sym (length-append c.loop-setting.yielded _),
      c.in_ok-extend_from_slice.ensures.items
          ∙ ap₂ (λ (xs ys : List ℕ). xs ++ ys) inv.2 made.1
          ∙ flat_map_more comparator_bytes (vec_items c.args.bytes.now) inv.0 made.0,
    )

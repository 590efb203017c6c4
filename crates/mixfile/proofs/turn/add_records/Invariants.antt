use Rattle.std.proofs.Common.{◌≡◌, List, ◌++◌, length, vec_items}
use Rattle.std.specs.List.{flat_map}
use Rattle.roundfile.specs.Writing.{comparator_bytes}
use Rattle.roundfile.specs.declared.parts.Comparator.{Comparator}
use Rattle.mixfile.proofs.turn.add_records.Given as goal

abbrev pub invariant-loop-setting : goal.invariant-loop-setting
invariant-loop-setting g l =
    (done : List Comparator) × (length done ≡ length l.yielded) × (vec_items l.bytes ≡ vec_items l.initial.bytes ++ flat_map comparator_bytes done)

use Rattle.std.proofs.Common.{◌≡◌, ◌-◌, ◌/◌, length, replicate}
use Rattle.butterfly.specs.declared.Half.TheVariants.{Even}
use Rattle.butterfly.specs.Colours.{assigned}
use Rattle.butterfly.proofs.assign.Given as goal

abbrev pub invariant-loop-j : goal.invariant-loop-j
invariant-loop-j l =
    (length l.halves ≡ 64)
    × (assigned l.table l.j (length l.table / 2 - l.j) l.halves ≡ assigned l.table 0 (length l.table / 2) (replicate 64 Even))

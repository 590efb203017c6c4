use Rattle.std.proofs.Common.{◌≡◌, ℕ, ◌+◌, ◌<◌, get_or}
use Rattle.plan.specs.declared.Setting.TheVariants.{Straight}
use Rattle.chain.specs.Stages.{row_setting}
use Rattle.chain.proofs.set_row.Given as goal

abbrev pub invariant-loop-i : goal.invariant-loop-i
invariant-loop-i l = (k : ℕ) → k < l.i → get_or l.row k Straight ≡ row_setting l.from (l.first + 1 + k)

use Rattle.std.proofs.Common.{◌≡◌, ℕ, ◌+◌, ◌*◌, ◌<◌, get_or}
use Rattle.plan.specs.declared.Setting.TheVariants.{Straight}
use Rattle.butterfly.specs.Halves.{sides, setting_for}
use Rattle.butterfly.proofs.set_layer.Given as goal

abbrev pub invariant-loop-i : goal.invariant-loop-i
invariant-loop-i l = (k : ℕ) → k < l.i → get_or l.settings k Straight ≡ setting_for (sides l.halves (2 * (l.first + k)))

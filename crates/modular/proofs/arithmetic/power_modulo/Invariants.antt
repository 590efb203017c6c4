use Rattle.std.proofs.Common.{◌≡◌, ◌*◌, ◌%◌, ◌^◌, ◌<◌}
use Rattle.modular.proofs.arithmetic.power_modulo.Given as goal

-- what is done, times the power that is left, is the whole power
abbrev pub invariant-loop-left : goal.invariant-loop-left
invariant-loop-left l = (l.done < l.m) × (l.square < l.m) × ((l.done * l.square ^ l.left) % l.m ≡ (l.initial.square ^ l.initial.left) % l.m)

abbrev pub decreases-loop-left : goal.decreases-loop-left
decreases-loop-left l = l.left

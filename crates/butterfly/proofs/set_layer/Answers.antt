use Rattle.std.proofs.Common.{◌*◌, arith}
use Rattle.plan.specs.declared.Setting.TheVariants.{Straight}
use Rattle.plan.proofs.Places.{filled}
use Rattle.butterfly.specs.Halves.{sides, setting_for}
use Rattle.butterfly.proofs.set_layer.Goals as goal

pub returns : goal.returns
returns c =
    filled (λ i. setting_for (sides c.args.halves.now (2 * i))) c.args.first _ c.loop-i.settings Straight c.loop-i.auto.settings (λ k h. c.loop-i.invariant k (omega arith))

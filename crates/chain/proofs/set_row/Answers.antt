use Rattle.std.proofs.Common.{◌+◌, arith}
use Rattle.plan.specs.declared.Setting.TheVariants.{Straight}
use Rattle.plan.proofs.Places.{filled}
use Rattle.chain.specs.Stages.{row_setting}
use Rattle.chain.proofs.set_row.Goals as goal

pub returns : goal.returns
returns c = filled (row_setting c.args.from) (c.args.first + 1) _ c.loop-i.row Straight c.loop-i.auto.row (λ k h. c.loop-i.invariant k (omega arith))

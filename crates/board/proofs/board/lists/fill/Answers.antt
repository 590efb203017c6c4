use Rattle.std.proofs.Common.{length, arith}
use Rattle.board.proofs.Filling.{filled_more, filled_all}
use Rattle.board.proofs.board.lists.fill.Goals as goal

pub loop-place-preserved : goal.loop-place-preserved
loop-place-preserved g c = filled_more c.loop-place.list c.loop-place.place-index c.args.item (omega arith) c.loop-place.invariant

pub returns : goal.returns
returns g c = filled_all c.loop-place.list c.loop-place.place-index (length c.args.list.now) c.args.item (omega arith) (omega arith) (omega arith) c.loop-place.invariant

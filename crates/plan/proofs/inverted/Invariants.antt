use Rattle.std.proofs.Common.{length}
use Rattle.plan.proofs.Marks.{Marked}
use Rattle.plan.proofs.inverted.Given as goal

abbrev pub invariant-loop-x : goal.invariant-loop-x
invariant-loop-x l = Marked l.x (length l.permutation) l.permutation l.inverse

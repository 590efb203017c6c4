use Rattle.std.proofs.Common.{length}
use Rattle.listround.proofs.list.Given as goal

abbrev pub decreases-loop-entry : goal.decreases-loop-entry
decreases-loop-entry l = length l.reader.rest.now

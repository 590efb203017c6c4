use Rattle.std.proofs.Common.{rules}
use Rattle.roundfile.specs.Fields.{field}
use Rattle.roundfile.proofs.parts.Fields.number_or.Goals as goal

pub returns : goal.returns
unfolding field
returns c = search rules

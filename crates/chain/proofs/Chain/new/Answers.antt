use Rattle.std.proofs.Common.{refl}
use Rattle.chain.specs.Rows.{chain_long}
use Rattle.chain.proofs.Chain.new.Goals as goal

pub returns : goal.returns
returns c = (refl, chain_long c.args.wires)

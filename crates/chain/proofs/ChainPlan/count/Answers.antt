use Rattle.std.proofs.Common.{◌-◌, ◌*◌, ◌/◌, sym, ap, ◌∙◌}
use Rattle.chain.specs.Rows.{chain_long}
use Rattle.chain.proofs.ChainPlan.count.Goals as goal

pub returns : goal.returns
returns c = ap (λ n. (n * (n - 1)) / 2) c.wires-wires.ensures ∙ sym (chain_long c.args.self.now.width)

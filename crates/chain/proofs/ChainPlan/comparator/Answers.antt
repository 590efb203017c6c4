use Rattle.std.proofs.Common.{Some, sym, ap, ◌∙◌, arith}
use Rattle.chain.proofs.Routing.{found, further, exhausted}
use Rattle.chain.proofs.ChainPlan.comparator.Goals as goal

pub returns-then-left-row : goal.returns-then-left-row
returns-then-left-row c =
    ap Some c.between.ensures ∙ found c.loop-first.first c.args.self.now.width c.loop-first.left (omega arith) (omega arith) ∙ c.loop-first.invariant

pub loop-first-preserved : goal.loop-first-preserved
loop-first-preserved c = further c.loop-first.first c.args.self.now.width c.loop-first.left (omega arith) (omega arith) ∙ c.loop-first.invariant

pub returns : goal.returns
returns c = sym (exhausted c.loop-first.first c.args.self.now.width c.loop-first.left (omega arith)) ∙ c.loop-first.invariant

use Rattle.std.proofs.Common.{sym, ap, ◌∙◌}
use Rattle.plan.specs.Plans.{nth}
use Rattle.butterfly.specs.Placing.{butterfly_is}
use Rattle.butterfly.proofs.ButterflyPlan.comparator.Goals as goal

pub returns : goal.returns
returns c = c.listed.ensures ∙ sym (ap (λ cs. nth cs c.args.k) (butterfly_is c.args.self.now.levels.count))

use Rattle.std.proofs.Common.{arith}
use Rattle.plan.specs.Plans.{at}
use Rattle.butterfly.specs.Colours.{partner}
use Rattle.butterfly.proofs.Routing.{partners_coloured}
use Rattle.butterfly.proofs.Pairs.halves_by_end.Goals as goal

pub returns : goal.returns
returns c =
    let s = c.args.self in
    partners_coloured s.count (partner (at s.entries.now) (at s.inverse.now)) c.partners-partners.result c.contract.new.table c.assign.result s.few (omega arith)
    c.partners-partners.ensures c.contract.auto.table c.contract.ensures c.assign.ensures

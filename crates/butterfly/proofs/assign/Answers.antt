use Rattle.std.proofs.Common.{◌/◌, length, sym, ◌∙◌}
use Rattle.std.proofs.lemmas.List.{length-set}
use Rattle.butterfly.specs.Colouring.{assigned_all}
use Rattle.butterfly.proofs.Routing.{assign_more}
use Rattle.butterfly.proofs.assign.Goals as goal

pub loop-j-preserved : goal.loop-j-preserved
loop-j-preserved c = (
  simp length-set c.loop-j.invariant.0,
  assign_more c.args.table.now c.loop-j.j (length c.args.table.now / 2) c.loop-j.halves _ _ _ c.loop-j-test.true c.first_half-half.ensures c.other.ensures c.loop-j.invariant.1,
)

pub returns : goal.returns
returns c = sym (assigned_all c.args.table.now c.loop-j.j (length c.args.table.now / 2) c.loop-j.halves c.loop-j-test.false) ∙ c.loop-j.invariant.1

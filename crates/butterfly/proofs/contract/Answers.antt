use Rattle.std.proofs.Common.{ℕ, ◌-◌, ◌/◌, length, refl, subst, arith}
use Rattle.plan.specs.Plans.{at}
use Rattle.butterfly.specs.Colours.{Contracted}
use Rattle.butterfly.specs.Colouring.{contracted_none, turn_then, turn_else}
use Rattle.butterfly.proofs.contract.Goals as goal

pub loop-j-init : goal.loop-j-init
loop-j-init c = (omega arith, c.requires, contracted_none (length c.args.table.now / 2) c.args.table.now)

pub loop-j-preserved-then-a-j : goal.loop-j-preserved-then-a-j
loop-j-preserved-then-a-j c =
    turn_then c.loop-j.j (c.loop-j.j - 1) (length c.args.table.now / 2) _ _ c.loop-j.table (at c.args.table.now) (omega arith) (omega arith) refl refl
    c.if-a-j.true c.loop-j.invariant

pub loop-j-preserved : goal.loop-j-preserved
loop-j-preserved c =
    turn_else c.loop-j.j (c.loop-j.j - 1) (length c.args.table.now / 2) c.loop-j.table (at c.args.table.now) (omega arith) c.if-a-j.false c.loop-j.invariant

pub returns : goal.returns
returns c = subst (λ (z : ℕ). Contracted z (length c.args.table.now / 2) c.loop-j.table (at c.args.table.now)) (omega arith) c.loop-j.invariant.2

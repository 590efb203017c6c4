use Rattle.std.proofs.Common.{◌≡◌, ℕ, length, refl, subst, arith}
use Rattle.plan.proofs.Marks.{Marked, marked_none, marked_permutation, marked_inverse}
use Rattle.plan.proofs.inverted.Goals as goal

pub loop-x-init : goal.loop-x-init
loop-x-init c = marked_none (length c.args.permutation.now) c.args.permutation.now

pub returns : goal.returns
returns c =
    let e : c.loop-x.x ≡ length c.args.permutation.now = omega arith in
    let m : Marked (length c.args.permutation.now) (length c.args.permutation.now) c.args.permutation.now c.loop-x.inverse =
    subst (λ (z : ℕ). Marked z (length c.args.permutation.now) c.args.permutation.now c.loop-x.inverse) e c.loop-x.invariant in
    (marked_permutation _ _ _ refl m, marked_inverse _ _ _ refl m)

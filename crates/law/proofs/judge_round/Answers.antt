use Rattle.std.proofs.Common.{rules}
use Rattle.law.proofs.Honest.{honest_round}
use Rattle.law.proofs.Law.{law}
use Rattle.law.proofs.judge_round.Goals as goal

pub returns : goal.returns
returns g c =
    record {
      standing = search rules;
      law = law _ _ g.G.Group.laws g.G.Exponent.Exponent.laws c.order.ensures.same_order (g.met.P.Plan.lawful c.args.setup.now.plan.now) _;
      met = honest_round;
    }

use Rattle.std.proofs.Common.{◌≡◌, true, length, rules}
use Rattle.posting.specs.Comparison.{comparison_meaning}
use Rattle.posting.specs.Drawing.{buffer_fits}
use Rattle.equivalence.proofs.Exactness.{judged_holds, holds_judged, answered_ok, ok_answered}
use Rattle.equivalence.specs.Judgement.{proofs_meaning, judge}
use Rattle.equivalence.proofs.check.check.Goals as goal

pub returns : goal.returns
returns g c =
    let laws = g.G.Group.laws in
    let E = g.G.Exponent.Exponent.exponents in
    let S = g.S.Source.words c.args.challenger.now.source.now in
    let k = comparison_meaning g.G.Group.point c.args.comparison in
    let p = proofs_meaning g.G.Group.point g.G.Exponent.Exponent.number c.args.proofs in
    let within = c.check_within.ensures in
    let judged = judge g.G.Group.operations E S k p c.args.first in
    let fits : buffer_fits g.G.Group.operations (length c.args.buffer.now) ≡ true = search rules in
    record {
      verdict = rw fits within;
      exact = (
        (λ ok. judged_holds laws E S k p c.args.first (answered_ok judged c.args.challenger.now.place c.check_within.result within ok)),
        (λ _ holds. ok_answered judged c.args.challenger.now.place c.check_within.result within (holds_judged laws E S k p c.args.first holds)),
      );
      cleared = search rules;
    }

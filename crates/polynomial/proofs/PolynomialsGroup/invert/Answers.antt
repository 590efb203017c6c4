use Rattle.std.proofs.Common.{◌∙◌}
use Rattle.polynomial.specs.Laws.{power_repeated}
use Rattle.polynomial.proofs.PolynomialsGroup.invert.Goals as goal

pub returns : goal.returns
returns c = c.raise_word.ensures ∙ power_repeated (c.args.a.value, c.args.a.nonzero) 8190

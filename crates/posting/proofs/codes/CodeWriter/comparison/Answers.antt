use Rattle.posting.proofs.Appending.{appended_both}
use Rattle.posting.proofs.codes.CodeWriter.comparison.Goals as goal

pub returns-clause-codes : goal.returns-clause-codes
returns-clause-codes g c = appended_both (appended_both c.element.ensures.codes c.pair.ensures.codes) c.pair-2.ensures.codes

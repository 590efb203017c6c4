use Rattle.posting.proofs.Appending.{appended_both}
use Rattle.posting.proofs.codes.CodeWriter.ciphertext.Goals as goal

pub returns-clause-codes : goal.returns-clause-codes
returns-clause-codes g c = appended_both c.element.ensures.codes c.element-2.ensures.codes

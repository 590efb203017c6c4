use Rattle.posting.proofs.Appending.{appended_both}
use Rattle.posting.proofs.codes.CodeWriter.pair.Goals as goal

pub returns-clause-codes : goal.returns-clause-codes
returns-clause-codes g c = appended_both c.ciphertext.ensures.codes c.ciphertext-2.ensures.codes

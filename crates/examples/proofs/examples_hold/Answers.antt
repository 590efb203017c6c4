use Rattle.butterfly.proofs.Examples.{butterfly_of_four}
use Rattle.chain.proofs.Examples.{chain_of_three}
use Rattle.drill.proofs.Examples.{gamma_is, key_is}
use Rattle.examples.proofs.Ciphertexts.{ciphertexts_hold}
use Rattle.examples.proofs.Comparators.{comparators_hold}
use Rattle.examples.proofs.examples_hold.Goals as goal

pub returns : goal.returns
returns c = record {
  ciphertexts = ciphertexts_hold;
  comparators = comparators_hold;
  drills = record { gamma_is = gamma_is; key_is = key_is };
  plans = record { chain_of_3 = chain_of_three; butterfly_of_4 = butterfly_of_four };
}

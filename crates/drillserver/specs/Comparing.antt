-- The comparator that a task makes.
use Rattle.std.specs.Prelude.{ℕ}
use Rattle.elgamal.specs.Ciphertexts.{encrypted, reencrypted}
use Rattle.elgamal.specs.declared.Ciphertext.{Ciphertext}
use Rattle.group.specs.Exponents.{Exponents, remainder}
use Rattle.group.specs.Operations.{Operations, power}
use Rattle.posting.specs.declared.comparison.Comparison.{Comparison}
use Rattle.posting.specs.declared.comparison.Pair.{Pair}
use Rattle.drillserver.specs.Knowledge.{word, secrets_of}
use Rattle.drillserver.specs.declared.task.Outputs.{Outputs}
use Rattle.drillserver.specs.declared.task.Outputs.TheVariants.{Straight, Swapped, Forged}
use Rattle.drillserver.specs.declared.task.Task.{Task}

module _ {Point : Type 0} (G : Operations Point) where
  -- a ciphertext whose parts are multiplied by powers of the generator
  abbrev pub moved_by : Ciphertext Point → (a b : ℕ) → Ciphertext Point
  moved_by c a b = record { alpha = G.times c.alpha (power G G.base a); beta = G.times c.beta (power G G.base b) }

  -- two powers of the generator, each encrypted by an exponent, all from the seed
  abbrev pub made_inputs : Exponents → (y : Point) (seed : ℕ) → Pair Point
  made_inputs E y seed = record {
    first = encrypted G y (power G G.base seed) (remainder E (word seed 1));
    second = encrypted G y (power G G.base (word seed 2)) (remainder E (word seed 3));
  }

  -- Honest outputs are the inputs re-encrypted by r1 and r2, in either order; the first of forged ones is no
  -- re-encryption, unless r1 is x·r2.
  abbrev pub made_outputs : (y : Point) → Pair Point → Outputs → (r1 r2 : ℕ) → Pair Point
  made_outputs y inputs Straight r1 r2 = record { first = reencrypted G y inputs.first r1; second = reencrypted G y inputs.second r2 }
  made_outputs y inputs Swapped r1 r2 = record { first = reencrypted G y inputs.second r1; second = reencrypted G y inputs.first r2 }
  made_outputs y inputs Forged r1 r2 = record { first = moved_by inputs.first r1 r2; second = inputs.second }

  -- a comparison under the key y
  abbrev pub comparison_under : Exponents → (y : Point) → Task → Comparison Point
  comparison_under E y t = record {
    key = y;
    inputs = made_inputs E y t.seed;
    outputs = made_outputs y (made_inputs E y t.seed) t.kind.outputs (secrets_of E t).r1 (secrets_of E t).r2;
  }

  -- the key is that of the task's private one
  abbrev pub made_comparison : Exponents → Task → Comparison Point
  made_comparison E t = comparison_under E (power G G.base (secrets_of E t).private) t

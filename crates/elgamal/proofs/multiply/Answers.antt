use Rattle.std.proofs.Common.{ap₂}
use Rattle.elgamal.proofs.Plaintexts.{plaintexts_multiply}
use Rattle.elgamal.specs.Ciphertexts.{meaning}
use Rattle.elgamal.proofs.multiply.Goals as goal

pub returns : goal.returns
returns g c =
    let point = g.G.Group.point in
    record {
      is = ap₂ (λ a b. record { alpha = a; beta = b }) c.multiply.ensures c.multiply-2.ensures;
      multiplies = plaintexts_multiply g.G.Group.laws (meaning point c.args.c) (meaning point c.args.d);
    }

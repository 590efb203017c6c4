use Rattle.std.proofs.Common.{◌≡◌, ap, ◌∙◌, ap₂}
use Rattle.elgamal.proofs.Plaintexts.{reencrypted_keeps, reencrypted_joins}
use Rattle.elgamal.specs.Ciphertexts.{meaning, reencrypted, plaintext}
use Rattle.group.specs.Operations.{power}
use Rattle.elgamal.proofs.reencrypt.Goals as goal

pub returns : goal.returns
returns g c =
    let G = g.G.Group.operations in
    let laws = g.G.Group.laws in
    let point = g.G.Group.point in
    let old = meaning point c.args.c in
    let y = point c.args.key in
    let r = g.G.Exponent.Exponent.value c.args.r in
    let alpha : point c.multiply.result ≡ G.times old.alpha (power G y r) = c.multiply.ensures ∙ ap (G.times old.alpha) c.raise.ensures.is in
    let beta : point c.multiply-2.result ≡ G.times old.beta (power G G.base r) =
    c.multiply-2.ensures ∙ ap (G.times old.beta) (c.raise-2.ensures.is ∙ ap (λ b. power G b r) c.generator.ensures) in
    let is : meaning point (record { alpha = c.multiply.result; beta = c.multiply-2.result }) ≡ reencrypted G y old r = ap₂ (λ a b. record { alpha = a; beta = b }) alpha beta in
    record {
      is = is;
      keeps = λ x k. ap (plaintext G x) is ∙ reencrypted_keeps laws y old r x k;
      joins = λ s. ap (λ d. reencrypted G y d s) is ∙ reencrypted_joins laws y old r s;
    }

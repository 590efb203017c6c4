use Rattle.std.proofs.Common.{◌≡◌, ap, ◌∙◌, ap₂}
use Rattle.elgamal.proofs.Plaintexts.{encrypted_carries}
use Rattle.elgamal.specs.Ciphertexts.{meaning, encrypted, plaintext}
use Rattle.group.specs.Operations.{power}
use Rattle.elgamal.proofs.encrypt.Goals as goal

pub returns : goal.returns
returns g c =
    let G = g.G.Group.operations in
    let point = g.G.Group.point in
    let m = point c.args.message in
    let y = point c.args.key in
    let γ = g.G.Exponent.Exponent.value c.args.gamma in
    let alpha : point c.multiply.result ≡ G.times m (power G y γ) = c.multiply.ensures ∙ ap (G.times m) c.raise.ensures.is in
    let beta : point c.raise-2.result ≡ power G G.base γ = c.raise-2.ensures.is ∙ ap (λ b. power G b γ) c.generator.ensures in
    let is : meaning point (record { alpha = c.multiply.result; beta = c.raise-2.result }) ≡ encrypted G y m γ = ap₂ (λ a b. record { alpha = a; beta = b }) alpha beta in
    record { is = is; carries = λ x k. ap (plaintext G x) is ∙ encrypted_carries g.G.Group.laws y m γ x k }

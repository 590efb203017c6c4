use Rattle.std.proofs.Common.{◌≡◌, ℕ, ◌<◌, sym, ap, ◌∙◌, subst}
use Rattle.elgamal.specs.Ciphertexts.{meaning, encrypted, reencrypted}
use Rattle.group.specs.Operations.{Operations, power}
use Rattle.quote.specs.Quotes.{gamma_unfit, r_unfit}
use Rattle.std.proofs.lemmas.Result.{err_from_is_err_and}
use Rattle.quote.proofs.sealing.seal.Goals as goal

-- a number that an exponent was read from is below what the exponent is below
below : (v n q : ℕ) → v < q → v ≡ n → n < q
below v n q h e = subst (λ (k : ℕ). k < q) e h

-- a key that is not the one, as the power by the number that the private key was read from
proper : {P : Type 0} (G : Operations P) (key : P) (v n : ℕ) → v ≡ n → key ≡ power G G.base v → (key ≡ G.one → ⊥) → power G G.base n ≡ G.one → ⊥
proper G key v n e is apart one = apart (is ∙ ap (power G G.base) e ∙ one)

pub returns-in_err-gamma : goal.returns-in_err-gamma
returns-in_err-gamma g c =
    let E = g.G.Exponent.Exponent in
    let point = g.G.Group.point in
    let private = c.in_ok-private.ensures in
    let key = c.in_ok-key.ensures in
    let gamma = c.in_err-gamma.ensures in
    let p = err_from_is_err_and c.from_residual-in_err-gamma.result c.from_residual-in_err-gamma.ensures.1 in
    rw (p.1, p.2) (gamma_unfit
    (below _ _ _ (E.below c.in_ok-private.private) private)
    (proper g.G.Group.operations (point c.in_ok-key.key) _ _ private key.0 key.1)
    (point c.in_ok-message.message)
    c.in_ok-message.ensures gamma.1 gamma.0)

pub returns-in_err-r : goal.returns-in_err-r
returns-in_err-r g c =
    let E = g.G.Exponent.Exponent in
    let point = g.G.Group.point in
    let private = c.in_ok-private.ensures in
    let key = c.in_ok-key.ensures in
    let r = c.in_err-r.ensures in
    let p = err_from_is_err_and c.from_residual-in_err-r.result c.from_residual-in_err-r.ensures.1 in
    rw (p.1, p.2) (r_unfit
    (below _ _ _ (E.below c.in_ok-private.private) private)
    (proper g.G.Group.operations (point c.in_ok-key.key) _ _ private key.0 key.1)
    (point c.in_ok-message.message)
    c.in_ok-message.ensures
    (below _ _ _ (E.below c.in_ok-gamma.gamma) c.in_ok-gamma.ensures) r.1 r.0)

pub returns : goal.returns
returns g c =
    let E = g.G.Exponent.Exponent in
    let G = g.G.Group.operations in
    let point = g.G.Group.point in
    let private = c.in_ok-private.ensures in
    let key = c.in_ok-key.ensures in
    let gamma = c.in_ok-gamma.ensures in
    let r = c.in_ok-r.ensures in
    let x = E.value c.in_ok-private.private in (
      point c.in_ok-message.message,
      record {
        private_below = below _ _ _ (E.below c.in_ok-private.private) private;
        key_proper = proper G (point c.in_ok-key.key) _ _ private key.0 key.1;
        message_is = c.in_ok-message.ensures;
        gamma_below = below _ _ _ (E.below c.in_ok-gamma.gamma) gamma;
        r_below = below _ _ _ (E.below c.in_ok-r.r) r;
        key_is = key.0 ∙ ap (power G G.base) private;
        sealed_is = c.encrypt-sealed.ensures.is ∙ ap (encrypted G (point c.in_ok-key.key) (point c.in_ok-message.message)) gamma;
        mixed_is = c.reencrypt-mixed.ensures.is ∙ ap (reencrypted G (point c.in_ok-key.key) (meaning point c.encrypt-sealed.result)) r;
        opened_is = c.decrypt-opened.ensures ∙ c.reencrypt-mixed.ensures.keeps x (sym key.0) ∙ c.encrypt-sealed.ensures.carries x (sym key.0);
      },
    )

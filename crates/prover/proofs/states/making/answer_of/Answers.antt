use Rattle.std.proofs.Common.{◌≡◌, ℕ, ◌+◌, ◌*◌, ◌/◌, ◌%◌, sym, ap, ◌∙◌, mul_assoc, add-mul}
use native.Mathlib.Nat.{div-add-mod, mul-add-mod_self_left}
use Rattle.prover.proofs.states.making.answer_of.Goals as goal

-- a remainder may be taken before a product
reduced_first : (a b m : ℕ) → (a % m * b) % m ≡ (a * b) % m
reduced_first a b m =
    let e : a * b ≡ m * (a / m * b) + a % m * b =
    ap (λ (x : ℕ). x * b) (sym (div-add-mod a m)) ∙ add-mul (m * (a / m)) (a % m) b ∙ ap (λ (x : ℕ). x + a % m * b) (mul_assoc m (a / m) b)
    in
    sym (ap (λ (x : ℕ). x % m) e ∙ mul-add-mod_self_left m (a / m * b) (a % m * b))

pub returns : goal.returns
returns g c =
    let q = g.X.Exponent.exponents.order in
    let value = g.X.Exponent.value in
    c.add.ensures
    ∙ ap (λ (n : ℕ). (value c.args.e + n) % q)
    (c.multiply.ensures ∙ ap (λ (n : ℕ). (n * value c.args.r) % q) c.from_word.ensures ∙ reduced_first c.args.c (value c.args.r) q)

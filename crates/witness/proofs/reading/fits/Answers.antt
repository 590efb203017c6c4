use Rattle.std.proofs.Common.{◌≡◌, ℕ, ◌%◌, ◌^◌, ◌<◌, ◌≤◌, eqb, ltb, ◌⊎◌, sym, ap, ◌∙◌, inl, inr, mod-lt, mod-eq_of_lt, arith, pow_pos, le-ltb, lt-ltb, eq-eqb, ne_eqb}
use Rattle.std.proofs.lemmas.Bool.{cases_lt}
use Rattle.witness.proofs.reading.fits.Goals as goal

-- a number is its remainder exactly where it is below the divisor
own_remainder : (n m : ℕ) → 0 < m → eqb (n % m) n ≡ ltb n m
own_remainder n m h = go (cases_lt n m)
  where
    go : (n < m) ⊎ (m ≤ n) → eqb (n % m) n ≡ ltb n m
    go (inl l) = eq-eqb (n % m) n (mod-eq_of_lt l) ∙ sym (lt-ltb n m l)
    go (inr l) = let b = mod-lt n h in ne_eqb (n % m) n (λ e. omega arith) ∙ sym (le-ltb n m l)

pub returns : goal.returns
returns g c =
    let m = 2 ^ g.X.Exponent.exponents.challenge_bits in
    ap (λ (r : ℕ). eqb r c.args.challenge) c.challenge.ensures ∙ own_remainder c.args.challenge m (pow_pos _)

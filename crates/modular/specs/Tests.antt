-- A computed test at each number below a bound.
use Rattle.std.specs.Prelude.{◌≡◌, ℕ, zero, suc, ◌<◌, Bool, true, false, T}
use Rattle.std.proofs.Common.{sym, subst, not-suc-le-zero, arith}
use Rattle.std.proofs.Math.Decide.{ℕ_discrete}

abbrev pub both : Bool → Bool → Bool
both true b = b
both false b = false

pub both_first : (a b : Bool) → T (both a b) → T a
both_first true b t = tt
both_first false b t = t

pub both_second : (a b : Bool) → T (both a b) → T b
both_second true b t = t
both_second false b t = absurd t

pub both_made : (a b : Bool) → T a → T b → T (both a b)
both_made true b s t = t
both_made false b s t = s

-- the test passes at each number below n
abbrev pub every : (ℕ → Bool) → ℕ → Bool
every test zero = true
every test (suc n) = both (test n) (every test n)

pub every_at : (test : ℕ → Bool) (n : ℕ) → T (every test n) → (k : ℕ) → k < n → T (test k)
every_at test zero t k h = absurd (not-suc-le-zero h)
every_at test (suc n) t k h = go (ℕ_discrete k n) (every_at test n (both_second (test n) _ t) k)
  where
    go : Dec (k ≡ n) → (k < n → T (test k)) → T (test k)
    go (yes e) rest = subst (λ (m : ℕ). T (test m)) (sym e) (both_first _ _ t)
    go (no d) rest = rest (omega arith)

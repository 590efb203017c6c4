-- What the answer of a `map_err` was made from.
use Rattle.std.proofs.Common.{◌≡◌, Ok, Err, Result, MatchResult, IsErrAnd, refl, subst}

pub mapped_err : {V E D : Type 0} (r : Result V E) (m : Result V D) (P : E → D → Type 0) (d : D) → MatchResult r (λ x. m ≡ Ok x) (λ e. IsErrAnd m (P e)) → m ≡ Err d →
    (e : E) × (r ≡ Err e) × P e d
mapped_err (Ok x) m P d h is = cc
mapped_err (Err e) m P d h is = (e, refl, subst (λ z. IsErrAnd z (P e)) is h)

pub mapped_ok : {V E D : Type 0} (r : Result V E) (m : Result V D) (P : E → D → Type 0) (v : V) → MatchResult r (λ x. m ≡ Ok x) (λ e. IsErrAnd m (P e)) → m ≡ Ok v → r ≡ Ok v
mapped_ok (Ok x) m P v h is = cc
mapped_ok (Err e) m P v h is = absurd (subst (λ z. IsErrAnd z (P e)) is h)

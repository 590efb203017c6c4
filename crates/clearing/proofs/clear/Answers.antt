use Rattle.std.proofs.Common.{◌≡◌, ℕ, ◌+◌, ◌<◌, ◌≤◌, List, [], ◌∷◌, ◌++◌, length, take, set, replicate, sym, ap, ◌∙◌, ap₂, add-one, arith, take_all, take-suc-set}
use Rattle.std.proofs.lemmas.List.{replicate_more}
use Rattle.clearing.proofs.clear.Goals as goal

-- one place more
more : {X : Type 0} (xs : List X) (i : ℕ) (x zero : X) → i < length xs → x ≡ zero → take i xs ≡ replicate i zero → take (i + 1) (set xs i x) ≡ replicate (i + 1) zero
more xs i x zero h e was =
    ap (λ (n : ℕ). take n (set xs i x)) (add-one i) ∙ take-suc-set xs i x h ∙ ap₂ (λ ys y. ys ++ (y ∷ [])) was e ∙ replicate_more i zero

-- every place
whole : {X : Type 0} (xs : List X) (i n : ℕ) (zero : X) → length xs ≤ i → i ≤ n → length xs ≡ n → take i xs ≡ replicate i zero → xs ≡ replicate n zero
whole xs i n zero h l e was =
    let same : i ≡ n = omega arith in
    sym (take_all i xs h) ∙ was ∙ ap (λ (k : ℕ). replicate k zero) same

pub loop-place-preserved : goal.loop-place-preserved
loop-place-preserved g c = more c.loop-place.places c.loop-place.place-index _ g.T.Zero.zero (omega arith) c.zero.ensures c.loop-place.invariant

pub returns : goal.returns
returns g c = whole c.loop-place.places c.loop-place.place-index (length c.args.places.now) g.T.Zero.zero (omega arith) (omega arith) (omega arith) c.loop-place.invariant

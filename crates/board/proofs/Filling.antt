-- Lists that are filled place by place.
use Rattle.std.proofs.Common.{◌≡◌, ℕ, ◌+◌, ◌<◌, ◌≤◌, List, [], ◌∷◌, ◌++◌, length, take, set, replicate, sym, ap, ◌∙◌, arith}
use Rattle.std.proofs.lemmas.List.{take_more_set, take_all, replicate_more}

module _ {X : Type 0} where
  -- one more place that is filled
  pub filled_more : (xs : List X) (k : ℕ) (x : X) → k < length xs → take k xs ≡ replicate k x → take (k + 1) (set xs k x) ≡ replicate (k + 1) x
  filled_more xs k x h e = take_more_set xs k x h ∙ ap (λ ys. ys ++ x ∷ []) e ∙ replicate_more k x

  pub filled_all : (xs : List X) (k n : ℕ) (x : X) → length xs ≤ k → k ≤ n → length xs ≡ n → take k xs ≡ replicate k x → xs ≡ replicate n x
  filled_all xs k n x h l e was =
      let same : k ≡ n = omega arith in
      sym (take_all k xs h) ∙ was ∙ ap (λ (m : ℕ). replicate m x) same

-- The test that two points are equal.
use Rattle.std.proofs.Common.{◌≡◌, ℕ, Bool, true, false, T, eqb, List, [], ◌∷◌, sym, refl, ap, ◌∙◌, subst, ap₂, eqb→eq}
use lib.Dec.{eqb_refl}
use Rattle.group.specs.Operations.{Operations, GroupLaws}
use Rattle.equivalence.specs.Equations.{same_bytes, same_point}

told : (xs ys : List ℕ) → T (same_bytes xs ys) → xs ≡ ys
unfolding same_bytes
told [] [] t = refl
told [] (y ∷ ys) t = absurd t
told (x ∷ xs) [] t = absurd t
told (x ∷ xs) (y ∷ ys) t = go (eqb x y) (eqb→eq x y) t (told xs ys)
  where
    go : (b : Bool) → (T b → x ≡ y) → T (elim b [ true ↦ same_bytes xs ys | false ↦ false ]) → (T (same_bytes xs ys) → xs ≡ ys) → x ∷ xs ≡ y ∷ ys
    go true e t rest = ap₂ (λ a l. a ∷ l) (e tt) (rest t)
    go false e t rest = absurd t

same : (xs : List ℕ) → same_bytes xs xs ≡ true
unfolding same_bytes
same [] = refl
same (x ∷ xs) = go (eqb x x) (eqb_refl x) (same xs)
  where
    go : (b : Bool) → T b → same_bytes xs xs ≡ true → (elim b [ true ↦ same_bytes xs xs | false ↦ false ]) ≡ true
    go true t rest = rest
    go false t rest = absurd t

module _ {P : Type 0} {G : Operations P} (laws : GroupLaws G) where
  pub point_same : (x y : P) → x ≡ y → same_point G x y ≡ true
  point_same x y e = ap (λ z. same_bytes (G.code x) (G.code z)) (sym e) ∙ same (G.code x)

  pub point_told : (x y : P) → same_point G x y ≡ true → x ≡ y
  point_told x y e = laws.code_own x y (told (G.code x) (G.code y) (subst T (sym e) tt))

  -- any other exact test answers alike
  pub point_test : (x y : P) (r : Bool) → (r ≡ true → x ≡ y) → (x ≡ y → r ≡ true) → r ≡ same_point G x y
  point_test x y true f g = sym (point_same x y (f refl))
  point_test x y false f g = go (same_point G x y) (point_told x y)
    where
      go : (b : Bool) → (b ≡ true → x ≡ y) → false ≡ b
      go true h = g (h refl)
      go false h = refl

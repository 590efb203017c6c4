-- Three samples of one pair of points A and B: at each z, A^z·B = (y^z·g)^γ.
use Rattle.std.proofs.Common.{◌≡◌, ℕ, ◌*◌, ◌%◌, ◌<◌, List, [], ◌∷◌, sym, refl, ap, ◌∙◌, ap₂}
use Rattle.algebra.proofs.Solver.{Exponent, Product, var, unity, ◌⊕◌, ◌⊗◌, ⊝◌, pt, unit, ◌·◌, inv, ◌^◌ as ◌↑◌, given, solve, number}
use Rattle.group.proofs.Powers.{power_zero}
use Rattle.group.specs.Exponents.{Exponents, ExponentLaws, remainder, difference, product}
use Rattle.group.specs.Operations.{Operations, GroupLaws, power, quotient}
use Rattle.witness.specs.declared.samples.Sample.{Sample}
use Rattle.witness.specs.declared.samples.Samples.{Samples}
use Rattle.drill.specs.Formula.{second, top, bottom, formula}
use Rattle.drill.specs.Rule.{AllEqual, Fits, TheKey}
use Rattle.drill.proofs.Powers.{by_sum, by_product, by_difference, by_congruent, by_remainder, by_inverse, base_tells, congruent, undone, remainder_below}

-- expressions over the variables z1 z2 z3 c1 c2 c3, for the three z and the three exponents
abbrev less : Exponent → Exponent → Exponent
less a b = a ⊕ ⊝ b

abbrev z1 : Exponent
z1 = var 0

abbrev z2 : Exponent
z2 = var 1

abbrev z3 : Exponent
z3 = var 2

abbrev c1 : Exponent
c1 = var 3

abbrev c2 : Exponent
c2 = var 4

abbrev c3 : Exponent
c3 = var 5

-- the second difference of f1, f2 and f3, as a point over x
abbrev differenceᵖ : Product → (f1 f2 f3 : Product → Product) → Product
differenceᵖ x f1 f2 f3 = f1 (x ↑ z2 · inv (x ↑ z3)) · f2 (x ↑ z3 · inv (x ↑ z1)) · f3 (x ↑ z1 · inv (x ↑ z2))

abbrev topᵖ : Product → Product
topᵖ x = differenceᵖ x (λ p. p ↑ c1) (λ p. p ↑ c2) (λ p. p ↑ c3)

abbrev bottomᵖ : Product → Product
bottomᵖ x = differenceᵖ x (λ p. (p ↑ z1) ↑ c1) (λ p. (p ↑ z2) ↑ c2) (λ p. (p ↑ z3) ↑ c3)

-- both sides of the rule
abbrev ruleᵉ : (x z c : Exponent) → Exponent
ruleᵉ x z c = (x ⊗ z ⊕ unity) ⊗ c

-- what the witness at z shows
abbrev shownᵖ : (z : Exponent) → Product
shownᵖ z = pt 2 ↑ z · pt 3

abbrev byᵖ : (z c : Exponent) → Product
byᵖ z c = (pt 0 ↑ z · pt 1) ↑ c

module _ {P : Type 0} {G : Operations P} (laws : GroupLaws G) {E : Exponents} (exponents : ExponentLaws E) (same : G.order ≡ E.order) where
  abbrev q : ℕ
  q = E.order

  -- a sample of A and B
  abbrev pub Shows : (y A B : P) → Sample ℕ → Type 0
  Shows y A B s = G.times (power G A s.z) B ≡ power G (G.times (power G y s.z) G.base) s.gamma

  pub record Fit (s : Samples ℕ) : Type 0 where
    pub z1_below : s.first.z < q
    pub z2_below : s.second.z < q
    pub z3_below : s.third.z < q
    pub c1_below : s.first.gamma < q
    pub c2_below : s.second.gamma < q
    pub c3_below : s.third.gamma < q
    pub apart12 : s.first.z ≡ s.second.z → ⊥
    pub apart13 : s.first.z ≡ s.third.z → ⊥
    pub apart23 : s.second.z ≡ s.third.z → ⊥

  module _ (s : Samples ℕ) (fit : Fit s) where
    second_power : (x : P) (f1 f2 f3 : ℕ) → power G x (second E s f1 f2 f3)
        ≡ G.times (G.times (power G (quotient G (power G x s.second.z) (power G x s.third.z)) f1) (power G (quotient G (power G x s.third.z) (power G x s.first.z)) f2))
        (power G (quotient G (power G x s.first.z) (power G x s.second.z)) f3)
    unfolding second
    second_power x f1 f2 f3 =
        by_sum laws exponents same x _ _
        ∙ ap₂ G.times (by_sum laws exponents same x _ _ ∙ ap₂ G.times (part s.second.z s.third.z f1 fit.z3_below) (part s.third.z s.first.z f2 fit.z1_below))
        (part s.first.z s.second.z f3 fit.z2_below)
      where
        part : (a b f : ℕ) → b < q → power G x (product E (difference E a b) f) ≡ power G (quotient G (power G x a) (power G x b)) f
        part a b f h = by_product laws exponents same x (difference E a b) f ∙ ap (λ p. power G p f) (by_difference laws exponents same x a b h)

    bottom_power : (x : P) → power G x (bottom E s)
        ≡ G.times (G.times (power G (power G (quotient G (power G x s.second.z) (power G x s.third.z)) s.first.z) s.first.gamma)
        (power G (power G (quotient G (power G x s.third.z) (power G x s.first.z)) s.second.z) s.second.gamma))
        (power G (power G (quotient G (power G x s.first.z) (power G x s.second.z)) s.third.z) s.third.gamma)
    bottom_power x =
        second_power x _ _ _
        ∙ ap₂ G.times (ap₂ G.times (by_product laws exponents same _ s.first.z s.first.gamma) (by_product laws exponents same _ s.second.z s.second.gamma))
        (by_product laws exponents same _ s.third.z s.third.gamma)

    top_power : (x : P) → power G x (top E s)
        ≡ G.times (G.times (power G (quotient G (power G x s.second.z) (power G x s.third.z)) s.first.gamma) (power G (quotient G (power G x s.third.z) (power G x s.first.z)) s.second.gamma))
        (power G (quotient G (power G x s.first.z) (power G x s.second.z)) s.third.gamma)
    top_power x = second_power x s.first.gamma s.second.gamma s.third.gamma

    below_top : top E s < q
    unfolding second
    below_top = remainder_below laws exponents same _

    below_bottom : bottom E s < q
    unfolding second
    below_bottom = remainder_below laws exponents same _

    -- the rule's equations, combined so that a and b fall out
    rooted : (x : ℕ) → Fits E s x → G.times (power G G.base (x * bottom E s)) (power G G.base (top E s)) ≡ G.one
    rooted x f =
        let line = λ (m n : ℕ) (e : m % q ≡ n % q). by_congruent laws exponents same G.base m n e in
        solve laws (s.first.z ∷ s.second.z ∷ s.third.z ∷ s.first.gamma ∷ s.second.gamma ∷ s.third.gamma ∷ bottom E s ∷ top E s ∷ x ∷ f.a ∷ f.b ∷ []) (G.base ∷ []) (pt 0 ↑ (var 8 ⊗ var 6) · pt 0 ↑ var 7) unit
        (given (var 8) (pt 0 ↑ var 6) (bottomᵖ (pt 0)) ∷ given unity (pt 0 ↑ var 7) (topᵖ (pt 0))
        ∷ given (less z2 z3) (pt 0 ↑ ruleᵉ (var 8) z1 c1) (pt 0 ↑ (var 9 ⊗ z1 ⊕ var 10))
        ∷ given (less z3 z1) (pt 0 ↑ ruleᵉ (var 8) z2 c2) (pt 0 ↑ (var 9 ⊗ z2 ⊕ var 10))
        ∷ given (less z1 z2) (pt 0 ↑ ruleᵉ (var 8) z3 c3) (pt 0 ↑ (var 9 ⊗ z3 ⊕ var 10)) ∷ [])
        (bottom_power G.base, (top_power G.base, (line _ _ f.first, (line _ _ f.second, (line _ _ f.third, tt))))) refl

    -- the inverse of the bottom
    module _ (whole : bottom E s ≡ 0 → ⊥) where
      abbrev i : ℕ
      i = E.inverse (bottom E s)

      divided : (x : P) → power G x (bottom E s * i) ≡ x
      divided x = by_inverse laws exponents same x (bottom E s) whole below_bottom

      formula_power : power G G.base (formula E s) ≡ power G (quotient G (power G G.base (remainder E 0)) (power G G.base (top E s))) i
      unfolding formula
      formula_power =
          by_product laws exponents same G.base (difference E (remainder E 0) (top E s)) i
          ∙ ap (λ p. power G p i) (by_difference laws exponents same G.base (remainder E 0) (top E s) below_top)

      formula_below : formula E s < q
      unfolding formula
      formula_below = remainder_below laws exponents same _

      nought : power G G.base (remainder E 0) ≡ G.one
      nought = by_remainder laws exponents same G.base 0 ∙ power_zero laws G.base

      formula_rooted : G.times (power G G.base (formula E s * bottom E s)) (power G G.base (top E s)) ≡ G.one
      formula_rooted =
          solve laws (bottom E s ∷ top E s ∷ formula E s ∷ i ∷ remainder E 0 ∷ []) (G.base ∷ []) (pt 0 ↑ (var 2 ⊗ var 0) · pt 0 ↑ var 1) unit
          (given (var 0) (pt 0 ↑ var 2) ((pt 0 ↑ var 4 · inv (pt 0 ↑ var 1)) ↑ var 3)
          ∷ given (var 0 ⊗ var 3) (pt 0 ↑ var 4) unit ∷ given (⊝ var 1) (pt 0 ↑ (var 0 ⊗ var 3)) (pt 0) ∷ [])
          (formula_power, (nought, (divided G.base, tt))) refl

      -- what satisfies the equation is one number
      only : (x y : ℕ) → x < q → y < q
          → G.times (power G G.base (x * bottom E s)) (power G G.base (top E s)) ≡ G.one
          → G.times (power G G.base (y * bottom E s)) (power G G.base (top E s)) ≡ G.one → x ≡ y
      only x y hx hy rx ry =
          base_tells laws exponents same x y hx hy
          (solve laws (bottom E s ∷ top E s ∷ x ∷ i ∷ y ∷ []) (G.base ∷ []) (pt 0 ↑ var 2) (pt 0 ↑ var 4)
          (given (var 3) (pt 0 ↑ (var 2 ⊗ var 0) · pt 0 ↑ var 1) unit ∷ given (⊝ var 3) (pt 0 ↑ (var 4 ⊗ var 0) · pt 0 ↑ var 1) unit
          ∷ given (⊝ (less (var 2) (var 4))) (pt 0 ↑ (var 0 ⊗ var 3)) (pt 0) ∷ [])
          (rx, (ry, (divided G.base, tt))) refl)

      -- a and b for the formula's number, by the slope between the first two samples
      formula_fits : Fits E s (formula E s)
      formula_fits =
          let x = formula E s in
          let d = E.inverse (difference E s.first.z s.second.z) in
          let ρ : List ℕ = (s.first.z ∷ s.second.z ∷ s.third.z ∷ s.first.gamma ∷ s.second.gamma ∷ s.third.gamma ∷ bottom E s ∷ top E s ∷ x ∷ d ∷ []) in
          let slope : Exponent = less (ruleᵉ (var 8) z1 c1) (ruleᵉ (var 8) z2 c2) ⊗ var 9 in
          let rest : Exponent = less (ruleᵉ (var 8) z1 c1) (slope ⊗ z1) in
          let step = undone laws exponents same G.base s.first.z s.second.z fit.z1_below fit.z2_below fit.apart12 in
          record {
            a = number G.order ρ slope;
            b = number G.order ρ rest;
            first = congruent laws exponents same _ _ (solve laws ρ (G.base ∷ []) (pt 0 ↑ ruleᵉ (var 8) z1 c1) (pt 0 ↑ (slope ⊗ z1 ⊕ rest)) [] tt refl);
            second = congruent laws exponents same _ _ (solve laws ρ (G.base ∷ []) (pt 0 ↑ ruleᵉ (var 8) z2 c2) (pt 0 ↑ (slope ⊗ z2 ⊕ rest))
                (given (less (ruleᵉ (var 8) z1 c1) (ruleᵉ (var 8) z2 c2)) ((pt 0 ↑ z1 · inv (pt 0 ↑ z2)) ↑ var 9) (pt 0) ∷ []) (step, tt) refl);
            third = congruent laws exponents same _ _ (solve laws ρ (G.base ∷ []) (pt 0 ↑ ruleᵉ (var 8) z3 c3) (pt 0 ↑ (slope ⊗ z3 ⊕ rest))
                (given (var 9) (pt 0 ↑ (var 8 ⊗ var 6) · pt 0 ↑ var 7) unit ∷ given (⊝ (var 9 ⊗ var 8)) (pt 0 ↑ var 6) (bottomᵖ (pt 0)) ∷ given (⊝ var 9) (pt 0 ↑ var 7) (topᵖ (pt 0))
                ∷ given (less (ruleᵉ (var 8) z1 c1) (ruleᵉ (var 8) z3 c3)) ((pt 0 ↑ z1 · inv (pt 0 ↑ z2)) ↑ var 9) (pt 0) ∷ [])
                (formula_rooted, (bottom_power G.base, (top_power G.base, (step, tt)))) refl);
          }

      the_key : TheKey E s (formula E s)
      the_key = record {
        below = formula_below;
        fits = formula_fits;
        only = λ other h f. only other (formula E s) h formula_below (rooted other f) formula_rooted;
      }

    module _ (y A B : P) (first : Shows y A B s.first) (second : Shows y A B s.second) (third : Shows y A B s.third) where
      -- the samples' equations, combined so that A and B fall out
      between : G.times (power G y (bottom E s)) (power G G.base (top E s)) ≡ G.one
      between =
          solve laws (s.first.z ∷ s.second.z ∷ s.third.z ∷ s.first.gamma ∷ s.second.gamma ∷ s.third.gamma ∷ bottom E s ∷ top E s ∷ []) (y ∷ G.base ∷ A ∷ B ∷ []) (pt 0 ↑ var 6 · pt 1 ↑ var 7) unit
          (given unity (pt 0 ↑ var 6) (bottomᵖ (pt 0)) ∷ given unity (pt 1 ↑ var 7) (topᵖ (pt 1))
          ∷ given (⊝ (less z2 z3)) (shownᵖ z1) (byᵖ z1 c1) ∷ given (⊝ (less z3 z1)) (shownᵖ z2) (byᵖ z2 c2) ∷ given (⊝ (less z1 z2)) (shownᵖ z3) (byᵖ z3 c3) ∷ [])
          (bottom_power y, (top_power G.base, (first, (second, (third, tt))))) refl

      -- where the bottom is 0, so is the top, since the base is not the one; then all exponents are equal
      pub whole : (AllEqual s → ⊥) → bottom E s ≡ 0 → ⊥
      whole differ zero =
          let flat : (x : P) → power G x (bottom E s) ≡ G.one = λ x. ap (power G x) zero ∙ power_zero laws x in
          let low : power G G.base (top E s) ≡ G.one = sym (laws.neutral _) ∙ ap (λ p. G.times p (power G G.base (top E s))) (sym (flat y)) ∙ between in
          let ρ : List ℕ = (s.first.z ∷ s.second.z ∷ s.third.z ∷ s.first.gamma ∷ s.second.gamma ∷ s.third.gamma ∷ E.inverse (difference E s.first.z s.second.z) ∷ E.inverse (difference E s.second.z s.third.z) ∷ E.inverse (difference E s.third.z s.first.z) ∷ []) in
          let step12 = undone laws exponents same G.base s.first.z s.second.z fit.z1_below fit.z2_below fit.apart12 in
          let step23 = undone laws exponents same G.base s.second.z s.third.z fit.z2_below fit.z3_below fit.apart23 in
          let step31 = undone laws exponents same G.base s.third.z s.first.z fit.z3_below fit.z1_below (λ e. fit.apart13 (sym e)) in
          let e13 : s.first.gamma ≡ s.third.gamma = base_tells laws exponents same _ _ fit.c1_below fit.c3_below
          (solve laws ρ (G.base ∷ []) (pt 0 ↑ c1) (pt 0 ↑ c3)
          (given (⊝ (var 7 ⊗ var 6 ⊗ z2)) (topᵖ (pt 0)) unit ∷ given (var 7 ⊗ var 6) (bottomᵖ (pt 0)) unit
          ∷ given (⊝ (less c1 c3 ⊗ (var 6 ⊗ less z1 z2))) ((pt 0 ↑ z2 · inv (pt 0 ↑ z3)) ↑ var 7) (pt 0)
          ∷ given (⊝ (less c1 c3)) ((pt 0 ↑ z1 · inv (pt 0 ↑ z2)) ↑ var 6) (pt 0) ∷ [])
          (sym (top_power G.base) ∙ low, (sym (bottom_power G.base) ∙ flat G.base, (step23, (step12, tt)))) refl) in
          let e23 : s.second.gamma ≡ s.third.gamma = base_tells laws exponents same _ _ fit.c2_below fit.c3_below
          (solve laws ρ (G.base ∷ []) (pt 0 ↑ c2) (pt 0 ↑ c3)
          (given (var 8 ⊗ var 6 ⊗ z1) (topᵖ (pt 0)) unit ∷ given (⊝ (var 8 ⊗ var 6)) (bottomᵖ (pt 0)) unit
          ∷ given (⊝ (less c2 c3 ⊗ (var 6 ⊗ less z1 z2))) ((pt 0 ↑ z3 · inv (pt 0 ↑ z1)) ↑ var 8) (pt 0)
          ∷ given (⊝ (less c2 c3)) ((pt 0 ↑ z1 · inv (pt 0 ↑ z2)) ↑ var 6) (pt 0) ∷ [])
          (sym (top_power G.base) ∙ low, (sym (bottom_power G.base) ∙ flat G.base, (step31, (step12, tt)))) refl) in
          differ (e13 ∙ sym e23, e23)

      -- exponents that are not all equal: the formula's number is the key
      pub key_holds : (AllEqual s → ⊥) → TheKey E s (formula E s)
      key_holds differ = the_key (whole differ)

      -- and whatever fits is the private key
      pub key_private : (AllEqual s → ⊥) → (x : ℕ) → Fits E s x → power G G.base x ≡ y
      key_private differ x f =
          solve laws (bottom E s ∷ top E s ∷ x ∷ E.inverse (bottom E s) ∷ []) (y ∷ G.base ∷ []) (pt 1 ↑ var 2) (pt 0)
          (given (⊝ var 3) (pt 0 ↑ var 0 · pt 1 ↑ var 1) unit ∷ given (var 3) (pt 1 ↑ (var 2 ⊗ var 0) · pt 1 ↑ var 1) unit
          ∷ given unity (pt 0 ↑ (var 0 ⊗ var 3)) (pt 0) ∷ given (⊝ var 2) (pt 1 ↑ (var 0 ⊗ var 3)) (pt 1) ∷ [])
          (between, (rooted x f, (divided (whole differ) y, (divided (whole differ) G.base, tt)))) refl

      -- one exponent: A and B are the powers of y and of the base by it
      pub common_first : AllEqual s → A ≡ power G y s.first.gamma
      common_first equal =
          let c = s.first.gamma in
          let again : G.times (power G A s.second.z) B ≡ power G (G.times (power G y s.second.z) G.base) c = second ∙ ap (power G _) (sym equal.0) in
          let step = λ (x : P). undone laws exponents same x s.first.z s.second.z fit.z1_below fit.z2_below fit.apart12 in
          solve laws (s.first.z ∷ s.second.z ∷ c ∷ E.inverse (difference E s.first.z s.second.z) ∷ []) (y ∷ G.base ∷ A ∷ B ∷ []) (pt 2) (pt 0 ↑ var 2)
          (given (var 3) (shownᵖ (var 0)) (byᵖ (var 0) (var 2)) ∷ given (⊝ var 3) (shownᵖ (var 1)) (byᵖ (var 1) (var 2))
          ∷ given (⊝ unity) ((pt 2 ↑ var 0 · inv (pt 2 ↑ var 1)) ↑ var 3) (pt 2) ∷ given (var 2) ((pt 0 ↑ var 0 · inv (pt 0 ↑ var 1)) ↑ var 3) (pt 0) ∷ [])
          (first, (again, (step A, (step y, tt)))) refl

      pub common_second : AllEqual s → B ≡ power G G.base s.first.gamma
      common_second equal =
          solve laws (s.first.z ∷ s.first.gamma ∷ []) (y ∷ G.base ∷ A ∷ B ∷ []) (pt 3) (pt 1 ↑ var 1)
          (given unity (shownᵖ (var 0)) (byᵖ (var 0) (var 1)) ∷ given (⊝ var 0) (pt 2) (pt 0 ↑ var 1) ∷ [])
          (first, (common_first equal, tt)) refl

-- Exponents in a group of their order: powers by sums, differences, products and inverses of exponents.
use Rattle.std.proofs.Common.{◌≡◌, ℕ, ◌+◌, ◌-◌, ◌*◌, ◌%◌, ◌<◌, ◌≤◌, ◌⊎◌, [], ◌∷◌, sym, refl, ap, ◌∙◌, subst, inl, inr, mod-lt, mod-eq_of_lt, arith}
use native.Mathlib.Nat.{add-mod_right}
use Rattle.std.proofs.lemmas.Bool.{cases_eq, cases_lt}
use Rattle.algebra.proofs.Solver.{var, unity, ⊝◌, pt, ◌·◌, inv, ◌^◌ as ◌↑◌, given, solve, same_of_quotient}
use Rattle.group.proofs.Powers.{power_add, power_mul, power_mod, power_zero, power_first, power_of_one, inverse_only}
use Rattle.group.specs.Exponents.{Exponents, ExponentLaws, sum, difference, product}
use Rattle.group.specs.Operations.{Operations, GroupLaws, power, quotient}

module _ {P : Type 0} {G : Operations P} (laws : GroupLaws G) {E : Exponents} (exponents : ExponentLaws E) (same : G.order ≡ E.order) where
  abbrev q : ℕ
  q = E.order

  some : 0 < q
  some = subst (λ (n : ℕ). 0 < n) same laws.some_order

  pub remainder_below : (n : ℕ) → n % q < q
  remainder_below n = mod-lt n some

  -- an exponent counts modulo the order
  pub by_remainder : (x : P) (n : ℕ) → power G x (n % q) ≡ power G x n
  by_remainder x n = ap (λ (m : ℕ). power G x (n % m)) (sym same) ∙ power_mod laws x n

  pub by_congruent : (x : P) (m n : ℕ) → m % q ≡ n % q → power G x m ≡ power G x n
  by_congruent x m n e = sym (by_remainder x m) ∙ ap (power G x) e ∙ by_remainder x n

  pub by_sum : (x : P) (a b : ℕ) → power G x (sum E a b) ≡ G.times (power G x a) (power G x b)
  by_sum x a b = by_remainder x (a + b) ∙ power_add laws x a b

  pub by_product : (x : P) (a b : ℕ) → power G x (product E a b) ≡ power G (power G x a) b
  by_product x a b = by_remainder x (a * b) ∙ sym (power_mul laws x a b)

  pub by_difference : (x : P) (a b : ℕ) → b < q → power G x (difference E a b) ≡ quotient G (power G x a) (power G x b)
  by_difference x a b h =
      let e : b + (q - b) ≡ q = omega arith in
      by_remainder x (a + (q - b)) ∙ power_add laws x a (q - b)
      ∙ ap (G.times (power G x a)) (inverse_only laws (power G x b) (power G x (q - b))
      (sym (power_add laws x b (q - b)) ∙ ap (power G x) (e ∙ sym same) ∙ laws.whole_power x))

  pub by_inverse : (x : P) (n : ℕ) → (n ≡ 0 → ⊥) → n < q → power G x (n * E.inverse n) ≡ x
  by_inverse x n apart h =
      sym (by_remainder x (n * E.inverse n)) ∙ ap (power G x) (exponents.inverse_times n (let f : n ≡ 0 → ⊥ = apart in omega arith) h) ∙ power_first laws x

  -- only the 0 takes the base to the one
  pub no_power : (n : ℕ) → n < q → power G G.base n ≡ G.one → n ≡ 0
  no_power n h e = go (cases_eq n 0)
    where
      go : (n ≡ 0) ⊎ (n ≡ 0 → ⊥) → n ≡ 0
      go (inl z) = z
      go (inr apart) =
          absurd (laws.proper (sym (by_inverse G.base n apart h) ∙ sym (power_mul laws G.base n (E.inverse n)) ∙ ap (λ x. power G x (E.inverse n)) e ∙ power_of_one laws (E.inverse n)))

  -- so powers of the base tell exponents apart
  pub base_tells : (a b : ℕ) → a < q → b < q → power G G.base a ≡ power G G.base b → a ≡ b
  base_tells a b ha hb e =
      let d = no_power (difference E a b) (remainder_below (a + (q - b)))
      (by_difference G.base a b hb ∙ ap (λ x. quotient G x (power G G.base b)) e ∙ laws.inverted (power G G.base b)) in
      go (cases_lt a b) d
    where
      -- the difference is a - b, or a + q - b
      go : (a < b) ⊎ (b ≤ a) → (a + (q - b)) % q ≡ 0 → a ≡ b
      go (inl l) z =
          let s : a + (q - b) < q = omega arith in
          let m = mod-eq_of_lt s in
          omega arith
      go (inr l) z =
          let s : a - b < q = omega arith in
          let f : a + (q - b) ≡ (a - b) + q = omega arith in
          let m : (a + (q - b)) % q ≡ a - b = ap (λ (n : ℕ). n % q) f ∙ add-mod_right (a - b) q ∙ mod-eq_of_lt s in
          omega arith

  pub congruent : (a b : ℕ) → power G G.base a ≡ power G G.base b → a % q ≡ b % q
  congruent a b e = base_tells (a % q) (b % q) (remainder_below a) (remainder_below b) (by_remainder G.base a ∙ e ∙ sym (by_remainder G.base b))

  -- exponents that differ have a difference that is not 0
  pub apart : (a b : ℕ) → a < q → b < q → (a ≡ b → ⊥) → difference E a b ≡ 0 → ⊥
  apart a b ha hb n e =
      n (base_tells a b ha hb (same_of_quotient laws (power G G.base a) (power G G.base b)
      (sym (by_difference G.base a b hb) ∙ ap (power G G.base) e ∙ power_zero laws G.base)))

  -- the difference of two, and its inverse: (x^(a - b))^i = x
  pub undone : (x : P) (a b : ℕ) → a < q → b < q → (a ≡ b → ⊥) → power G (quotient G (power G x a) (power G x b)) (E.inverse (difference E a b)) ≡ x
  undone x a b ha hb n =
      ap (λ y. power G y (E.inverse (difference E a b))) (sym (by_difference x a b hb))
      ∙ power_mul laws x (difference E a b) (E.inverse (difference E a b))
      ∙ by_inverse x (difference E a b) (apart a b ha hb n) (remainder_below (a + (q - b)))

  -- Two answers to one commitment: Y is the power of K by (s - t) / (c - d).
  pub extracted : (K Y w : P) (s t c d : ℕ) → t < q → c < q → d < q → (c ≡ d → ⊥)
      → power G K s ≡ G.times w (power G Y c) → power G K t ≡ G.times w (power G Y d)
      → Y ≡ power G K (product E (difference E s t) (E.inverse (difference E c d)))
  extracted K Y w s t c d ht hc hd n first second =
      let i = E.inverse (difference E c d) in
      solve laws (s ∷ t ∷ c ∷ d ∷ i ∷ []) (K ∷ Y ∷ w ∷ []) (pt 1) ((pt 0 ↑ var 0 · inv (pt 0 ↑ var 1)) ↑ var 4)
      (given (⊝ unity) ((pt 1 ↑ var 2 · inv (pt 1 ↑ var 3)) ↑ var 4) (pt 1)
      ∷ given (⊝ var 4) (pt 0 ↑ var 0) (pt 2 · pt 1 ↑ var 2) ∷ given (var 4) (pt 0 ↑ var 1) (pt 2 · pt 1 ↑ var 3) ∷ [])
      (undone Y c d hc hd n, (first, (second, tt))) refl
      ∙ sym (by_product K (difference E s t) i ∙ ap (λ x. power G x i) (by_difference K s t ht))

-- What the laws of a group give of powers.
use Rattle.std.proofs.Common.{◌≡◌, ℕ, zero, suc, ◌+◌, ◌-◌, ◌*◌, ◌/◌, ◌%◌, sym, refl, ap, ◌∙◌, mul_comm, add_comm, suc-add, mul-zero, zero-add, mul-suc, arith}
use native.Mathlib.Nat.{div-add-mod}
use Rattle.group.specs.Operations.{Operations, GroupLaws, power}

module _ {P : Type 0} {G : Operations P} (laws : GroupLaws G) where
  pub neutral_right : (x : P) → G.times x G.one ≡ x
  neutral_right x = laws.commutative x G.one ∙ laws.neutral x

  pub power_add : (x : P) (m n : ℕ) → power G x (m + n) ≡ G.times (power G x m) (power G x n)
  unfolding power
  power_add x zero n = ap (power G x) (zero-add n) ∙ sym (laws.neutral (power G x n))
  power_add x (suc m) n =
      ap (power G x) (suc-add m n) ∙ ap (G.times x) (power_add x m n) ∙ sym (laws.associative x (power G x m) (power G x n))

  pub power_of_one : (n : ℕ) → power G G.one n ≡ G.one
  unfolding power
  power_of_one zero = refl
  power_of_one (suc n) = laws.neutral (power G G.one n) ∙ power_of_one n

  pub power_zero : (x : P) → power G x 0 ≡ G.one
  unfolding power
  power_zero x = refl

  pub power_first : (x : P) → power G x 1 ≡ x
  unfolding power
  power_first x = neutral_right x

  pub power_suc : (x : P) (n : ℕ) → power G x (n + 1) ≡ G.times x (power G x n)
  power_suc x n =
      let e : n + 1 ≡ 1 + n = omega arith in
      ap (power G x) e ∙ power_add x 1 n ∙ ap (λ y. G.times y (power G x n)) (power_first x)

  -- a power of a power
  pub power_mul : (x : P) (m n : ℕ) → power G (power G x m) n ≡ power G x (m * n)
  unfolding power
  power_mul x m zero = ap (power G x) (sym (mul-zero m))
  power_mul x m (suc n) =
      ap (G.times (power G x m)) (power_mul x m n) ∙ sym (power_add x m (m * n)) ∙ ap (power G x) (add_comm m (m * n) ∙ sym (mul-suc m n))

  pub power_swap : (x : P) (m n : ℕ) → power G (power G x m) n ≡ power G (power G x n) m
  power_swap x m n = power_mul x m n ∙ ap (power G x) (mul_comm m n) ∙ sym (power_mul x n m)

  exchange : (a b c d : P) → G.times (G.times a b) (G.times c d) ≡ G.times (G.times a c) (G.times b d)
  exchange a b c d =
      laws.associative a b (G.times c d)
      ∙ ap (G.times a) (sym (laws.associative b c d) ∙ ap (λ y. G.times y d) (laws.commutative b c) ∙ laws.associative c b d)
      ∙ sym (laws.associative a c (G.times b d))

  -- a power of a product
  pub power_times : (x y : P) (n : ℕ) → power G (G.times x y) n ≡ G.times (power G x n) (power G y n)
  unfolding power
  power_times x y zero = sym (laws.neutral G.one)
  power_times x y (suc n) = ap (G.times (G.times x y)) (power_times x y n) ∙ exchange x y (power G x n) (power G y n)

  -- an exponent counts modulo the order
  pub power_mod : (x : P) (n : ℕ) → power G x (n % G.order) ≡ power G x n
  power_mod x n =
      let q = G.order in
      sym (
      ap (power G x) (sym (div-add-mod n q))
      ∙ power_add x (q * (n / q)) (n % q)
      ∙ ap (λ y. G.times y (power G x (n % q))) (sym (power_mul x q (n / q)) ∙ ap (λ y. power G y (n / q)) (laws.whole_power x) ∙ power_of_one (n / q))
      ∙ laws.neutral (power G x (n % q)))

  -- what undoes x is its inverse
  pub inverse_only : (x y : P) → G.times x y ≡ G.one → y ≡ G.inverse x
  inverse_only x y e =
      sym (neutral_right y) ∙ ap (G.times y) (sym (laws.inverted x)) ∙ sym (laws.associative y x (G.inverse x))
      ∙ ap (λ z. G.times z (G.inverse x)) (laws.commutative y x ∙ e) ∙ laws.neutral (G.inverse x)

  -- the inverse is the power by one less than the order
  pub inverse_power : (x : P) → power G x (G.order - 1) ≡ G.inverse x
  inverse_power x =
      let n = G.order - 1 in
      let some = laws.some_order in
      let e : n + 1 ≡ G.order = omega arith in
      inverse_only x (power G x n) (sym (power_suc x n) ∙ ap (power G x) e ∙ laws.whole_power x)

  -- One turn of a power by squaring: `done` is done, and the n-th power of `square` is left.
  even_power : (x : P) (n : ℕ) → (n % 2 ≡ 1 → ⊥) → power G (G.times x x) (n / 2) ≡ power G x n
  even_power x n h =
      let e : n / 2 + n / 2 ≡ n = omega arith in
      power_times x x (n / 2) ∙ sym (power_add x (n / 2) (n / 2)) ∙ ap (power G x) e

  odd_power : (x : P) (n : ℕ) → n % 2 ≡ 1 → G.times x (power G (G.times x x) (n / 2)) ≡ power G x n
  odd_power x n h =
      let e : n / 2 + n / 2 + 1 ≡ n = omega arith in
      ap (G.times x) (power_times x x (n / 2) ∙ sym (power_add x (n / 2) (n / 2))) ∙ sym (power_suc x (n / 2 + n / 2)) ∙ ap (power G x) e

  pub squared_even : {done square done' square' all : P} (n : ℕ) → (n % 2 ≡ 1 → ⊥) → done' ≡ done → square' ≡ G.times square square
      → G.times done (power G square n) ≡ all → G.times done' (power G square' (n / 2)) ≡ all
  squared_even {done} {square} {done'} {square'} n h ed es before =
      ap (λ y. G.times y (power G square' (n / 2))) ed
      ∙ ap (λ y. G.times done (power G y (n / 2))) es
      ∙ ap (G.times done) (even_power square n h) ∙ before

  pub squared_odd : {done square done' square' all : P} (n : ℕ) → n % 2 ≡ 1 → done' ≡ G.times done square → square' ≡ G.times square square
      → G.times done (power G square n) ≡ all → G.times done' (power G square' (n / 2)) ≡ all
  squared_odd {done} {square} {done'} {square'} n h ed es before =
      ap (λ y. G.times y (power G square' (n / 2))) ed
      ∙ ap (λ y. G.times (G.times done square) (power G y (n / 2))) es
      ∙ laws.associative done square (power G (G.times square square) (n / 2))
      ∙ ap (G.times done) (odd_power square n h) ∙ before

  pub squared_none : (done square all : P) (n : ℕ) → n ≡ 0 → G.times done (power G square n) ≡ all → done ≡ all
  squared_none done square all n e before =
      sym (neutral_right done) ∙ ap (G.times done) (sym (power_zero square) ∙ ap (power G square) (sym e)) ∙ before

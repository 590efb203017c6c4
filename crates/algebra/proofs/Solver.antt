-- A solver for equations between points of a lawful group.
--
-- An equation is written with expressions for points and for exponents; it holds where it follows from
-- the given equations, each raised to an exponent that the author writes. The difference of both sides,
-- less those of the hypotheses, is multiplied out to signed points under products of exponents, and
-- opposite terms are struck out. Where nothing is left, which `refl` shows, the equation holds.
-- Exponents are whole numbers; the opposite of n is q - n % q, for the order q.
use mathlib.Core.Path.{◌≡◌, refl, sym, ◌∙◌, ap, ap₂}
use mathlib.Core.List.{List, [], ◌∷◌}
use mathlib.Core.Bool.{Bool, true, false, not}
use Prim.Native.Nat.{ℕ, zero, suc, ◌+◌, ◌*◌, ◌-◌, ◌%◌, ◌<◌}
use native.Mathlib.Nat.{mod-lt}
use native.Mathlib.Omega.{arith}
use lib.Dec.{T, eqb, leb, eqb→eq}
use Rattle.group.proofs.Powers.{neutral_right, power_add, power_of_one, power_zero, power_first, power_mul, power_swap, power_times, power_mod, inverse_only}
use Rattle.group.specs.Operations.{Operations, GroupLaws, power}

-- Expressions for exponents, and for points.
pub data Exponent : Type 0 where
  var : ℕ → Exponent
  nil : Exponent
  unity : Exponent
  ◌⊕◌ : Exponent → Exponent → Exponent
  ◌⊗◌ : Exponent → Exponent → Exponent
  ⊝◌ : Exponent → Exponent

pub data Product : Type 0 where
  pt : ℕ → Product
  unit : Product
  ◌·◌ : Product → Product → Product
  inv : Product → Product
  ◌^◌ : Product → Exponent → Product

infixl 50 ◌⊕◌
infixl 60 ◌⊗◌
infix 65 ⊝◌
infixl 50 ◌·◌
infixl 70 ◌^◌
-- A hypothesis, and the exponent to which it is raised.
pub data Hypothesis : Type 0 where
  given : Exponent → Product → Product → Hypothesis

-- A point, or its inverse, under a product of variables.
pub data Term : Type 0 where
  term : Bool → List ℕ → ℕ → Term

abbrev pub at : {A : Type 0} → A → List A → ℕ → A
at d [] n = d
at d (x ∷ xs) zero = x
at d (x ∷ xs) (suc n) = at d xs n

-- a variable into a sorted product
abbrev insert : ℕ → List ℕ → List ℕ
insert i [] = i ∷ []
insert i (j ∷ m) = elim (leb i j) [ true ↦ i ∷ (j ∷ m) | false ↦ j ∷ insert i m ]

abbrev same : List ℕ → List ℕ → Bool
same [] [] = true
same [] (j ∷ n) = false
same (i ∷ m) [] = false
same (i ∷ m) (j ∷ n) = elim (eqb i j) [ true ↦ same m n | false ↦ false ]

abbrev opposite : Bool → Bool → Bool
opposite true true = false
opposite true false = true
opposite false true = true
opposite false false = false

abbrev cancels : Bool → List ℕ → ℕ → Term → Bool
cancels s m g (term s' m' g') = elim (opposite s s') [ true ↦ elim (eqb g g') [ true ↦ same m m' | false ↦ false ] | false ↦ false ]

-- a term into a list of them, where it strikes its opposite out
abbrev join : Bool → List ℕ → ℕ → List Term → List Term
join s m g [] = term s m g ∷ []
join s m g (t ∷ p) = elim (cancels s m g t) [ true ↦ p | false ↦ t ∷ join s m g p ]

abbrev push_exponent : Exponent → (Bool → List ℕ → List Term → List Term) → Bool → List ℕ → List Term → List Term
push_exponent (var i) k s m rest = k s (insert i m) rest
push_exponent nil k s m rest = rest
push_exponent unity k s m rest = k s m rest
push_exponent (a ⊕ b) k s m rest = push_exponent a k s m (push_exponent b k s m rest)
push_exponent (a ⊗ b) k s m rest = push_exponent a (push_exponent b k) s m rest
push_exponent (⊝ a) k s m rest = push_exponent a k (not s) m rest

-- what is left of a product, multiplied out and put to `rest`
abbrev pub push : Product → Bool → List ℕ → List Term → List Term
push (pt g) s m rest = join s m g rest
push unit s m rest = rest
push (x · y) s m rest = push x s m (push y s m rest)
push (inv x) s m rest = push x (not s) m rest
push (x ^ e) s m rest = push_exponent e (push x) s m rest

abbrev pub less : Product → List Hypothesis → Product
less x [] = x
less x (given c l r ∷ hs) = less (x · inv ((l · inv r) ^ c)) hs

same_is : (m n : List ℕ) → T (same m n) → m ≡ n
same_is [] [] t = refl
same_is [] (j ∷ n) t = absurd t
same_is (i ∷ m) [] t = absurd t
same_is (i ∷ m) (j ∷ n) t = go (eqb i j) (eqb→eq i j) t (same_is m n)
  where
    go : (b : Bool) → (T b → i ≡ j) → T (elim b [ true ↦ same m n | false ↦ false ]) → (T (same m n) → m ≡ n) → i ∷ m ≡ j ∷ n
    go true h t ih = ap₂ (λ i m. i ∷ m) (h tt) (ih t)
    go false h t ih = absurd t

-- the number that an exponent's expression is, with the order q
abbrev pub number : ℕ → List ℕ → Exponent → ℕ
number q ρ (var i) = at 0 ρ i
number q ρ nil = 0
number q ρ unity = 1
number q ρ (a ⊕ b) = number q ρ a + number q ρ b
number q ρ (a ⊗ b) = number q ρ a * number q ρ b
number q ρ (⊝ a) = q - number q ρ a % q

module _ {P : Type 0} (G : Operations P) where
  abbrev pub value : List ℕ → List P → Product → P
  value ρ γ (pt g) = at G.one γ g
  value ρ γ unit = G.one
  value ρ γ (x · y) = G.times (value ρ γ x) (value ρ γ y)
  value ρ γ (inv x) = G.inverse (value ρ γ x)
  value ρ γ (x ^ e) = power G (value ρ γ x) (number G.order ρ e)

  abbrev pub Hold : List ℕ → List P → List Hypothesis → Type 0
  Hold ρ γ [] = Unit {0}
  Hold ρ γ (given c l r ∷ hs) = (value ρ γ l ≡ value ρ γ r) × Hold ρ γ hs

module _ {P : Type 0} {G : Operations P} (laws : GroupLaws G) where
  inverse_left : (x : P) → G.times (G.inverse x) x ≡ G.one
  inverse_left x = laws.commutative (G.inverse x) x ∙ laws.inverted x

  times_exchange : (x y z : P) → G.times x (G.times y z) ≡ G.times y (G.times x z)
  times_exchange x y z = sym (laws.associative x y z) ∙ (ap (λ u. G.times u z) (laws.commutative x y) ∙ laws.associative y x z)

  pub inverse_inverse : (x : P) → G.inverse (G.inverse x) ≡ x
  inverse_inverse x = sym (inverse_only laws (G.inverse x) x (inverse_left x))

  interchange : (a b c d : P) → G.times (G.times a b) (G.times c d) ≡ G.times (G.times a c) (G.times b d)
  interchange a b c d = laws.associative a b (G.times c d) ∙ (ap (G.times a) (times_exchange b c d) ∙ sym (laws.associative a c (G.times b d)))

  inverse_times : (x y : P) → G.inverse (G.times x y) ≡ G.times (G.inverse x) (G.inverse y)
  inverse_times x y =
      sym (inverse_only laws (G.times x y) (G.times (G.inverse x) (G.inverse y))
      (interchange x y (G.inverse x) (G.inverse y) ∙ (ap₂ G.times (laws.inverted x) (laws.inverted y) ∙ laws.neutral G.one)))

  inverse_one : G.inverse G.one ≡ G.one
  inverse_one = sym (inverse_only laws G.one G.one (laws.neutral G.one))

  power_inverse : (x : P) (n : ℕ) → power G (G.inverse x) n ≡ G.inverse (power G x n)
  power_inverse x n =
      inverse_only laws (power G x n) (power G (G.inverse x) n)
      (sym (power_times laws x (G.inverse x) n) ∙ (ap (λ u. power G u n) (laws.inverted x) ∙ power_of_one laws n))

  -- the power by the opposite of n
  pub power_opposite : (x : P) (n : ℕ) → power G x (G.order - n % G.order) ≡ G.inverse (power G x n)
  power_opposite x n =
      let q = G.order in
      let h : n % q < q = mod-lt n laws.some_order in
      let e : n % q + (q - n % q) ≡ q = omega arith in
      inverse_only laws (power G x n) (power G x (q - n % q))
      (ap (λ u. G.times u (power G x (q - n % q))) (sym (power_mod laws x n)) ∙ (sym (power_add laws x (n % q) (q - n % q)) ∙ (ap (power G x) e ∙ laws.whole_power x)))

  -- a signed point; a point under a product of variables; a list of terms
  abbrev signed : Bool → P → P
  signed true x = x
  signed false x = G.inverse x

  abbrev under : List ℕ → P → List ℕ → P
  under ρ x [] = x
  under ρ x (i ∷ m) = under ρ (power G x (at 0 ρ i)) m

  abbrev term_value : List ℕ → List P → Term → P
  term_value ρ γ (term s m g) = signed s (under ρ (at G.one γ g) m)

  abbrev total : List ℕ → List P → List Term → P
  total ρ γ [] = G.one
  total ρ γ (t ∷ p) = G.times (term_value ρ γ t) (total ρ γ p)

  signed_not : (s : Bool) (x : P) → signed (not s) x ≡ signed s (G.inverse x)
  signed_not true x = refl
  signed_not false x = sym (inverse_inverse x)

  signed_times : (s : Bool) (x y : P) → signed s (G.times x y) ≡ G.times (signed s x) (signed s y)
  signed_times true x y = refl
  signed_times false x y = inverse_times x y

  signed_one : (s : Bool) → signed s G.one ≡ G.one
  signed_one true = refl
  signed_one false = inverse_one

  under_times : (ρ m : List ℕ) (x y : P) → under ρ (G.times x y) m ≡ G.times (under ρ x m) (under ρ y m)
  under_times ρ [] x y = refl
  under_times ρ (i ∷ m) x y =
      ap (λ u. under ρ u m) (power_times laws x y (at 0 ρ i)) ∙ under_times ρ m (power G x (at 0 ρ i)) (power G y (at 0 ρ i))

  under_one : (ρ m : List ℕ) → under ρ G.one m ≡ G.one
  under_one ρ [] = refl
  under_one ρ (i ∷ m) = ap (λ u. under ρ u m) (power_of_one laws (at 0 ρ i)) ∙ under_one ρ m

  under_inverse : (ρ m : List ℕ) (x : P) → under ρ (G.inverse x) m ≡ G.inverse (under ρ x m)
  under_inverse ρ [] x = refl
  under_inverse ρ (i ∷ m) x = ap (λ u. under ρ u m) (power_inverse x (at 0 ρ i)) ∙ under_inverse ρ m (power G x (at 0 ρ i))

  insert_is : (ρ : List ℕ) (i : ℕ) (m : List ℕ) (x : P) → under ρ x (insert i m) ≡ under ρ (power G x (at 0 ρ i)) m
  insert_is ρ i [] x = refl
  insert_is ρ i (j ∷ m) x = go (leb i j) (insert_is ρ i m (power G x (at 0 ρ j)))
    where
      go : (b : Bool) → under ρ (power G x (at 0 ρ j)) (insert i m) ≡ under ρ (power G (power G x (at 0 ρ j)) (at 0 ρ i)) m
          → under ρ x (elim b [ true ↦ i ∷ (j ∷ m) | false ↦ j ∷ insert i m ]) ≡ under ρ (power G x (at 0 ρ i)) (j ∷ m)
      go true ih = refl
      go false ih = ih ∙ ap (λ u. under ρ u m) (power_swap laws x (at 0 ρ j) (at 0 ρ i))

  opposite_is : (s s' : Bool) (x : P) → T (opposite s s') → G.times (signed s x) (signed s' x) ≡ G.one
  opposite_is true true x t = absurd t
  opposite_is true false x t = laws.inverted x
  opposite_is false true x t = inverse_left x
  opposite_is false false x t = absurd t

  cancels_is : (ρ : List ℕ) (γ : List P) (s : Bool) (m : List ℕ) (g : ℕ) (t : Term)
      → T (cancels s m g t) → G.times (signed s (under ρ (at G.one γ g) m)) (term_value ρ γ t) ≡ G.one
  cancels_is ρ γ s m g (term s' m' g') =
      go (opposite s s') (eqb g g') (opposite_is s s' (under ρ (at G.one γ g) m)) (eqb→eq g g') (same_is m m')
    where
      go : (b c : Bool) → (T b → G.times (signed s (under ρ (at G.one γ g) m)) (signed s' (under ρ (at G.one γ g) m)) ≡ G.one)
          → (T c → g ≡ g') → (T (same m m') → m ≡ m')
          → T (elim b [ true ↦ elim c [ true ↦ same m m' | false ↦ false ] | false ↦ false ])
          → G.times (signed s (under ρ (at G.one γ g) m)) (signed s' (under ρ (at G.one γ g') m')) ≡ G.one
      go true true h e f t =
          ap₂ (λ g' m'. G.times (signed s (under ρ (at G.one γ g) m)) (signed s' (under ρ (at G.one γ g') m'))) (sym (e tt)) (sym (f t)) ∙ h tt
      go true false h e f t = absurd t
      go false c h e f t = absurd t

  join_is : (ρ : List ℕ) (γ : List P) (s : Bool) (m : List ℕ) (g : ℕ) (p : List Term)
      → total ρ γ (join s m g p) ≡ G.times (signed s (under ρ (at G.one γ g) m)) (total ρ γ p)
  join_is ρ γ s m g [] = refl
  join_is ρ γ s m g (t ∷ p) = go (cancels s m g t) (cancels_is ρ γ s m g t) (join_is ρ γ s m g p)
    where
      X : P
      X = signed s (under ρ (at G.one γ g) m)

      go : (b : Bool) → (T b → G.times X (term_value ρ γ t) ≡ G.one) → total ρ γ (join s m g p) ≡ G.times X (total ρ γ p)
          → total ρ γ (elim b [ true ↦ p | false ↦ t ∷ join s m g p ]) ≡ G.times X (G.times (term_value ρ γ t) (total ρ γ p))
      go true h ih = sym (sym (laws.associative X (term_value ρ γ t) (total ρ γ p)) ∙ (ap (λ u. G.times u (total ρ γ p)) (h tt) ∙ laws.neutral (total ρ γ p)))
      go false h ih = ap (G.times (term_value ρ γ t)) ih ∙ times_exchange (term_value ρ γ t) X (total ρ γ p)

  -- `k` puts the point x to what is left
  abbrev Puts : List ℕ → List P → (Bool → List ℕ → List Term → List Term) → P → Type 0
  Puts ρ γ k x = (s : Bool) (m : List ℕ) (rest : List Term) → total ρ γ (k s m rest) ≡ G.times (signed s (under ρ x m)) (total ρ γ rest)

  push_exponent_is : (ρ : List ℕ) (γ : List P) (e : Exponent) (k : Bool → List ℕ → List Term → List Term) (x : P)
      → Puts ρ γ k x → Puts ρ γ (push_exponent e k) (power G x (number G.order ρ e))
  push_exponent_is ρ γ (var i) k x h s m rest = h s (insert i m) rest ∙ ap (λ u. G.times (signed s u) (total ρ γ rest)) (insert_is ρ i m x)
  push_exponent_is ρ γ nil k x h s m rest =
      sym (ap (λ u. G.times u (total ρ γ rest)) (ap (λ u. signed s (under ρ u m)) (power_zero laws x) ∙ (ap (signed s) (under_one ρ m) ∙ signed_one s))
      ∙ laws.neutral (total ρ γ rest))
  push_exponent_is ρ γ unity k x h s m rest = h s m rest ∙ ap (λ u. G.times (signed s (under ρ u m)) (total ρ γ rest)) (sym (power_first laws x))
  push_exponent_is ρ γ (a ⊕ b) k x h s m rest =
      let xa = power G x (number G.order ρ a) in
      let xb = power G x (number G.order ρ b) in
      push_exponent_is ρ γ a k x h s m (push_exponent b k s m rest)
      ∙ (ap (G.times (signed s (under ρ xa m))) (push_exponent_is ρ γ b k x h s m rest)
      ∙ (sym (laws.associative (signed s (under ρ xa m)) (signed s (under ρ xb m)) (total ρ γ rest))
      ∙ ap (λ u. G.times u (total ρ γ rest))
      (sym (signed_times s (under ρ xa m) (under ρ xb m))
      ∙ ap (signed s) (sym (under_times ρ m xa xb) ∙ ap (λ u. under ρ u m) (sym (power_add laws x (number G.order ρ a) (number G.order ρ b)))))))
  push_exponent_is ρ γ (a ⊗ b) k x h s m rest =
      push_exponent_is ρ γ a (push_exponent b k) (power G x (number G.order ρ b)) (push_exponent_is ρ γ b k x h) s m rest
      ∙ ap (λ u. G.times (signed s (under ρ u m)) (total ρ γ rest)) (power_swap laws x (number G.order ρ b) (number G.order ρ a) ∙ power_mul laws x (number G.order ρ a) (number G.order ρ b))
  push_exponent_is ρ γ (⊝ a) k x h s m rest =
      let xa = power G x (number G.order ρ a) in
      push_exponent_is ρ γ a k x h (not s) m rest
      ∙ ap (λ u. G.times u (total ρ γ rest))
      (signed_not s (under ρ xa m)
      ∙ ap (signed s) (sym (under_inverse ρ m xa) ∙ ap (λ u. under ρ u m) (sym (power_opposite x (number G.order ρ a)))))

  push_is : (ρ : List ℕ) (γ : List P) (x : Product) → Puts ρ γ (push x) (value G ρ γ x)
  push_is ρ γ (pt g) s m rest = join_is ρ γ s m g rest
  push_is ρ γ unit s m rest =
      sym (ap (λ u. G.times u (total ρ γ rest)) (ap (signed s) (under_one ρ m) ∙ signed_one s) ∙ laws.neutral (total ρ γ rest))
  push_is ρ γ (x · y) s m rest =
      let vx = value G ρ γ x in
      let vy = value G ρ γ y in
      push_is ρ γ x s m (push y s m rest)
      ∙ (ap (G.times (signed s (under ρ vx m))) (push_is ρ γ y s m rest)
      ∙ (sym (laws.associative (signed s (under ρ vx m)) (signed s (under ρ vy m)) (total ρ γ rest))
      ∙ ap (λ u. G.times u (total ρ γ rest)) (sym (signed_times s (under ρ vx m) (under ρ vy m)) ∙ ap (signed s) (sym (under_times ρ m vx vy)))))
  push_is ρ γ (inv x) s m rest =
      push_is ρ γ x (not s) m rest
      ∙ ap (λ u. G.times u (total ρ γ rest)) (signed_not s (under ρ (value G ρ γ x) m) ∙ ap (signed s) (sym (under_inverse ρ m (value G ρ γ x))))
  push_is ρ γ (x ^ e) s m rest = push_exponent_is ρ γ e (push x) (value G ρ γ x) (push_is ρ γ x) s m rest

  vanishes : (ρ : List ℕ) (γ : List P) (x : Product) → push x true [] [] ≡ [] → value G ρ γ x ≡ G.one
  vanishes ρ γ x e = sym (neutral_right laws (value G ρ γ x)) ∙ (sym (push_is ρ γ x true [] []) ∙ ap (total ρ γ) e)

  pub same_of_quotient : (x y : P) → G.times x (G.inverse y) ≡ G.one → x ≡ y
  same_of_quotient x y h =
      sym (neutral_right laws x) ∙ (ap (G.times x) (sym (inverse_left y)) ∙ (sym (laws.associative x (G.inverse y) y) ∙ (ap (λ u. G.times u y) h ∙ laws.neutral y)))

  quotient_of_same : (x y : P) → x ≡ y → G.times x (G.inverse y) ≡ G.one
  quotient_of_same x y h = ap (λ u. G.times u (G.inverse y)) h ∙ laws.inverted y

  without : (ρ : List ℕ) (γ : List P) (x : Product) (hs : List Hypothesis) → Hold G ρ γ hs
      → value G ρ γ (less x hs) ≡ G.one → value G ρ γ x ≡ G.one
  without ρ γ x [] t h = h
  without ρ γ x (given c l r ∷ hs) t h = drop_it (without ρ γ (x · inv ((l · inv r) ^ c)) hs t.1 h)
    where
      Y : P
      Y = power G (G.times (value G ρ γ l) (G.inverse (value G ρ γ r))) (number G.order ρ c)

      drop_it : G.times (value G ρ γ x) (G.inverse Y) ≡ G.one → value G ρ γ x ≡ G.one
      drop_it k =
          same_of_quotient (value G ρ γ x) Y k
          ∙ (ap (λ u. power G u (number G.order ρ c)) (quotient_of_same (value G ρ γ l) (value G ρ γ r) t.0) ∙ power_of_one laws (number G.order ρ c))

  -- The solver: x and y are equal where that follows from the hypotheses, each raised to its exponent.
  pub solve : (ρ : List ℕ) (γ : List P) (x y : Product) (hs : List Hypothesis) → Hold G ρ γ hs
      → push (less (x · inv y) hs) true [] [] ≡ [] → value G ρ γ x ≡ value G ρ γ y
  solve ρ γ x y hs t e = same_of_quotient (value G ρ γ x) (value G ρ γ y) (without ρ γ (x · inv y) hs t (vanishes ρ γ (less (x · inv y) hs) e))

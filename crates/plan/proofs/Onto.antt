-- Distinct numbers below n, n of them, are all of the numbers below n; so a permutation has an inverse.
use Rattle.std.proofs.Common.{◌≡◌, ℕ, zero, suc, ◌<◌, ◌≤◌, cond, eqb, ◌⊎◌, List, sym, ap, ◌∙◌, inl, inr, ⊎_elim, arith}
use Rattle.std.proofs.lemmas.Bool.{cases_eq, cases_lt}
use Rattle.std.proofs.lemmas.Bool.Decides.{nat_tests}
use Rattle.plan.specs.Plans.{at, Inverse, Permutation}

-- f with the value n out of the way
abbrev closed : ℕ → (ℕ → ℕ) → ℕ → ℕ
closed n f x = cond (eqb (f x) n) (f n) (f x)

closed_at : (n : ℕ) (f : ℕ → ℕ) (x : ℕ) → ((f x ≡ n) × (closed n f x ≡ f n)) ⊎ ((f x ≡ n → ⊥) × (closed n f x ≡ f x))
closed_at n f x = ⊎_elim (λ e. inl (e, grind (arith, nat_tests))) (λ d. inr (d, grind (arith, nat_tests))) (cases_eq (f x) n)

closed_below : (n : ℕ) (f : ℕ → ℕ) → ((x : ℕ) → x < suc n → f x < suc n) → ((x y : ℕ) → x < suc n → y < suc n → f x ≡ f y → x ≡ y) → (x : ℕ) → x < n → closed n f x < n
closed_below n f b d x h =
    let bx = b x (omega arith) in
    let bn = b n (omega arith) in
    let dx = d x n (omega arith) (omega arith) in
    ⊎_elim (λ c. let c0 = c.0 in let c1 = c.1 in grind arith) (λ c. let c0 = c.0 in let c1 = c.1 in grind arith) (closed_at n f x)

closed_distinct : (n : ℕ) (f : ℕ → ℕ) → ((x y : ℕ) → x < suc n → y < suc n → f x ≡ f y → x ≡ y) → (x y : ℕ) → x < n → y < n → closed n f x ≡ closed n f y → x ≡ y
closed_distinct n f d x y h k e =
    let dxy = d x y (omega arith) (omega arith) in
    let dxn = d x n (omega arith) (omega arith) in
    let dny = d n y (omega arith) (omega arith) in
    ⊎_elim
    (λ a. let a0 = a.0 in let a1 = a.1 in ⊎_elim (λ b. let b0 = b.0 in let b1 = b.1 in grind arith) (λ b. let b0 = b.0 in let b1 = b.1 in grind arith) (closed_at n f y))
    (λ a. let a0 = a.0 in let a1 = a.1 in ⊎_elim (λ b. let b0 = b.0 in let b1 = b.1 in grind arith) (λ b. let b0 = b.0 in let b1 = b.1 in grind arith) (closed_at n f y))
    (closed_at n f x)

onto : (n : ℕ) (f : ℕ → ℕ) → ((x : ℕ) → x < n → f x < n) → ((x y : ℕ) → x < n → y < n → f x ≡ f y → x ≡ y) → (y : ℕ) → y < n → (x : ℕ) × (x < n) × (f x ≡ y)
onto zero f b d y h = absurd (omega arith)
onto (suc n) f b d y h =
    let below = closed_below n f b d in
    let apart = closed_distinct n f d in
    let bn = b n (omega arith) in
    ⊎_elim
    (λ e. (n, omega arith, e))
    (λ ne.
    ⊎_elim
    (λ yn. let r = onto n (closed n f) below apart (f n) (omega arith) in
    let l = r.1 in let e = r.2 in let dx = d r.0 n (omega arith) (omega arith) in
    (r.0, omega arith, ⊎_elim (λ c. c.0 ∙ sym yn) (λ c. absurd (let z = dx (sym c.1 ∙ e) in omega arith)) (closed_at n f r.0)))
    (λ yn. let r = onto n (closed n f) below apart y (omega arith) in
    let l = r.1 in
    (r.0, omega arith, ⊎_elim (λ c. absurd (ne (sym c.1 ∙ r.2))) (λ c. sym c.1 ∙ r.2) (closed_at n f r.0)))
    (cases_eq y n))
    (cases_eq (f n) y)

-- what takes each entry back to its place is the inverse
pub inverse_from : (n : ℕ) (p : List ℕ) (q : ℕ → ℕ) → Permutation n p → ((x : ℕ) → x < n → q (at p x) ≡ x) → Inverse n (at p) q
inverse_from n p q v b =
    record {
      to = v.below;
      fro = λ y h. let r = onto n (at p) v.below v.distinct y h in let l = r.1 in let e = sym (ap q r.2) ∙ b r.0 r.1 in omega arith;
      back = b;
      forth = λ y h. let r = onto n (at p) v.below v.distinct y h in ap (λ z. at p (q z)) (sym r.2) ∙ ap (at p) (b r.0 r.1) ∙ r.2;
    }

-- there is one: the place of y, looked for among the first k
place : ℕ → (ℕ → ℕ) → ℕ → ℕ
place zero f y = 0
place (suc k) f y = cond (eqb (f k) y) k (place k f y)

place_is : (n k : ℕ) (f : ℕ → ℕ) → ((x y : ℕ) → x < n → y < n → f x ≡ f y → x ≡ y) → (x : ℕ) → x < k → k ≤ n → place k f (f x) ≡ x
unfolding place
place_is n zero f d x h l = absurd (omega arith)
place_is n (suc k) f d x h l =
    let e = d k x (omega arith) (omega arith) in
    ⊎_elim
    (λ b. let r = place_is n k f d x b (omega arith) in grind (arith, nat_tests))
    (λ b. let z : k ≡ x = omega arith in grind (arith, nat_tests))
    (cases_lt x k)

pub inverse_of : (n : ℕ) (p : List ℕ) → Permutation n p → (q : ℕ → ℕ) × Inverse n (at p) q
inverse_of n p v = (place n (at p), inverse_from n p (place n (at p)) v (λ x h. place_is n n (at p) v.distinct x h (omega arith)))

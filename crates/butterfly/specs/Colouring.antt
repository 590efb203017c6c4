-- Halves for the two ends of each pair and for partners, by taking the pairs out.
use Rattle.std.specs.Prelude.{◌≡◌, ℕ, zero, suc, ◌+◌, ◌-◌, ◌*◌, ◌<◌, ◌≤◌, cond, ◌≢◌, List, length, ◌==◌, nat_lt, slice_index_or, slice_set, refl}
use Rattle.std.proofs.Common.{sym, ◌∙◌, ap, subst, arith}
use Rattle.std.proofs.lemmas.List.{get_or-set_same, get_or-set_other, length-set}
use Rattle.std.proofs.lemmas.Bool.{cases_eq, cases_lt, lt-ltb, le-ltb, cond-true, cond-false}
use Rattle.std.proofs.lemmas.Bool.Decides.{nat_tests}
use Rattle.plan.specs.Plans.{at}
use Rattle.butterfly.specs.declared.Half.{Half}
use Rattle.butterfly.specs.declared.Half.TheVariants.{Even, Odd}
use Rattle.butterfly.specs.Halves.{side, other, sides}
use Rattle.butterfly.specs.Colours.{Matching, Coloured, first_half, assign, assigned, Contracted}

-- u makes partners as t does, but joins the partners of 2 * j and of 2 * j + 1
record Joined (j : ℕ) (t u : ℕ → ℕ) : Type 0 where
  pub one : t (2 * j) < 2 * j → u (t (2 * j)) ≡ t (2 * j + 1)
  pub two : t (2 * j + 1) < 2 * j → u (t (2 * j + 1)) ≡ t (2 * j)
  pub rest : (x : ℕ) → x < 2 * j → (x ≢ t (2 * j)) → (x ≢ t (2 * j + 1)) → u x ≡ t x

matching_joined : (j : ℕ) (t u : ℕ → ℕ) → Matching (suc j) t → Joined j t u → Matching j u
matching_joined j t u m w =
    let a2 = m.twice (2 * j) (omega arith) in
    let b2 = m.twice (2 * j + 1) (omega arith) in
    let aw = m.within (2 * j) (omega arith) in
    let bw = m.within (2 * j + 1) (omega arith) in
    let an = m.apart (2 * j) (omega arith) in
    let bn = m.apart (2 * j + 1) (omega arith) in
    record {
      within = λ x h.
          let xw = m.within x (omega arith) in
          let xn = m.apart x (omega arith) in
          let x2 = m.twice x (omega arith) in
          let c = cases_eq x (t (2 * j)) in
          let d = cases_eq x (t (2 * j + 1)) in
          let wr = w.rest x h in
          grind arith;
      apart = λ x h e.
          let xn = m.apart x (omega arith) in
          let x2 = m.twice x (omega arith) in
          let c = cases_eq x (t (2 * j)) in
          let d = cases_eq x (t (2 * j + 1)) in
          let wr = w.rest x h in
          grind arith;
      twice = λ x h.
          let xw = m.within x (omega arith) in
          let x2 = m.twice x (omega arith) in
          let c = cases_eq x (t (2 * j)) in
          let d = cases_eq x (t (2 * j + 1)) in
          let wr = w.rest x h in
          let wt = w.rest (t x) in
          grind arith;
    }

coloured_none : (t c : ℕ → ℕ) → c 0 ≡ 0 → Coloured 0 t c
coloured_none t c z = record { first = z; neighbours = λ i h. omega arith; partners = λ x h. omega arith }

-- the colours d of u, with those of 2 * j and 2 * j + 1 added
record Added (j : ℕ) (t c d : ℕ → ℕ) : Type 0 where
  pub below : (x : ℕ) → x < 2 * j → c x ≡ d x
  pub left : t (2 * j) < 2 * j → c (2 * j) + d (t (2 * j)) ≡ 1
  pub alone : (t (2 * j) < 2 * j → ⊥) → c (2 * j) ≡ 0
  pub right : c (2 * j) + c (2 * j + 1) ≡ 1

coloured_added : (j : ℕ) (t u c d : ℕ → ℕ) → Matching (suc j) t → Joined j t u → Coloured j u d → Added j t c d → Coloured (suc j) t c
coloured_added j t u c d m w k a =
    let a2 = m.twice (2 * j) (omega arith) in
    let b2 = m.twice (2 * j + 1) (omega arith) in
    let aw = m.within (2 * j) (omega arith) in
    let bw = m.within (2 * j + 1) (omega arith) in
    let an = m.apart (2 * j) (omega arith) in
    let bn = m.apart (2 * j + 1) (omega arith) in
    let lt = cases_lt (t (2 * j)) (2 * j) in
    let al = a.left in
    let aa = a.alone in
    let ar = a.right in
    record {
      first =
          let z = cases_eq j 0 in
          let b0 = a.below 0 in
          let kf = k.first in
          grind arith;
      neighbours = λ i h.
          let z = cases_eq i j in
          let b0 = a.below (2 * i) in
          let b1 = a.below (2 * i + 1) in
          let kn = k.neighbours i in
          grind arith;
      partners = λ x h.
          let xw = m.within x h in
          let x2 = m.twice x h in
          let z = cases_lt x (2 * j) in
          let e = cases_eq x (t (2 * j)) in
          let f = cases_eq x (t (2 * j + 1)) in
          let bx = a.below x in
          let bt = a.below (t x) in
          let ba = a.below (t (2 * j)) in
          let bb = a.below (t (2 * j + 1)) in
          let kx = k.partners x in
          let ka = k.partners (t (2 * j)) in
          let wr = w.rest x in
          let wo = w.one in
          grind arith;
    }

-- there are colours, as functions
abbrev joined : ℕ → (ℕ → ℕ) → ℕ → ℕ
joined j t x = cond (x == t (2 * j)) (t (2 * j + 1)) (cond (x == t (2 * j + 1)) (t (2 * j)) (t x))

joined_is : (j : ℕ) (t : ℕ → ℕ) → Matching (suc j) t → Joined j t (joined j t)
joined_is j t m =
    let q = m.twice (2 * j) (omega arith) in
    let r = m.twice (2 * j + 1) (omega arith) in
    record {
      one = λ h. grind (arith, nat_tests);
      two = λ h. grind (arith, nat_tests);
      rest = λ x h n o. grind (arith, nat_tests);
    }

abbrev extended : ℕ → (ℕ → ℕ) → (ℕ → ℕ) → ℕ → ℕ
extended j t r x =
    let a = cond (nat_lt (t (2 * j)) (2 * j)) (1 - r (t (2 * j))) 0 in
    cond (nat_lt x (2 * j)) (r x) (cond (x == 2 * j) a (1 - a))

extended_is : (j : ℕ) (t u r : ℕ → ℕ) → Coloured j u r → Added j t (extended j t r) r
extended_is j t u r k =
    let bit = k.partners (t (2 * j)) in
    record {
      below = λ x h. grind (arith, nat_tests);
      left = λ h. grind (arith, nat_tests);
      alone = λ h. grind (arith, nat_tests);
      right = grind (arith, nat_tests);
    }

pub coloured : (j : ℕ) (t : ℕ → ℕ) → Matching j t → (c : ℕ → ℕ) × Coloured j t c
coloured zero t m = (λ x. 0, coloured_none t (λ x. 0) refl)
coloured (suc j) t m =
    let w = joined_is j t m in
    let r = coloured j (joined j t) (matching_joined j t (joined j t) m w) in
    (extended j t r.0, coloured_added j t (joined j t) (extended j t r.0) r.0 m w r.1 (extended_is j t (joined j t) r.0 r.1))

-- the same on lists, as the code has them
joined_lists : (t : List ℕ) (i a b : ℕ) → Matching (suc i) (at t) → 2 * suc i ≤ length t → a ≡ at t (2 * i) → b ≡ at t (2 * i + 1) → Joined i (at t) (at (slice_set (slice_set t a b) b a))
joined_lists t i a b m h p q =
    let a2 = m.twice (2 * i) (omega arith) in
    let b2 = m.twice (2 * i + 1) (omega arith) in
    let aw = m.within (2 * i) (omega arith) in
    let bw = m.within (2 * i + 1) (omega arith) in
    record {
      one = λ l. grind (arith, get_or-set_same, get_or-set_other, length-set);
      two = λ l. grind (arith, get_or-set_same, get_or-set_other, length-set);
      rest = λ x l n o. grind (arith, get_or-set_same, get_or-set_other, length-set);
    }

-- the last pair a pair of t: nothing is joined
joined_alone : (t : ℕ → ℕ) (j : ℕ) → Matching (suc j) t → 2 * j ≤ t (2 * j) → Joined j t t
joined_alone t j m h =
    let aw = m.within (2 * j) (omega arith) in
    let an = m.apart (2 * j) (omega arith) in
    let a2 = m.twice (2 * j) (omega arith) in
    record { one = λ l. absurd (omega arith); two = λ l. grind arith; rest = λ x l n o. refl }

other_side : (h : Half) → side h + side (other h) ≡ 1
other_side Even = refl
other_side Odd = refl

added_lists : (t : ℕ → ℕ) (c : List Half) (i : ℕ) (v w : Half) → 2 * suc i ≤ length c → side v + side w ≡ 1 →
    (t (2 * i) < 2 * i → side v + sides c (t (2 * i)) ≡ 1) → ((t (2 * i) < 2 * i → ⊥) → side v ≡ 0) →
    Added i t (sides (slice_set (slice_set c (2 * i) v) (2 * i + 1) w)) (sides c)
added_lists t c i v w h s l n =
    record {
      below = λ x b. grind (arith, get_or-set_same, get_or-set_other, length-set);
      left = λ b. grind (arith, get_or-set_same, get_or-set_other, length-set);
      alone = λ b. grind (arith, get_or-set_same, get_or-set_other, length-set);
      right = grind (arith, get_or-set_same, get_or-set_other, length-set);
    }

-- one pair assigned
added_assign : (t : List ℕ) (j : ℕ) (c : List Half) → 2 * suc j ≤ length c → Added j (at t) (sides (assign t j c)) (sides c)
added_assign t j c h =
    added_lists (at t) c j (first_half t j c) (other (first_half t j c)) h (other_side (first_half t j c))
    (λ l. let o = other_side (slice_index_or c (at t (2 * j)) Even) in ap (λ v. side v + sides c (at t (2 * j))) (cond-true _ _ _ (lt-ltb _ _ l)) ∙ omega arith)
    (λ n. ap side (cond-false _ _ _ (le-ltb (at t (2 * j)) (2 * j) (omega arith))))

length_assign : (t : List ℕ) (j : ℕ) (c : List Half) → length (assign t j c) ≡ length c
length_assign t j c = simp length-set

assign_like : (t u : List ℕ) (j : ℕ) (c : List Half) → at u (2 * j) ≡ at t (2 * j) → assign u j c ≡ assign t j c
assign_like t u j c e =
    ap (λ a. let f = cond (nat_lt a (2 * j)) (other (slice_index_or c a Even)) Even in slice_set (slice_set c (2 * j) f) (2 * j + 1) (other f)) e

assigned_like : (r : ℕ) (t u : List ℕ) (j : ℕ) (c : List Half) → ((i : ℕ) → j ≤ i → at u (2 * i) ≡ at t (2 * i)) → assigned u j r c ≡ assigned t j r c
unfolding assigned
assigned_like zero t u j c e = refl
assigned_like (suc r) t u j c e =
    ap (assigned u (j + 1) r) (assign_like t u j c (e j (omega arith))) ∙ assigned_like r t u (j + 1) (assign t j c) (λ i h. e i (omega arith))

assigned_suc : (t : List ℕ) (j r : ℕ) (c : List Half) → assigned t j (suc r) c ≡ assigned t (j + 1) r (assign t j c)
unfolding assigned
assigned_suc t j r c = refl

assigned_zero : (t : List ℕ) (j : ℕ) (c : List Half) → assigned t j 0 c ≡ c
unfolding assigned
assigned_zero t j c = refl

pub assigned_step : (t : List ℕ) (j m : ℕ) (c : List Half) → j < m → assigned t j (m - j) c ≡ assigned t (j + 1) (m - (j + 1)) (assign t j c)
assigned_step t j m c h = let e : m - j ≡ suc (m - (j + 1)) = omega arith in ap (λ r. assigned t j r c) e ∙ assigned_suc t j (m - (j + 1)) c

pub assigned_all : (t : List ℕ) (j m : ℕ) (c : List Half) → m ≤ j → assigned t j (m - j) c ≡ c
assigned_all t j m c h = let e : m - j ≡ 0 = omega arith in ap (λ r. assigned t j r c) e ∙ assigned_zero t j c

pub contracted_none : (m : ℕ) (t : List ℕ) → Contracted m m t (at t)
contracted_none m t c l k = subst (λ (z : List Half). Coloured m (at t) (sides z)) (sym (assigned_all t m m c (omega arith))) k

-- one pair taken out, whichever way
contracted_by : (j m : ℕ) (t u : List ℕ) (o : ℕ → ℕ) → j < m → Matching (suc j) (at t) → Joined j (at t) (at u) → ((i : ℕ) → j ≤ i → at u (2 * i) ≡ at t (2 * i)) →
    Contracted (suc j) m t o → Contracted j m u o
contracted_by j m t u o h q w e g c l k =
    let s : j + 1 ≡ suc j = omega arith in
    let p = assigned_step u j m c h ∙ assigned_like (m - (j + 1)) t u (j + 1) (assign u j c) (λ i b. e i (omega arith)) ∙ ap (assigned t (j + 1) (m - (j + 1))) (assign_like t u j c (e j (omega arith)))
    ∙ ap (λ i. assigned t i (m - i) (assign t j c)) s in
    let n = length_assign t j c in
    subst (λ (z : List Half). Coloured m o (sides z)) (sym p)
    (g (assign t j c) (omega arith) (coloured_added j (at t) (at u) (sides (assign t j c)) (sides c) q w k (added_assign t j c (omega arith))))

-- the turns of the loop
abbrev Turned : ℕ → ℕ → List ℕ → (ℕ → ℕ) → Type 0
Turned j m t o = (j ≤ m) × Matching j (at t) × Contracted j m t o

turn_joined : (j m a b : ℕ) (t : List ℕ) (o : ℕ → ℕ) → 2 * m ≤ length t → a ≡ at t (2 * j) → b ≡ at t (2 * j + 1) → a < 2 * j → Turned (suc j) m t o → Turned j m (slice_set (slice_set t a b) b a) o
turn_joined j m a b t o l p r s g =
    let q = g.1 in
    let h = g.0 in
    let bw = q.within (2 * j + 1) (omega arith) in
    let bn = q.apart (2 * j + 1) (omega arith) in
    let b2 = q.twice (2 * j + 1) (omega arith) in
    let a2 = q.twice (2 * j) (omega arith) in
    let low : b < 2 * j = grind arith in
    let w = joined_lists t j a b q (omega arith) p r in (
      omega arith,
      matching_joined j (at t) (at (slice_set (slice_set t a b) b a)) q w,
      contracted_by j m t (slice_set (slice_set t a b) b a) o (omega arith) q w
          (λ i k. let na : 2 * i ≢ a = omega arith in let nb : 2 * i ≢ b = omega arith in
          get_or-set_other (slice_set t a b) b (2 * i) a 0 nb ∙ get_or-set_other t a (2 * i) b 0 na)
          g.2,
    )

turn_alone : (j m : ℕ) (t : List ℕ) (o : ℕ → ℕ) → 2 * j ≤ at t (2 * j) → Turned (suc j) m t o → Turned j m t o
turn_alone j m t o s g =
    let h = g.0 in
    let w = joined_alone (at t) j g.1 s in
    (omega arith, matching_joined j (at t) (at t) g.1 w, contracted_by j m t t o (omega arith) g.1 w (λ i k. refl) g.2)

-- as the loop meets them, at n and j = n - 1
pub turn_then : (n j m a b : ℕ) (t : List ℕ) (o : ℕ → ℕ) → n ≡ suc j → 2 * m ≤ length t → a ≡ at t (2 * j) → b ≡ at t (2 * j + 1) → a < 2 * j →
    Turned n m t o → Turned j m (slice_set (slice_set t a b) b a) o
turn_then n j m a b t o e l p r s g = turn_joined j m a b t o l p r s (subst (λ (z : ℕ). Turned z m t o) e g)

pub turn_else : (n j m : ℕ) (t : List ℕ) (o : ℕ → ℕ) → n ≡ suc j → 2 * j ≤ at t (2 * j) → Turned n m t o → Turned j m t o
turn_else n j m t o e s g = turn_alone j m t o s (subst (λ (z : ℕ). Turned z m t o) e g)

pub contracted_all : (m : ℕ) (t : List ℕ) (c d : List Half) (o : ℕ → ℕ) → Contracted 0 m t o → 2 * m ≤ length c → sides c 0 ≡ 0 → d ≡ assigned t 0 m c → Coloured m o (sides d)
contracted_all m t c d o g l z e =
    let n : m - 0 ≡ m = omega arith in
    subst (λ (y : List Half). Coloured m o (sides y)) (ap (λ r. assigned t 0 r c) n ∙ sym e) (g c l (coloured_none (at t) (sides c) z))

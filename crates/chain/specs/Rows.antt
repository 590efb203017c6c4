-- The chain brings every permutation about, row by row.
use Rattle.std.specs.Prelude.{◌≡◌, ℕ, zero, suc, ◌+◌, ◌-◌, ◌*◌, ◌/◌, ◌<◌, ◌≤◌, true, false, cond, List, [], ◌∷◌, ◌++◌, map, length, ◌==◌, refl}
use Rattle.std.proofs.Common.{sym, ◌∙◌, ap, subst, ⊎_elim, arith, suc-mul, mul-suc, mul-one, mul-le-mul_right}
use Rattle.std.proofs.Math.Nat.{mul-sub}
use Rattle.std.specs.List.{range_with_len}
use Rattle.std.proofs.lemmas.Bool.{cases_eq, ne_eqb}
use Rattle.std.proofs.lemmas.Bool.Decides.{nat_tests}
use Rattle.std.proofs.lemmas.List.{length-append}
use Rattle.std.proofs.lemmas.List.FromFn.{length-map-range_with_len}
use Rattle.plan.specs.declared.Setting.{Setting}
use Rattle.plan.specs.declared.Setting.TheVariants.{Straight, Swapped}
use Rattle.plan.specs.declared.Comparator.{Comparator}
use Rattle.plan.specs.Plans.{on, at, crossed, came_from, source, Within, Permutation, Lawful}
use Rattle.plan.proofs.Running.{source_append, within_append, brings_from}
use Rattle.chain.specs.Listing.{chain_from, chain, Fits}
use Rattle.chain.specs.Stages.{row_setting, Permutes, BringsFrom}

through : (j w k x : ℕ) → came_from (on j k) (row_setting w k) x ≡ cond (k == w) (crossed (on j k) x) x
through j w k x = elim (k == w) as (λ b. came_from (on j k) (cond b Swapped Straight) x ≡ cond b (crossed (on j k) x) x) [ true ↦ refl | false ↦ refl ]

-- the row of wire j, whose comparator with wire w is swapped
row_past : (j w a m x : ℕ) → w < a → source (map (on j) (range_with_len a m)) (map (row_setting w) (range_with_len a m)) x ≡ x
unfolding source
row_past j w a zero x h = refl
row_past j w a (suc m) x h = let e = row_past j w (a + 1) m x (omega arith) in rw e (through j w a x ∙ grind (arith, nat_tests))

row_at : (j w a m x : ℕ) → a ≤ w → w < a + m → source (map (on j) (range_with_len a m)) (map (row_setting w) (range_with_len a m)) x ≡ crossed (on j w) x
unfolding source
row_at j w a zero x h l = absurd (omega arith)
row_at j w a (suc m) x h l =
    ⊎_elim
    (λ e. let r = row_past j w (a + 1) m x (omega arith) in rw r (through j w a x ∙ grind (arith, nat_tests)))
    (λ n. let d : a ≡ w → ⊥ = n in let r = row_at j w (a + 1) m x (omega arith) (omega arith) in
    rw r (through j w a (crossed (on j w) x) ∙ rw (ne_eqb a w d)))
    (cases_eq a w)

row : (j w m x : ℕ) → j ≤ w → w < j + suc m → source (map (on j) (range_with_len (j + 1) m)) (map (row_setting w) (range_with_len (j + 1) m)) x ≡ crossed (on j w) x
row j w m x h l =
    ⊎_elim
    (λ e. row_past j w (j + 1) m x (omega arith) ∙ grind (arith, nat_tests))
    (λ n. row_at j w (j + 1) m x (omega arith) (omega arith))
    (cases_eq j w)

-- the rest of the chain leaves the wires before it
abbrev Above : ℕ → List Comparator → Type 0
Above j [] = Unit {0}
Above j (c ∷ cs) = (j ≤ c.first) × (j ≤ c.second) × Above j cs

above_append : (j : ℕ) (cs ds : List Comparator) → Above j cs → Above j ds → Above j (cs ++ ds)
above_append j [] ds a b = b
above_append j (c ∷ cs) ds a b = (a.0, a.1, above_append j cs ds a.2 b)

above_row : (j i a m : ℕ) → j ≤ i → j ≤ a → Above j (map (on i) (range_with_len a m))
above_row j i a zero h l = tt
above_row j i a (suc m) h l = (h, l, above_row j i (a + 1) m h (omega arith))

above_chain : (j i m : ℕ) → j ≤ i → Above j (chain_from i m)
unfolding chain_from
above_chain j i zero h = tt
above_chain j i (suc m) h =
    above_append j (map (on i) (range_with_len (i + 1) m)) (chain_from (i + 1) m) (above_row j i (i + 1) m h (omega arith)) (above_chain j (i + 1) m (omega arith))

passed : (j x : ℕ) (c : Comparator) (s : Setting) → j ≤ c.first → j ≤ c.second → x < j → came_from c s x ≡ x
passed j x c Straight h l b = refl
passed j x c Swapped h l b = grind (arith, nat_tests)

untouched : (j : ℕ) (cs : List Comparator) (ss : List Setting) (x : ℕ) → Above j cs → x < j → source cs ss x ≡ x
unfolding source
untouched j [] ss x a h = refl
untouched j (c ∷ cs) [] x a h = refl
untouched j (c ∷ cs) (s ∷ ss) x a h = ap (came_from c s) (untouched j cs ss x a.2 h) ∙ passed j x c s a.0 a.1 h

-- p once wire j has its item
abbrev pub settled : ℕ → (ℕ → ℕ) → ℕ → ℕ
settled j p x = crossed (on j (p j)) (p x)

pub permutes_rest : (j m : ℕ) (p : ℕ → ℕ) → Permutes j (j + suc m) p → Permutes (j + 1) (j + 1 + m) (settled j p)
permutes_rest j m p s =
    let jl = s.low j (omega arith) (omega arith) in
    let jh = s.high j (omega arith) (omega arith) in
    record {
      low = λ x h l. let xl = s.low x (omega arith) (omega arith) in let d = s.distinct j x (omega arith) (omega arith) (omega arith) (omega arith) in grind (arith, nat_tests);
      high = λ x h l. let xh = s.high x (omega arith) (omega arith) in grind (arith, nat_tests);
      distinct = λ x y hx lx hy ly e.
          let d = s.distinct x y (omega arith) (omega arith) (omega arith) (omega arith) in
          let dx = s.distinct j x (omega arith) (omega arith) (omega arith) (omega arith) in
          let dy = s.distinct j y (omega arith) (omega arith) (omega arith) (omega arith) in
          grind (arith, nat_tests);
    }

crossed_twice : (a b x : ℕ) → crossed (on a b) (crossed (on a b) x) ≡ x
crossed_twice a b x = grind (arith, nat_tests)

crossed_first : (a b : ℕ) → crossed (on a b) a ≡ b
crossed_first a b = grind (arith, nat_tests)

-- one row, and any settings that do for the rest
pub chain_more : (j m : ℕ) (p : ℕ → ℕ) (ss : List Setting) → Permutes j (j + suc m) p → BringsFrom (j + 1) m ss (settled j p) →
    BringsFrom j (suc m) (map (row_setting (p j)) (range_with_len (j + 1) m) ++ ss) p
unfolding chain_from
chain_more j m p ss s r x h l =
    source_append (map (on j) (range_with_len (j + 1) m)) (chain_from (j + 1) m) (map (row_setting (p j)) (range_with_len (j + 1) m)) ss x
    (length-map-range_with_len (row_setting (p j)) (j + 1) m ∙ sym (length-map-range_with_len (on j) (j + 1) m))
    ∙ row j (p j) m (source (chain_from (j + 1) m) ss x) (s.low j (omega arith) (omega arith)) (s.high j (omega arith) (omega arith))
    ∙ ⊎_elim
    (λ e. let f : j ≡ x = e in let u = untouched (j + 1) (chain_from (j + 1) m) ss x (above_chain (j + 1) (j + 1) m (omega arith)) (omega arith) in
    ap (crossed (on j (p j))) (u ∙ sym f) ∙ crossed_first j (p j) ∙ ap p f)
    (λ n. let d : j ≡ x → ⊥ = n in ap (crossed (on j (p j))) (r x (omega arith) (omega arith)) ∙ crossed_twice j (p j) (p x))
    (cases_eq j x)

-- settings for every permutation
chain_route : (m j : ℕ) (p : ℕ → ℕ) → Permutes j (j + m) p → (ss : List Setting) × (length ss ≡ length (chain_from j m)) × BringsFrom j m ss p
unfolding chain_from
chain_route zero j p s = ([], refl, λ x h l. absurd (omega arith))
chain_route (suc m) j p s =
    let r = chain_route m (j + 1) (settled j p) (permutes_rest j m p s) in
    let e = r.1 in
    (map (row_setting (p j)) (range_with_len (j + 1) m) ++ r.0, simp (length-append, length-map-range_with_len) (omega arith), chain_more j m p r.0 s r.2)

within_row : (n j a m : ℕ) → j < a → a + m ≤ n → Within n (map (on j) (range_with_len a m))
within_row n j a zero h l = tt
within_row n j a (suc m) h l = (h, omega arith, within_row n j (a + 1) m (omega arith) (omega arith))

pub chain_within : (n j m : ℕ) → j + m ≤ n → Within n (chain_from j m)
unfolding chain_from
chain_within n j zero h = tt
chain_within n j (suc m) h =
    within_append n (map (on j) (range_with_len (j + 1) m)) (chain_from (j + 1) m) (within_row n j (j + 1) m (omega arith) (omega arith)) (chain_within n (j + 1) m (omega arith))

pub chain_count : (j m : ℕ) → 2 * length (chain_from j m) + m ≡ m * m
unfolding chain_from
chain_count j zero = refl
chain_count j (suc m) =
    let ih = chain_count (j + 1) m in
    simp (length-append, length-map-range_with_len, suc-mul, mul-suc) (omega arith)

pub permutes_of : (n : ℕ) (p : List ℕ) → Permutation n p → Permutes 0 n (at p)
permutes_of n p v = record { low = λ x h l. omega arith; high = λ x h l. v.below x l; distinct = λ x y hx lx hy ly e. v.distinct x y lx ly e }

pub chain_long : (n : ℕ) → length (chain n) ≡ (n * (n - 1)) / 2
chain_long n = let k = chain_count 0 n in let d = mul-sub n n 1 in let o = mul-one n in omega arith

pub chain_lawful : (n : ℕ) → Fits n → Lawful n (chain n)
chain_lawful n f =
    let k = chain_count 0 n in
    let q = mul-le-mul_right n f.0 in
    let r = mul-le-mul_right n f.1 in
    let w = chain_within n 0 n (omega arith) in
    let f0 = f.0 in
    let f1 = f.1 in
    record {
      wide = f.0;
      narrow = f.1;
      some = omega arith;
      few = omega arith;
      within = w;
      routes = λ p v.
          let r = chain_route n 0 (at p) (subst (λ (z : ℕ). Permutes 0 z (at p)) (omega arith) (permutes_of n p v)) in
          (r.0, brings_from n (chain n) r.0 p w r.1 v.long (λ x h. r.2 x (omega arith) (omega arith)));
    }

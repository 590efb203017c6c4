-- Computed tests over all polynomials: t^8191 is 1, and every polynomial but 0 is a power of t.
use Rattle.std.specs.Prelude.{◌≡◌, ℕ, zero, suc, ◌/◌, ◌%◌, ◌<◌, Bool, T, ◌==◌, nat_lt, refl}
use Rattle.std.proofs.Common.{sym, ap, ◌∙◌, not-suc-le-zero, arith, ltb→lt, eqb→eq}
use Rattle.modular.specs.Tests.{both, both_first, both_second, every, every_at}
use Rattle.polynomial.specs.Product.{times_t, product, shifted}

-- a table, by the binary digits of the place
data Tree : Type 0 where
  leaf : Tree
  tip : ℕ → Tree
  node : Tree → Tree → Tree

look : ℕ → Tree → ℕ
look k leaf = 0
look k (tip v) = v
look k (node l r) = elim (k % 2) [ zero ↦ look (k / 2) l | suc _ ↦ look (k / 2) r ]

left : Tree → Tree
left leaf = leaf
left (tip v) = leaf
left (node l r) = l

right : Tree → Tree
right leaf = leaf
right (tip v) = leaf
right (node l r) = r

-- v at the place k, which has n binary digits
put : ℕ → ℕ → ℕ → Tree → Tree
put zero k v t = tip v
put (suc n) k v t = elim (k % 2) [ zero ↦ node (put n (k / 2) v (left t)) (right t) | suc _ ↦ node (left t) (put n (k / 2) v (right t)) ]

-- n powers of t from the k-th on, which is a: by their exponents, and the exponents by them
fill_powers : ℕ → ℕ → ℕ → Tree → Tree
fill_powers zero k a t = t
fill_powers (suc n) k a t = fill_powers n (suc k) (times_t a) (put 13 k a t)

fill_logarithms : ℕ → ℕ → ℕ → Tree → Tree
fill_logarithms zero k a t = t
fill_logarithms (suc n) k a t = fill_logarithms n (suc k) (times_t a) (put 13 a k t)

powers : Tree
powers = fill_powers 8191 0 1 leaf

logarithms : Tree
logarithms = fill_logarithms 8191 0 1 leaf

range_test : ℕ → Bool
range_test a = nat_lt (times_t a) 8192

nonzero_test : ℕ → Bool
nonzero_test a = nat_lt 0 (times_t (suc a))

one_test : ℕ → Bool
one_test b = product 13 1 b == b

power_test : ℕ → Bool
power_test k = look (suc k) powers == times_t (look k powers)

logarithm_test : ℕ → Bool
logarithm_test a = both (nat_lt (look (suc a) logarithms) 8191) (look (look (suc a) logarithms) powers == suc a)

range_passes : T (every range_test 8192)
unfolding range_test times_t
range_passes = tt

nonzero_passes : T (every nonzero_test 8191)
unfolding nonzero_test times_t
nonzero_passes = tt

one_passes : T (every one_test 8192)
unfolding one_test product times_t
one_passes = tt

first_power : look 0 powers ≡ 1
unfolding powers fill_powers put look left right times_t
first_power = refl

power_passes : T (every power_test 8190)
unfolding power_test powers fill_powers put look left right times_t
power_passes = tt

logarithm_passes : T (every logarithm_test 8191)
unfolding logarithm_test logarithms powers fill_powers fill_logarithms put look left right times_t
logarithm_passes = tt

pub times_t_below : (a : ℕ) → a < 8192 → times_t a < 8192
unfolding range_test
times_t_below a h = ltb→lt _ _ (every_at range_test 8192 range_passes a h)

pub times_t_nonzero : (a : ℕ) → 0 < a → a < 8192 → 0 < times_t a
unfolding nonzero_test
times_t_nonzero zero p h = absurd (not-suc-le-zero p)
times_t_nonzero (suc a) p h = ltb→lt _ _ (every_at nonzero_test 8191 nonzero_passes a (omega arith))

pub one_times : (b : ℕ) → b < 8192 → product 13 1 b ≡ b
unfolding one_test
one_times b h = eqb→eq _ _ (every_at one_test 8192 one_passes b h)

powers_are : (k : ℕ) → k < 8191 → look k powers ≡ shifted k 1
unfolding power_test shifted
powers_are zero h = first_power
powers_are (suc k) h = eqb→eq _ _ (every_at power_test 8190 power_passes k (omega arith)) ∙ ap times_t (powers_are k (omega arith))

-- the k for which a is t^k
pub logarithm : ℕ → ℕ
logarithm a = look a logarithms

pub logarithm_is : (a : ℕ) → 0 < a → a < 8192 → shifted (logarithm a) 1 ≡ a
unfolding logarithm logarithm_test
logarithm_is zero p h = absurd (not-suc-le-zero p)
logarithm_is (suc a) p h =
    let t = every_at logarithm_test 8191 logarithm_passes a (omega arith) in
    sym (powers_are (look (suc a) logarithms) (ltb→lt _ _ (both_first _ _ t))) ∙ eqb→eq _ _ (both_second (nat_lt (look (suc a) logarithms) 8191) _ t)

pub whole_turn : shifted 8191 1 ≡ 1
unfolding shifted times_t
whole_turn = refl

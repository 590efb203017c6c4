-- A commutative group of a given order with a generator, over any carrier of points. A point is what
-- an element of an implementation means; two elements that mean one point are the same to all specifications.
use Rattle.std.specs.Prelude.{◌≡◌, ℕ, zero, suc, ◌<◌, ◌≤◌, List, length}

pub record Operations (Point : Type 0) : Type 0 where
  pub order : ℕ
  pub one : Point
  pub times : Point → Point → Point
  pub inverse : Point → Point
  pub base : Point
  pub width : ℕ
  pub code : Point → List ℕ

-- x to the n-th power
unfoldable pub power : {Point : Type 0} → Operations Point → Point → ℕ → Point
power G x zero = G.one
power G x (suc n) = G.times x (power G x n)

-- x divided by y
abbrev pub quotient : {Point : Type 0} → Operations Point → Point → Point → Point
quotient G x y = G.times x (G.inverse y)

-- What every group has to show. That every point is a power of the generator is not among it.
pub record GroupLaws {Point : Type 0} (G : Operations Point) : Type 0 where
  pub associative : (x y z : Point) → G.times (G.times x y) z ≡ G.times x (G.times y z)
  pub commutative : (x y : Point) → G.times x y ≡ G.times y x
  pub neutral : (x : Point) → G.times G.one x ≡ x
  pub inverted : (x : Point) → G.times x (G.inverse x) ≡ G.one
  pub some_order : 0 < G.order
  pub whole_power : (x : Point) → power G x G.order ≡ G.one
  pub proper : G.base ≡ G.one → ⊥
  pub some_width : 1 ≤ G.width
  pub few_width : G.width ≤ 512
  pub code_length : (x : Point) → length (G.code x) ≡ G.width
  pub code_own : (x y : Point) → G.code x ≡ G.code y → x ≡ y

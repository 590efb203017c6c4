-- The equation of a plaintext-equivalence proof: that a new ciphertext is an old one re-encrypted.
use Rattle.std.specs.Prelude.{◌≡◌, ℕ, Bool, true, false, List, [], ◌∷◌, ◌==◌}
use Rattle.elgamal.specs.declared.Ciphertext.{Ciphertext}
use Rattle.group.specs.Operations.{Operations, power, quotient}

-- the test that two lists of bytes are equal
unfoldable pub same_bytes : List ℕ → List ℕ → Bool
same_bytes [] [] = true
same_bytes [] (y ∷ ys) = false
same_bytes (x ∷ xs) [] = false
same_bytes (x ∷ xs) (y ∷ ys) = elim (x == y) [ true ↦ same_bytes xs ys | false ↦ false ]

module _ {Point : Type 0} (G : Operations Point) where
  -- the test that two points are equal, by their codes
  abbrev pub same_point : Point → Point → Bool
  same_point x y = same_bytes (G.code x) (G.code y)

  -- the key and the generator, folded by z: y^z·g
  abbrev pub folded_key : Point → ℕ → Point
  folded_key y z = G.times (power G y z) G.base

  -- the quotients of both parts, folded by z: (α'/α)^z·(β'/β)
  abbrev pub folded_quotient : Ciphertext Point → Ciphertext Point → ℕ → Point
  folded_quotient old new z = G.times (power G (quotient G new.alpha old.alpha) z) (quotient G new.beta old.beta)

  -- the answer s to the challenge c upon the commitment w, for a folded key and a folded quotient
  abbrev pub Accepted : (key quotient w : Point) (c s : ℕ) → Type 0
  Accepted key quotient w c s = power G key s ≡ G.times w (power G quotient c)

  -- the test of that equation
  abbrev pub accepted : (key quotient w : Point) (c s : ℕ) → Bool
  accepted key quotient w c s = same_point (power G key s) (G.times w (power G quotient c))

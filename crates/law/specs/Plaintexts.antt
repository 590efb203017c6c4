-- How often a point stands among plaintexts.
use Rattle.std.specs.Prelude.{ℕ, ◌+◌, cond, List, [], ◌∷◌, map}
use Rattle.elgamal.specs.Ciphertexts.{plaintext}
use Rattle.elgamal.specs.declared.Ciphertext.{Ciphertext}
use Rattle.equivalence.specs.Equations.{same_point}
use Rattle.group.specs.Operations.{Operations}

module _ {Point : Type 0} (G : Operations Point) where
  -- what ciphertexts decrypt to under the private key x
  abbrev pub plaintexts : ℕ → List (Ciphertext Point) → List Point
  plaintexts x cs = map (plaintext G x) cs

  -- points are compared by their codes
  abbrev pub often : Point → List Point → ℕ
  often m [] = 0
  often m (p ∷ ps) = cond (same_point G m p) 1 0 + often m ps

-- The bytes over which challenges are drawn, in a posting buffer.
use Rattle.std.specs.Prelude.{◌≡◌, ℕ, ◌+◌, ◌*◌, List, [], ◌∷◌, ◌++◌, length, take}
use Rattle.group.specs.Operations.{Operations}

-- the codes of some points, one after another
unfoldable pub codes : {Point : Type 0} → Operations Point → List Point → List ℕ
codes G [] = []
codes G (x ∷ xs) = G.code x ++ codes G xs

-- The points' codes were written to the buffer from `at` to `end`, and what stood before `at` stayed.
pub record Appended {Point : Type 0} (G : Operations Point) (points : List Point) (at end : ℕ) (before after : List ℕ) : Type 0 where
  pub ends : end ≡ at + length points * G.width
  pub bytes : take end after ≡ take at before ++ codes G points

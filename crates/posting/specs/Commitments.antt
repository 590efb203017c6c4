-- The commitments that a challenge is drawn over.
use Rattle.std.specs.Prelude.{List, [], ◌∷◌}
use Rattle.posting.specs.declared.drawing.Commitments.{Commitments}
use Rattle.posting.specs.declared.drawing.Commitments.TheVariants.{None, One, Two}

abbrev pub commitment_points : {Element Point : Type 0} → (Element → Point) → Commitments Element → List Point
commitment_points point None = []
commitment_points point (One w) = point w ∷ []
commitment_points point (Two w1 w2) = point w1 ∷ point w2 ∷ []

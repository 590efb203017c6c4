-- A lent list after it was cleared.
use Rattle.std.specs.Prelude.{List, length, replicate}

-- as many zeros as the list had places
abbrev pub zeros : {X : Type 0} → X → List X → List X
zeros zero xs = replicate (length xs) zero

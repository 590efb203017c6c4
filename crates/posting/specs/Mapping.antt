-- A pair whose ciphertexts are made of another's, each element by one step that may fail.
use Rattle.std.specs.Prelude.{◌⊎◌, Result}
use Rattle.elgamal.specs.Mapping.{CiphertextMapped, CiphertextUnmapped}
use Rattle.posting.specs.declared.comparison.Pair.{Pair}

module _ {X Y R : Type 0} (P : X → Result Y R → Type 0) where
  abbrev pub PairMapped : Pair X → Pair Y → Type 0
  PairMapped p q = CiphertextMapped P p.first q.first × CiphertextMapped P p.second q.second

  -- the step fails at an element
  abbrev pub PairUnmapped : Pair X → R → Type 0
  PairUnmapped p e = CiphertextUnmapped P p.first e ⊎ CiphertextUnmapped P p.second e

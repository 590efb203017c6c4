-- A message whose elements are made of another's, each by one step that may fail.
use Rattle.std.specs.Prelude.{◌⊎◌, Result}
use Rattle.equivalence.specs.Mapping.{ProofsMapped, ProofsUnmapped}
use Rattle.posting.specs.Mapping.{PairMapped, PairUnmapped}
use Rattle.prover.specs.declared.states.Message.{Message}

module _ {X Y N R : Type 0} (P : X → Result Y R → Type 0) where
  abbrev pub MessageMapped : Message X N → Message Y N → Type 0
  MessageMapped m n = PairMapped P m.outputs n.outputs × ProofsMapped P m.proofs n.proofs

  -- the step fails at an element
  abbrev pub MessageUnmapped : Message X N → R → Type 0
  MessageUnmapped m e = PairUnmapped P m.outputs e ⊎ ProofsUnmapped P m.proofs e

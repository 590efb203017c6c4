-- Proofs whose commitments are made of other proofs', each by one step that may fail; the numbers stay.
use Rattle.std.specs.Prelude.{◌≡◌, ◌⊎◌, Ok, Err, Result}
use Rattle.equivalence.specs.declared.proofs.Branch.{Branch}
use Rattle.equivalence.specs.declared.proofs.Proofs.{Proofs}

module _ {X Y N R : Type 0} (P : X → Result Y R → Type 0) where
  abbrev pub BranchMapped : Branch X N → Branch Y N → Type 0
  BranchMapped b c = P b.commitment (Ok c.commitment) × (c.challenge ≡ b.challenge) × (c.answer ≡ b.answer)

  abbrev pub ProofsMapped : Proofs X N → Proofs Y N → Type 0
  ProofsMapped p q =
      P p.equivalence.commitment (Ok q.equivalence.commitment) × (q.equivalence.answer ≡ p.equivalence.answer)
      × BranchMapped p.disjunction.first q.disjunction.first × BranchMapped p.disjunction.second q.disjunction.second

  -- the step fails at a commitment
  abbrev pub ProofsUnmapped : Proofs X N → R → Type 0
  ProofsUnmapped p e =
      P p.equivalence.commitment (Err e) ⊎ P p.disjunction.first.commitment (Err e) ⊎ P p.disjunction.second.commitment (Err e)

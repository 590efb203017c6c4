-- What the check drew, as numbers.
use Rattle.std.specs.Prelude.{ℕ, ◌+◌, List}
use Rattle.group.specs.Exponents.{Exponents}
use Rattle.group.specs.Operations.{Operations}
use Rattle.posting.specs.declared.comparison.Comparison.{Comparison}
use Rattle.source.specs.Words.{Words}
use Rattle.equivalence.specs.Judgement.{Draws, drawn_z, drawn_c}
use Rattle.equivalence.specs.declared.check.ProofDraws.{ProofDraws}
use Rattle.equivalence.specs.declared.proofs.OfBoth.{OfBoth}

abbrev pub proof_draws_meaning : {X : Type 0} → (X → ℕ) → ProofDraws X → ProofDraws ℕ
proof_draws_meaning value d = record { z = value d.z; c = d.c }

-- the two draws of one proof, from the question `first` on
abbrev pub proof_draws : {Point : Type 0} → Operations Point → Exponents → Words → Comparison Point → List Point → ℕ → ProofDraws ℕ
proof_draws G E S k commitments first = record { z = drawn_z G E S k first; c = drawn_c G E S k commitments (first + 1) }

abbrev pub draws_meaning : {X : Type 0} → (X → ℕ) → OfBoth (ProofDraws X) → Draws
draws_meaning value d = record {
  equivalence_z = value d.equivalence.z;
  equivalence_c = d.equivalence.c;
  disjunction_z = value d.disjunction.z;
  disjunction_c = d.disjunction.c;
}

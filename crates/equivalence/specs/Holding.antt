-- What it means that a comparator's proofs hold, at their own draws.
use Rattle.std.specs.Prelude.{◌≡◌, ℕ, ◌+◌, ◌^◌, ◌<◌, bit_xor}
use Rattle.elgamal.specs.Ciphertexts.{multiplied}
use Rattle.group.specs.Exponents.{Exponents}
use Rattle.group.specs.Operations.{Operations}
use Rattle.posting.specs.declared.comparison.Comparison.{Comparison}
use Rattle.source.specs.Words.{Words}
use Rattle.equivalence.specs.Equations.{folded_key, folded_quotient, Accepted}
use Rattle.equivalence.specs.Judgement.{Draws, draws}
use Rattle.equivalence.specs.declared.proofs.Branch.{Branch}
use Rattle.equivalence.specs.declared.proofs.Proofs.{Proofs}

-- a branch's numbers are fit
pub record BranchFits {Point : Type 0} (E : Exponents) (b : Branch Point ℕ) : Type 0 where
  pub challenge_below : b.challenge < 2 ^ E.challenge_bits
  pub answer_below : b.answer < E.order

-- the equations, at what was drawn
pub record Equations {Point : Type 0} (G : Operations Point) (k : Comparison Point) (p : Proofs Point ℕ) (d : Draws) : Type 0 where
  pub product : Accepted G (folded_key G k.key d.equivalence_z)
      (folded_quotient G (multiplied G k.inputs.first k.inputs.second) (multiplied G k.outputs.first k.outputs.second) d.equivalence_z)
      p.equivalence.commitment d.equivalence_c p.equivalence.answer
  pub split : bit_xor p.disjunction.first.challenge p.disjunction.second.challenge ≡ d.disjunction_c
  pub first_branch : Accepted G (folded_key G k.key d.disjunction_z) (folded_quotient G k.inputs.first k.outputs.first d.disjunction_z)
      p.disjunction.first.commitment p.disjunction.first.challenge p.disjunction.first.answer
  pub second_branch : Accepted G (folded_key G k.key d.disjunction_z) (folded_quotient G k.inputs.first k.outputs.second d.disjunction_z)
      p.disjunction.second.commitment p.disjunction.second.challenge p.disjunction.second.answer

-- every number is fit, the source reaches, and the equations hold
pub record Holds {Point : Type 0} (G : Operations Point) (E : Exponents) (S : Words) (k : Comparison Point) (p : Proofs Point ℕ) (first : ℕ) : Type 0 where
  pub answer_below : p.equivalence.answer < E.order
  pub first_fits : BranchFits E p.disjunction.first
  pub second_fits : BranchFits E p.disjunction.second
  pub reaches : first + 3 < S.reach
  pub equations : Equations G k p (draws G E S k p first)

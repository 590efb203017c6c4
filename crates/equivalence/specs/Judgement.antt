-- The check of a comparator: which of its conditions fails first.
use Rattle.std.specs.Prelude.{◌≡◌, ℕ, ◌+◌, ◌^◌, Bool, true, false, List, [], ◌∷◌, Some, None, Ok, Err, Option, Result, ◌==◌, bit_xor, nat_lt}
use Rattle.elgamal.specs.Ciphertexts.{multiplied}
use Rattle.group.specs.Exponents.{Exponents}
use Rattle.group.specs.Operations.{Operations}
use Rattle.refusal.specs.Table.{refused_at}
use Rattle.refusal.specs.declared.Reason.{Reason}
use Rattle.refusal.specs.declared.Reason.TheVariants.{UnfitNumber, BeyondReach, ProductProof, ChallengeSplit, FirstBranch, SecondBranch}
use Rattle.refusal.specs.declared.Refusal.{Refusal}
use Rattle.source.specs.Words.{Words, z_of, c_of}
use Rattle.equivalence.specs.Equations.{folded_key, folded_quotient, accepted}
use Rattle.posting.specs.Comparison.{posted}
use Rattle.posting.specs.Posting.{codes}
use Rattle.posting.specs.declared.comparison.Comparison.{Comparison}
use Rattle.equivalence.specs.declared.proofs.Branch.{Branch}
use Rattle.equivalence.specs.declared.proofs.Proofs.{Proofs}

-- proofs of elements and posted numbers, as points and numbers
abbrev pub branch_meaning : {Element Point Posted : Type 0} → (Element → Point) → (Posted → ℕ) → Branch Element Posted → Branch Point ℕ
branch_meaning point number b = record { commitment = point b.commitment; challenge = b.challenge; answer = number b.answer }

abbrev pub proofs_meaning : {Element Point Posted : Type 0} → (Element → Point) → (Posted → ℕ) → Proofs Element Posted → Proofs Point ℕ
proofs_meaning point number p = record {
  equivalence = record { commitment = point p.equivalence.commitment; answer = number p.equivalence.answer };
  disjunction = record { first = branch_meaning point number p.disjunction.first; second = branch_meaning point number p.disjunction.second };
}

-- what a comparator draws: z and c of the equivalence proof, then z and c of the disjunctive one
pub record Draws : Type 0 where
  pub equivalence_z : ℕ
  pub equivalence_c : ℕ
  pub disjunction_z : ℕ
  pub disjunction_c : ℕ

abbrev pub both : Bool → Bool → Bool
both true b = b
both false b = false

-- A branch's numbers: a challenge has no more bits than it may, an exponent is below the order.
abbrev pub branch_fits : {Point : Type 0} → Exponents → Branch Point ℕ → Bool
branch_fits E b = both (nat_lt b.challenge (2 ^ E.challenge_bits)) (nat_lt b.answer E.order)

-- All posted numbers.
abbrev pub numbers_fit : {Point : Type 0} → Exponents → Proofs Point ℕ → Bool
numbers_fit E p = both (nat_lt p.equivalence.answer E.order) (both (branch_fits E p.disjunction.first) (branch_fits E p.disjunction.second))

-- nothing, or the reason where the condition fails
abbrev pub unless : Bool → Reason → Option Reason → Option Reason
unless true why rest = rest
unless false why rest = Some why

module _ {Point : Type 0} (G : Operations Point) where
  -- a z is drawn over the comparison alone, a challenge over the proof's commitments too
  abbrev pub drawn_z : Exponents → Words → Comparison Point → ℕ → ℕ
  drawn_z E S k question = z_of E (S.word question (codes G (posted k [])))

  abbrev pub drawn_c : Exponents → Words → Comparison Point → List Point → ℕ → ℕ
  drawn_c E S k commitments question = c_of E (S.word question (codes G (posted k commitments)))

  -- the four draws, from the question `first` on
  abbrev pub draws : Exponents → Words → Comparison Point → Proofs Point ℕ → ℕ → Draws
  draws E S k p first = record {
    equivalence_z = drawn_z E S k first;
    equivalence_c = drawn_c E S k (p.equivalence.commitment ∷ []) (first + 1);
    disjunction_z = drawn_z E S k (first + 2);
    disjunction_c = drawn_c E S k (p.disjunction.first.commitment ∷ p.disjunction.second.commitment ∷ []) (first + 3);
  }

  -- The equivalence proof is of the products of inputs and of outputs; the branches pair the first input with each output.
  abbrev pub equivalence_accepted : Comparison Point → (z : ℕ) (w : Point) (c s : ℕ) → Bool
  equivalence_accepted k z w c s =
      accepted G (folded_key G k.key z)
      (folded_quotient G (multiplied G k.inputs.first k.inputs.second) (multiplied G k.outputs.first k.outputs.second) z) w c s

  abbrev pub equivalence_test : Comparison Point → Proofs Point ℕ → Draws → Bool
  equivalence_test k p d = equivalence_accepted k d.equivalence_z p.equivalence.commitment d.equivalence_c p.equivalence.answer

  abbrev pub split_test : Proofs Point ℕ → Draws → Bool
  split_test p d = bit_xor p.disjunction.first.challenge p.disjunction.second.challenge == d.disjunction_c

  abbrev pub first_test : Comparison Point → Proofs Point ℕ → Draws → Bool
  first_test k p d =
      accepted G (folded_key G k.key d.disjunction_z) (folded_quotient G k.inputs.first k.outputs.first d.disjunction_z)
      p.disjunction.first.commitment p.disjunction.first.challenge p.disjunction.first.answer

  abbrev pub second_test : Comparison Point → Proofs Point ℕ → Draws → Bool
  second_test k p d =
      accepted G (folded_key G k.key d.disjunction_z) (folded_quotient G k.inputs.first k.outputs.second d.disjunction_z)
      p.disjunction.second.commitment p.disjunction.second.challenge p.disjunction.second.answer

  -- the first equation that fails at these draws
  unfoldable pub judge_equations : Comparison Point → Proofs Point ℕ → Draws → Option Reason
  judge_equations k p d =
      unless (equivalence_test k p d) ProductProof (unless (split_test p d) ChallengeSplit (unless (first_test k p d) FirstBranch (unless (second_test k p d) SecondBranch None)))

  -- the first condition that fails: numbers, reach, equations
  unfoldable pub judge : Exponents → Words → Comparison Point → Proofs Point ℕ → ℕ → Option Reason
  judge E S k p first =
      unless (numbers_fit E p) UnfitNumber (unless (nat_lt (first + 3) S.reach) BeyondReach (judge_equations k p (draws E S k p first)))

-- what a call that is judged answers at a place
abbrev pub Answered : {X : Type 0} → Option Reason → ℕ → Result X Refusal → Type 0
Answered None place (Ok x) = Unit {0}
Answered None place (Err f) = ⊥
Answered (Some why) place (Ok x) = ⊥
Answered (Some why) place (Err f) = f ≡ refused_at why place

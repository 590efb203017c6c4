-- Which witness is refused first, and why.
use Rattle.std.specs.Prelude.{ℕ, ◌+◌, ◌^◌, Bool, true, false, not, List, [], ◌∷◌, ◌++◌, length, Some, None, Option, ◌==◌, bit_xor, nat_lt}
use Rattle.elgamal.specs.Ciphertexts.{multiplied}
use Rattle.elgamal.specs.declared.Ciphertext.{Ciphertext}
use Rattle.equivalence.specs.Equations.{folded_key, folded_quotient, accepted}
use Rattle.equivalence.specs.Judgement.{unless}
use Rattle.group.specs.Exponents.{Exponents}
use Rattle.group.specs.Operations.{Operations}
use Rattle.posting.specs.declared.comparison.Comparison.{Comparison}
use Rattle.refusal.specs.Table.{refused_at}
use Rattle.refusal.specs.declared.Reason.{Reason}
use Rattle.refusal.specs.declared.Reason.TheVariants.{UnfitWitnessCount, UnfitWitnessNumber, EqualDraws, EqualChallenges, UnacceptedAnswer}
use Rattle.refusal.specs.declared.Refusal.{Refusal}
use Rattle.witness.specs.Witnesses.{EquivalenceWitness, DisjunctiveWitness}
use Rattle.witness.specs.declared.posted.Answer.{Answer}
use Rattle.witness.specs.declared.posted.Challenges.{Challenges}
use Rattle.witness.specs.declared.posted.Disjunction.{Disjunction}
use Rattle.witness.specs.declared.posted.Transcript.{Transcript}
use Rattle.witness.specs.declared.posted.Witness.{Witness}

abbrev pub both : Bool → Bool → Bool
both true b = b
both false b = false

-- the first refusal of two
abbrev pub or_else : Option Refusal → Option Refusal → Option Refusal
or_else (Some f) rest = Some f
or_else None rest = rest

-- a reason to refuse, at its place
abbrev pub at_place : ℕ → Option Reason → Option Refusal
at_place place None = None
at_place place (Some why) = Some (refused_at why place)

-- the z of each witness
abbrev pub draws : {Number T : Type 0} → (Number → ℕ) → List (Witness Number T) → List ℕ
draws number [] = []
draws number (w ∷ ws) = number w.z ∷ draws number ws

-- whether a number stands in a list
unfoldable pub stands : ℕ → List ℕ → Bool
stands n [] = false
stands n (m ∷ ms) = elim (n == m) [ true ↦ true | false ↦ stands n ms ]

-- The first number that stands among the earlier ones, from `place` on.
unfoldable pub repeated : ℕ → List ℕ → List ℕ → Option Refusal
repeated place earlier [] = None
repeated place earlier (z ∷ zs) =
    elim (stands z earlier) [ true ↦ Some (refused_at EqualDraws place) | false ↦ repeated (place + 1) (earlier ++ (z ∷ [])) zs ]

-- The first witness that is refused, from `place` on.
abbrev pub judged : {W : Type 0} → (W → Option Reason) → ℕ → List W → Option Refusal
judged judge place [] = None
judged judge place (w ∷ ws) = or_else (at_place place (judge w)) (judged judge (place + 1) ws)

-- Why a witness is refused: its numbers are not all fit, its two challenges are equal, or not both answers are accepted.
unfoldable pub judgement : (fits : Bool) (first second : ℕ) (accepted : Bool) → Option Reason
judgement fits first second accepted =
    unless fits UnfitWitnessNumber (unless (not (first == second)) EqualChallenges (unless accepted UnacceptedAnswer None))

-- What one of the two proofs asks of what was answered: whether its numbers are fit, the challenges of both answers,
-- and whether both are accepted at a z.
pub record Proof (Answered : Type 0) : Type 0 where
  pub fits : Answered → Bool
  pub challenges : Answered → Challenges
  pub accepted : (z : ℕ) → Answered → Bool

-- Numbers: an exponent is below the order, a challenge has no more bits than it may.
module _ (E : Exponents) where
  abbrev pub challenge_fits : ℕ → Bool
  challenge_fits c = nat_lt c (2 ^ E.challenge_bits)

  abbrev pub answer_fits : Answer ℕ → Bool
  answer_fits a = both (challenge_fits a.challenge) (nat_lt a.exponent E.order)

  abbrev pub transcript_fits : {Point : Type 0} → Transcript Point ℕ → Bool
  transcript_fits t = both (answer_fits t.first) (answer_fits t.second)

  abbrev pub disjunction_fits : {Point : Type 0} → Disjunction Point ℕ → Bool
  disjunction_fits d =
      both (both (challenge_fits d.challenges.first) (challenge_fits d.challenges.second))
      (both (transcript_fits d.straight) (transcript_fits d.swapped))

  -- the numbers of a witness: its z, and those that were answered
  abbrev pub witness_fits : {Answered : Type 0} → Proof Answered → Witness ℕ Answered → Bool
  witness_fits proof w = both (nat_lt w.z E.order) (proof.fits w.answered)

  -- why a witness is refused
  abbrev pub judge : {Answered : Type 0} → Proof Answered → Witness ℕ Answered → Option Reason
  judge proof w = judgement (witness_fits proof w) (proof.challenges w.answered).first (proof.challenges w.answered).second (proof.accepted w.z w.answered)

  -- what a witness shows, where its numbers are fit
  abbrev pub shown_where_fit : {Answered Shown : Type 0} → Proof Answered → (Witness ℕ Answered → Shown) → Witness ℕ Answered → Option Shown
  shown_where_fit proof shown w = elim (witness_fits proof w) [ true ↦ Some (shown w) | false ↦ None ]

  -- the first refusal among the witnesses of one proof, from `place` on: no z twice, then each witness in order
  abbrev pub refusal_among : {Answered : Type 0} → Proof Answered → (place : ℕ) → List (Witness ℕ Answered) → Option Refusal
  refusal_among proof place ws = or_else (repeated place [] (draws (λ n. n) ws)) (judged (judge proof) place ws)

-- the challenges of both answers
abbrev pub transcript_challenges : {Point Number : Type 0} → Transcript Point Number → Challenges
transcript_challenges t = record { first = t.first.challenge; second = t.second.challenge }

-- the parts of both challenges on the branches add up to them, bit by bit
abbrev pub splits : {Point Number : Type 0} → Disjunction Point Number → Bool
splits d =
    both (bit_xor d.straight.first.challenge d.swapped.first.challenge == d.challenges.first)
    (bit_xor d.straight.second.challenge d.swapped.second.challenge == d.challenges.second)

module _ {Point : Type 0} (G : Operations Point) where
  -- both answers are accepted, that the new ciphertext is the old one re-encrypted
  abbrev pub transcript_accepted : (key : Point) (old new : Ciphertext Point) (z : ℕ) → Transcript Point ℕ → Bool
  transcript_accepted key old new z t =
      both (accepted G (folded_key G key z) (folded_quotient G old new z) t.commitment t.first.challenge t.first.exponent)
      (accepted G (folded_key G key z) (folded_quotient G old new z) t.commitment t.second.challenge t.second.exponent)

  -- The equivalence proof is of the products of inputs and of outputs.
  abbrev pub product_accepted : Comparison Point → (z : ℕ) → Transcript Point ℕ → Bool
  product_accepted k z t =
      transcript_accepted k.key (multiplied G k.inputs.first k.inputs.second) (multiplied G k.outputs.first k.outputs.second) z t

  -- The branches pair the first input with each output, at one z.
  abbrev pub disjunction_accepted : Comparison Point → (z : ℕ) → Disjunction Point ℕ → Bool
  disjunction_accepted k z d =
      both (splits d)
      (both (transcript_accepted k.key k.inputs.first k.outputs.first z d.straight)
      (transcript_accepted k.key k.inputs.first k.outputs.second z d.swapped))

  -- the two proofs about a comparison
  abbrev pub equivalence_proof : Exponents → Comparison Point → Proof (Transcript Point ℕ)
  equivalence_proof E k = record { fits = transcript_fits E; challenges = transcript_challenges; accepted = product_accepted k }

  abbrev pub disjunctive_proof : Exponents → Comparison Point → Proof (Disjunction Point ℕ)
  disjunctive_proof E k = record { fits = disjunction_fits E; challenges = λ d. d.challenges; accepted = disjunction_accepted k }

  -- why a witness of each is refused
  abbrev pub judge_equivalence : Exponents → Comparison Point → EquivalenceWitness Point → Option Reason
  judge_equivalence E k = judge E (equivalence_proof E k)

  abbrev pub judge_disjunctive : Exponents → Comparison Point → DisjunctiveWitness Point → Option Reason
  judge_disjunctive E k = judge E (disjunctive_proof E k)

  -- the first refusal among the witnesses of each, at the places 0 to 2 and 3 to 7
  unfoldable pub equivalence_refusal : Exponents → Comparison Point → List (EquivalenceWitness Point) → Option Refusal
  equivalence_refusal E k W = refusal_among E (equivalence_proof E k) 0 W

  unfoldable pub disjunctive_refusal : Exponents → Comparison Point → List (DisjunctiveWitness Point) → Option Refusal
  disjunctive_refusal E k V = refusal_among E (disjunctive_proof E k) 3 V

  -- The first refusal: there are three and five witnesses; then those of the equivalence proof, and then those of
  -- the disjunctive proof.
  unfoldable pub first_refusal : Exponents → Comparison Point → List (EquivalenceWitness Point) → List (DisjunctiveWitness Point) → Option Refusal
  first_refusal E k W V =
      or_else (at_place 0 (unless (both (length W == 3) (length V == 5)) UnfitWitnessCount None))
      (or_else (equivalence_refusal E k W) (disjunctive_refusal E k V))

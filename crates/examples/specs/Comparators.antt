-- The two proofs and an honest comparator, in group 1 under the key 8.
use Rattle.std.specs.Prelude.{◌≡◌, ℕ, true, false, List, [], ◌∷◌, Some, None}
use Rattle.equivalence.specs.Equations.{folded_key, folded_quotient, accepted}
use Rattle.equivalence.specs.Judgement.{judge}
use Rattle.equivalence.specs.declared.proofs.Proofs.{Proofs}
use Rattle.group.specs.Exponents.{Exponents}
use Rattle.group.specs.Operations.{power}
use Rattle.modular.specs.Modular.{modular}
use Rattle.modular.specs.Residues.{Residue}
use Rattle.plan.specs.declared.Setting.TheVariants.{Swapped}
use Rattle.posting.specs.declared.comparison.Comparison.{Comparison}
use Rattle.posting.specs.declared.comparison.Pair.{Pair}
use Rattle.prover.specs.Honest.{honest_comparison, honest_proofs, answer_of}
use Rattle.prover.specs.declared.secrets.Secrets.{Secrets}
use Rattle.refusal.specs.Table.{number_of}
use Rattle.refusal.specs.declared.Reason.TheVariants.{ProductProof, ChallengeSplit}
use Rattle.source.specs.Words.{Words, tape}
use Rattle.examples.specs.Ciphertexts.{key, sealed, mixed}
use Rattle.examples.specs.Small.{group1, element, numbers}

-- exponents modulo 11, challenges of 3 bits
abbrev pub exponents1 : Exponents
exponents1 = modular 11 3

-- the equivalence proof that `mixed` is `sealed`, re-encrypted by 4: z is 2, e is 6
abbrev pub folded : Residue 23 11
folded = folded_key group1 key 2

abbrev pub quotient : Residue 23 11
quotient = folded_quotient group1 sealed mixed 2

abbrev pub commitment : Residue 23 11
commitment = power group1 folded 6

-- a comparator on (18, 9) and (1, 2), swapped; the words on the tape give the draws 2, 5, 1, 6
abbrev pub inputs : Pair (Residue 23 11)
inputs = record {
  first = record { alpha = element 18 tt; beta = element 9 tt };
  second = record { alpha = element 1 tt; beta = element 2 tt };
}

abbrev pub secrets : Secrets ℕ
secrets = record { r1 = 2; r2 = 4; equivalence = 3; disjunction = 7; answer = 2; challenge = 3 }

abbrev pub words : Words
words = tape (2 ∷ 5 ∷ 1 ∷ 6 ∷ [])

abbrev pub comparison : Comparison (Residue 23 11)
comparison = honest_comparison group1 key inputs Swapped secrets

abbrev pub proofs : Proofs (Residue 23 11) ℕ
proofs = honest_proofs group1 exponents1 words comparison Swapped secrets 0

-- w, s, w1, w2, c1, c2, s1, s2
abbrev pub posted_numbers : Proofs (Residue 23 11) ℕ → List ℕ
posted_numbers p =
    p.equivalence.commitment.0 ∷ p.equivalence.answer
    ∷ p.disjunction.first.commitment.0 ∷ p.disjunction.second.commitment.0
    ∷ p.disjunction.first.challenge ∷ p.disjunction.second.challenge
    ∷ p.disjunction.first.answer ∷ p.disjunction.second.answer ∷ []

-- the same with another c2
abbrev pub with_second_challenge : ℕ → Proofs (Residue 23 11) ℕ → Proofs (Residue 23 11) ℕ
with_second_challenge c p = record {
  equivalence = p.equivalence;
  disjunction = record {
    first = p.disjunction.first;
    second = record { commitment = p.disjunction.second.commitment; challenge = c; answer = p.disjunction.second.answer };
  };
}

pub record ComparatorExamples : Type 0 where
  pub quotient_is : quotient.0 ≡ 18
  pub folded_is : folded.0 ≡ 13
  pub commitment_is : commitment.0 ≡ 6
  pub answer_to_5 : answer_of exponents1 6 5 4 ≡ 4
  pub taken_to_5 : accepted group1 folded quotient commitment 5 4 ≡ true
  pub another_answer : accepted group1 folded quotient commitment 5 5 ≡ false
  pub answer_to_1 : answer_of exponents1 6 1 4 ≡ 10
  pub first_output : numbers comparison.outputs.first ≡ (18, 8)
  pub second_output : numbers comparison.outputs.second ≡ (13, 6)
  pub proofs_are : posted_numbers proofs ≡ 12 ∷ 0 ∷ 8 ∷ 18 ∷ 3 ∷ 5 ∷ 2 ∷ 5 ∷ []
  pub taken : judge group1 exponents1 words comparison proofs 0 ≡ None
  pub split_refused : judge group1 exponents1 words comparison (with_second_challenge 4 proofs) 0 ≡ Some ChallengeSplit
  pub product_number : number_of ProductProof ≡ 18
  pub split_number : number_of ChallengeSplit ≡ 19

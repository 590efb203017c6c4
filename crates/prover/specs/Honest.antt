-- What an honest comparator makes, commits to and answers.
use Rattle.std.specs.Prelude.{ℕ, ◌+◌, List, [], ◌∷◌, bit_xor}
use Rattle.elgamal.specs.Ciphertexts.{reencrypted}
use Rattle.elgamal.specs.declared.Ciphertext.{Ciphertext}
use Rattle.equivalence.specs.Equations.{folded_key, folded_quotient}
use Rattle.equivalence.specs.declared.proofs.Branch.{Branch}
use Rattle.equivalence.specs.declared.proofs.Proofs.{Proofs}
use Rattle.group.specs.Exponents.{Exponents, sum, product}
use Rattle.group.specs.Operations.{Operations, power, quotient}
use Rattle.plan.specs.declared.Setting.{Setting}
use Rattle.plan.specs.declared.Setting.TheVariants.{Straight, Swapped}
use Rattle.posting.specs.Comparison.{posted}
use Rattle.posting.specs.Posting.{codes}
use Rattle.posting.specs.declared.comparison.Comparison.{Comparison}
use Rattle.posting.specs.declared.comparison.Pair.{Pair}
use Rattle.source.specs.Words.{Words, z_of, c_of}
use Rattle.prover.specs.declared.secrets.Secrets.{Secrets}

-- the first for a straight comparator, the second for a swapped one
abbrev pub by_setting : {X : Type 0} → Setting → X → X → X
by_setting Straight x y = x
by_setting Swapped x y = y

-- the answer e + c·r
abbrev pub answer_of : Exponents → ℕ → ℕ → ℕ → ℕ
answer_of E e c r = sum E e (product E c r)

-- the two branches, for the drawn challenge c: the known one is answered, the other is as it was chosen
abbrev pub known_branch : {Point : Type 0} → Exponents → Point → Setting → Secrets ℕ → ℕ → Branch Point ℕ
known_branch E w setting s c = record {
  commitment = w;
  challenge = bit_xor c s.challenge;
  answer = answer_of E s.disjunction (bit_xor c s.challenge) (by_setting setting s.r1 s.r2);
}

abbrev pub simulated_branch : {Point : Type 0} → Point → Secrets ℕ → Branch Point ℕ
simulated_branch w s = record { commitment = w; challenge = s.challenge; answer = s.answer }

-- the proofs, for the commitments and both drawn challenges
abbrev pub answered_proofs : {Point : Type 0} → Exponents → Setting → Secrets ℕ → (w w1 w2 : Point) → (c c' : ℕ) → Proofs Point ℕ
answered_proofs E setting s w w1 w2 c c' = record {
  equivalence = record { commitment = w; answer = answer_of E s.equivalence c (sum E s.r1 s.r2) };
  disjunction = record {
    first = by_setting setting (known_branch E w1 setting s c') (simulated_branch w1 s);
    second = by_setting setting (simulated_branch w2 s) (known_branch E w2 setting s c');
  };
}

module _ {Point : Type 0} (G : Operations Point) where
  -- Straight, each output is the input on its wire; swapped, the one on the other; re-encrypted by r1 and r2.
  abbrev pub honest_outputs : Point → Pair Point → Setting → Secrets ℕ → Pair Point
  honest_outputs y inputs setting s = record {
    first = reencrypted G y (by_setting setting inputs.first inputs.second) s.r1;
    second = reencrypted G y (by_setting setting inputs.second inputs.first) s.r2;
  }

  abbrev pub honest_comparison : Point → Pair Point → Setting → Secrets ℕ → Comparison Point
  honest_comparison y inputs setting s = record { key = y; inputs = inputs; outputs = honest_outputs y inputs setting s }

  -- the output that is not the first input: the branch that has to be simulated
  abbrev pub simulated_output : Comparison Point → Setting → Ciphertext Point
  simulated_output k setting = by_setting setting k.outputs.second k.outputs.first

  -- a true commitment, and one that fits an answer and a challenge chosen before
  abbrev pub true_commitment : Comparison Point → ℕ → ℕ → Point
  true_commitment k z e = power G (folded_key G k.key z) e

  abbrev pub simulated_commitment : Comparison Point → Setting → (z answer challenge : ℕ) → Point
  simulated_commitment k setting z answer challenge =
      quotient G (power G (folded_key G k.key z) answer) (power G (folded_quotient G k.inputs.first (simulated_output k setting) z) challenge)

  -- the source's word for a question over a comparison and commitments
  abbrev pub word_over : Words → Comparison Point → List Point → ℕ → ℕ
  word_over S k commitments question = S.word question (codes G (posted k commitments))

  -- both z, drawn at the questions `first` and first + 2
  abbrev pub equivalence_z : Exponents → Words → Comparison Point → ℕ → ℕ
  equivalence_z E S k first = z_of E (S.word first (codes G (posted k [])))

  abbrev pub disjunction_z : Exponents → Words → Comparison Point → ℕ → ℕ
  disjunction_z E S k first = z_of E (S.word (first + 2) (codes G (posted k [])))

  -- both challenges, drawn over the commitments at the questions first + 1 and first + 3
  abbrev pub equivalence_challenge : Exponents → Words → Comparison Point → Point → ℕ → ℕ
  equivalence_challenge E S k w first = c_of E (S.word (first + 1) (codes G (posted k (w ∷ []))))

  abbrev pub disjunction_challenge : Exponents → Words → Comparison Point → Point → Point → ℕ → ℕ
  disjunction_challenge E S k w1 w2 first = c_of E (S.word (first + 3) (codes G (posted k (w1 ∷ w2 ∷ []))))

  -- the commitments: to the equivalence proof, and to each branch
  abbrev pub equivalence_commitment : Exponents → Words → Comparison Point → Secrets ℕ → ℕ → Point
  equivalence_commitment E S k s first = true_commitment k (equivalence_z E S k first) s.equivalence

  abbrev pub first_commitment : Exponents → Words → Comparison Point → Setting → Secrets ℕ → ℕ → Point
  first_commitment E S k setting s first =
      by_setting setting (true_commitment k (disjunction_z E S k first) s.disjunction) (simulated_commitment k setting (disjunction_z E S k first) s.answer s.challenge)

  abbrev pub second_commitment : Exponents → Words → Comparison Point → Setting → Secrets ℕ → ℕ → Point
  second_commitment E S k setting s first =
      by_setting setting (simulated_commitment k setting (disjunction_z E S k first) s.answer s.challenge) (true_commitment k (disjunction_z E S k first) s.disjunction)

  -- all that an honest comparator posts as proofs
  abbrev pub honest_proofs : Exponents → Words → Comparison Point → Setting → Secrets ℕ → ℕ → Proofs Point ℕ
  honest_proofs E S k setting s first =
      let w = equivalence_commitment E S k s first in
      let w1 = first_commitment E S k setting s first in
      let w2 = second_commitment E S k setting s first in
      answered_proofs E setting s w w1 w2 (equivalence_challenge E S k w first) (disjunction_challenge E S k w1 w2 first)

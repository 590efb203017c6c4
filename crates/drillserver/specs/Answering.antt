-- The witnesses that a task makes. Where its maker knows the exponent it answers both challenges upon one
-- commitment; for the other branch it picks the challenge first, and can only answer that one, twice.
use Rattle.std.specs.Prelude.{ℕ, zero, suc, true, false, List, [], ◌∷◌, ◌++◌, ◌==◌, bit_xor}
use Rattle.equivalence.specs.Equations.{folded_key, folded_quotient}
use Rattle.group.specs.Exponents.{Exponents, remainder, lowest_bits, sum, product}
use Rattle.group.specs.Operations.{Operations, power, quotient}
use Rattle.plan.specs.declared.Setting.{Setting}
use Rattle.plan.specs.declared.Setting.TheVariants.{Straight, Swapped}
use Rattle.posting.specs.declared.comparison.Comparison.{Comparison}
use Rattle.witness.specs.Witnesses.{EquivalenceWitness, DisjunctiveWitness}
use Rattle.witness.specs.declared.posted.Answer.{Answer}
use Rattle.witness.specs.declared.posted.Challenges.{Challenges}
use Rattle.witness.specs.declared.posted.Disjunction.{Disjunction}
use Rattle.witness.specs.declared.posted.Transcript.{Transcript}
use Rattle.drillserver.specs.Knowledge.{word, product_answering, branch_answering}
use Rattle.drillserver.specs.declared.task.Fault.{Fault}
use Rattle.drillserver.specs.declared.task.Fault.TheVariants.{Nothing, EqualDraws, EqualChallenges, WrongAnswer, UnfitNumber}
use Rattle.drillserver.specs.declared.task.Outputs.{Outputs}
use Rattle.drillserver.specs.declared.task.Outputs.TheVariants.{Straight as MadeStraight, Swapped as MadeSwapped, Forged}
use Rattle.drillserver.specs.declared.task.Task.{Task}

-- what is made for 0, 1 and so on, below n
abbrev pub each_below : {W : Type 0} → (ℕ → W) → ℕ → List W
each_below make zero = []
each_below make (suc n) = each_below make n ++ (make n ∷ [])

-- the branch that is proved: that of the output made from the first input
abbrev pub proved_branch : Outputs → Setting
proved_branch MadeStraight = Straight
proved_branch MadeSwapped = Swapped
proved_branch Forged = Straight

-- the place that the j-th equivalence witness draws for: one for all, where the fault is equal draws
abbrev pub draw_place : Fault → ℕ → ℕ
draw_place EqualDraws j = 0
draw_place Nothing j = j
draw_place EqualChallenges j = j
draw_place WrongAnswer j = j
draw_place UnfitNumber j = j

module _ (E : Exponents) where
  -- the number that it posts for z: the order for the last, where the fault is an unfit number
  abbrev pub posted_z : Fault → (j z : ℕ) → ℕ
  posted_z UnfitNumber j z = elim (j == 2) [ true ↦ E.order | false ↦ z ]
  posted_z Nothing j z = z
  posted_z EqualDraws j z = z
  posted_z EqualChallenges j z = z
  posted_z WrongAnswer j z = z

  -- the challenges of a word: of it and of the next
  abbrev pub next_challenges : ℕ → Challenges
  next_challenges n = record { first = lowest_bits E n; second = lowest_bits E (word n 1) }

  -- the challenges of a disjunctive witness: one for both, where the fault is equal challenges
  abbrev pub made_challenges : Fault → ℕ → Challenges
  made_challenges EqualChallenges n = record { first = lowest_bits E n; second = lowest_bits E n }
  made_challenges Nothing n = next_challenges n
  made_challenges EqualDraws n = next_challenges n
  made_challenges WrongAnswer n = next_challenges n
  made_challenges UnfitNumber n = next_challenges n

  -- the answer e + γ·c
  abbrev pub made_answer : (e γ c : ℕ) → Answer ℕ
  made_answer e γ c = record { challenge = c; exponent = sum E e (product E γ (remainder E c)) }

-- the parts of the challenges that the proved branch has, where the other has c
abbrev pub parts_beside : ℕ → Challenges → Challenges
parts_beside c h = record { first = bit_xor h.first c; second = bit_xor h.second c }

module _ {Point : Type 0} (G : Operations Point) where
  -- both answers are one; the commitment is made to fit it, for the folded quotient Y
  abbrev pub simulated_transcript : (K Y : Point) (s c : ℕ) → Transcript Point ℕ
  simulated_transcript K Y s c = record {
    commitment = quotient G (power G K s) (power G Y c);
    first = record { challenge = c; exponent = s };
    second = record { challenge = c; exponent = s };
  }

module _ {Point : Type 0} (G : Operations Point) (E : Exponents) where
  -- the commitment is the folded key K to the power e
  abbrev pub proved_transcript : (K : Point) (γ e : ℕ) → Challenges → Transcript Point ℕ
  proved_transcript K γ e h = record { commitment = power G K e; first = made_answer E e γ h.first; second = made_answer E e γ h.second }

  -- the branch that is known is proved, the other simulated for the challenge c
  abbrev pub made_disjunction : Comparison Point → Setting → (z γ : ℕ) → Challenges → (c : ℕ) → Disjunction Point ℕ
  made_disjunction k Straight z γ h c = record {
    challenges = h;
    straight = proved_transcript (folded_key G k.key z) γ (sum E z γ) (parts_beside c h);
    swapped = simulated_transcript G (folded_key G k.key z) (folded_quotient G k.inputs.first k.outputs.second z) z c;
  }
  made_disjunction k Swapped z γ h c = record {
    challenges = h;
    straight = simulated_transcript G (folded_key G k.key z) (folded_quotient G k.inputs.first k.outputs.first z) z c;
    swapped = proved_transcript (folded_key G k.key z) γ (sum E z γ) (parts_beside c h);
  }

  -- the j-th witness of the equivalence proof, made from the word n: all else follows from it
  abbrev pub equivalence_witness_at : (y : Point) → Task → (j n : ℕ) → EquivalenceWitness Point
  equivalence_witness_at y t j n = record {
    z = posted_z E t.kind.fault j (remainder E n);
    answered = proved_transcript (folded_key G y (remainder E n)) (product_answering E t (remainder E n)) (sum E (remainder E n) (product_answering E t (remainder E n))) (next_challenges E n);
  }

  unfoldable pub made_equivalence_witness : (y : Point) → Task → (j : ℕ) → EquivalenceWitness Point
  made_equivalence_witness y t j = equivalence_witness_at y t j (word t.seed (draw_place t.kind.fault j))

  -- and of the disjunctive proof
  abbrev pub disjunctive_witness_at : Comparison Point → Task → (n : ℕ) → DisjunctiveWitness Point
  disjunctive_witness_at k t n = record {
    z = remainder E n;
    answered = made_disjunction k (proved_branch t.kind.outputs) (remainder E n) (branch_answering E t (remainder E n)) (made_challenges E t.kind.fault n) (lowest_bits E (word n 3));
  }

  unfoldable pub made_disjunctive_witness : Comparison Point → Task → (j : ℕ) → DisjunctiveWitness Point
  made_disjunctive_witness k t j = disjunctive_witness_at k t (word t.seed j)

  -- three witnesses of the equivalence proof, and five of the disjunctive one
  abbrev pub made_equivalence_witnesses : (y : Point) → Task → List (EquivalenceWitness Point)
  made_equivalence_witnesses y t = each_below (made_equivalence_witness y t) 3

  abbrev pub made_disjunctive_witnesses : Comparison Point → Task → List (DisjunctiveWitness Point)
  made_disjunctive_witnesses k t = each_below (made_disjunctive_witness k t) 5

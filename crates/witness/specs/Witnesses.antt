-- Witnesses of elements and posted numbers, as points and numbers.
use Rattle.std.specs.Prelude.{ℕ}
use Rattle.witness.specs.declared.posted.Answer.{Answer}
use Rattle.witness.specs.declared.posted.Disjunction.{Disjunction}
use Rattle.witness.specs.declared.posted.Transcript.{Transcript}
use Rattle.witness.specs.declared.posted.Witness.{Witness}

-- a witness of the equivalence proof, and one of the disjunctive proof
abbrev pub EquivalenceWitness : Type 0 → Type 0
EquivalenceWitness Point = Witness ℕ (Transcript Point ℕ)

abbrev pub DisjunctiveWitness : Type 0 → Type 0
DisjunctiveWitness Point = Witness ℕ (Disjunction Point ℕ)

abbrev pub answer_meaning : {Number : Type 0} → (Number → ℕ) → Answer Number → Answer ℕ
answer_meaning number a = record { challenge = a.challenge; exponent = number a.exponent }

-- a witness, by what its number and what was answered mean
abbrev pub witness_meaning : {Number Answered Meaning : Type 0} → (Number → ℕ) → (Answered → Meaning) → Witness Number Answered → Witness ℕ Meaning
witness_meaning number meaning w = record { z = number w.z; answered = meaning w.answered }

module _ {Element Point Number : Type 0} (point : Element → Point) (number : Number → ℕ) where
  abbrev pub transcript_meaning : Transcript Element Number → Transcript Point ℕ
  transcript_meaning t = record { commitment = point t.commitment; first = answer_meaning number t.first; second = answer_meaning number t.second }

  abbrev pub disjunction_meaning : Disjunction Element Number → Disjunction Point ℕ
  disjunction_meaning d = record { challenges = d.challenges; straight = transcript_meaning d.straight; swapped = transcript_meaning d.swapped }

  abbrev pub equivalence_meaning : Witness Number (Transcript Element Number) → EquivalenceWitness Point
  equivalence_meaning w = witness_meaning number transcript_meaning w

  abbrev pub disjunctive_meaning : Witness Number (Disjunction Element Number) → DisjunctiveWitness Point
  disjunctive_meaning w = witness_meaning number disjunction_meaning w

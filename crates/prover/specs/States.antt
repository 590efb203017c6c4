-- The states of an honest comparator, over points and numbers.
use Rattle.std.specs.Prelude.{◌≡◌, ℕ, ◌+◌, Some, None, Ok, Err, Option, Result, nat_lt}
use Rattle.equivalence.specs.Judgement.{unless, proofs_meaning, judge}
use Rattle.group.specs.Exponents.{Exponents}
use Rattle.group.specs.Operations.{Operations}
use Rattle.plan.specs.declared.Setting.{Setting}
use Rattle.posting.specs.Comparison.{pair_meaning, comparison_meaning}
use Rattle.posting.specs.Drawing.{buffer_fits}
use Rattle.posting.specs.declared.comparison.Pair.{Pair}
use Rattle.refusal.specs.Table.{refused_at}
use Rattle.refusal.specs.declared.Reason.{Reason}
use Rattle.refusal.specs.declared.Reason.TheVariants.{UnfitLength, BeyondReach}
use Rattle.refusal.specs.declared.Refusal.{Refusal}
use Rattle.source.specs.Words.{Words}
use Rattle.prover.specs.Honest.{honest_comparison, honest_proofs, answered_proofs, equivalence_challenge, disjunction_challenge, equivalence_commitment, first_commitment, second_commitment}
use Rattle.prover.specs.Secrets.{secrets_meaning}
use Rattle.prover.specs.declared.secrets.Secrets.{Secrets}
use Rattle.prover.specs.declared.states.OutputsMade.{OutputsMade}
use Rattle.prover.specs.declared.states.Committed.{Committed}
use Rattle.prover.specs.declared.states.Message.{Message}

-- states and messages of elements, as points and numbers
abbrev pub made_meaning : {Element Point X : Type 0} → (Element → Point) → (X → ℕ) → OutputsMade Element X → OutputsMade Point ℕ
made_meaning point value m = record { comparison = comparison_meaning point m.comparison; setting = m.setting; secrets = secrets_meaning value m.secrets }

abbrev pub committed_meaning : {Element Point X : Type 0} → (Element → Point) → (X → ℕ) → Committed Element X → Committed Point ℕ
committed_meaning point value c = record {
  made = made_meaning point value c.made;
  question = c.question;
  equivalence = point c.equivalence;
  first = point c.first;
  second = point c.second;
}

abbrev pub message_meaning : {Element Point N : Type 0} → (Element → Point) → (N → ℕ) → Message Element N → Message Point ℕ
message_meaning point number m = record { outputs = pair_meaning point m.outputs; proofs = proofs_meaning point number m.proofs }

-- what a call answers: a value, or the refusal at a place
abbrev pub Outcome : {X : Type 0} → Option Reason → ℕ → (X → Type 0) → Result X Refusal → Type 0
Outcome None place Value (Ok x) = Value x
Outcome None place Value (Err f) = ⊥
Outcome (Some why) place Value (Ok x) = ⊥
Outcome (Some why) place Value (Err f) = f ≡ refused_at why place

module _ {Point : Type 0} (G : Operations Point) where
  -- what keeps a comparator from its draws: a short posting buffer, or a source that does not reach four questions
  abbrev pub unready : Words → ℕ → ℕ → Option Reason
  unready S question bytes = unless (buffer_fits G bytes) UnfitLength (unless (nat_lt (question + 3) S.reach) BeyondReach None)

  abbrev pub outputs_made : Point → Pair Point → Setting → Secrets ℕ → OutputsMade Point ℕ
  outputs_made y inputs setting s = record { comparison = honest_comparison G y inputs setting s; setting = setting; secrets = s }

  -- committed: to the equivalence proof, and to both branches
  abbrev pub committed : Exponents → Words → OutputsMade Point ℕ → ℕ → Committed Point ℕ
  committed E S m question = record {
    made = m;
    question = question;
    equivalence = equivalence_commitment G E S m.comparison m.secrets question;
    first = first_commitment G E S m.comparison m.setting m.secrets question;
    second = second_commitment G E S m.comparison m.setting m.secrets question;
  }

  -- answered: the drawn challenges, over the commitments that were posted
  abbrev pub answer_message : Exponents → Words → Committed Point ℕ → Message Point ℕ
  answer_message E S c = record {
    outputs = c.made.comparison.outputs;
    proofs = answered_proofs E c.made.setting c.made.secrets c.equivalence c.first c.second
        (equivalence_challenge G E S c.made.comparison c.equivalence c.question)
        (disjunction_challenge G E S c.made.comparison c.first c.second c.question);
  }

  -- all that an honest comparator posts
  abbrev pub honest_message : Exponents → Words → Point → Pair Point → Setting → Secrets ℕ → ℕ → Message Point ℕ
  honest_message E S y inputs setting s question = record {
    outputs = (honest_comparison G y inputs setting s).outputs;
    proofs = honest_proofs G E S (honest_comparison G y inputs setting s) setting s question;
  }

  -- the check of a comparator takes the message
  abbrev pub Taken : Exponents → Words → Point → Pair Point → Message Point ℕ → ℕ → Type 0
  Taken E S y inputs m question = judge G E S (record { key = y; inputs = inputs; outputs = m.outputs }) m.proofs question ≡ None

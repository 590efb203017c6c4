-- What is answered upon all witnesses: the first refusal, or what they show.
use Rattle.std.specs.Prelude.{◌≡◌, ℕ, List, Some, None, Ok, Err, Result}
use Rattle.group.specs.Exponents.{Exponents}
use Rattle.group.specs.Operations.{Operations}
use Rattle.posting.specs.declared.comparison.Comparison.{Comparison}
use Rattle.refusal.specs.declared.Refusal.{Refusal}
use Rattle.witness.specs.Refusals.{first_refusal}
use Rattle.witness.specs.Samples.{examination_meaning, examination}
use Rattle.witness.specs.Witnesses.{EquivalenceWitness, DisjunctiveWitness}
use Rattle.witness.specs.declared.samples.Examination.{Examination}

abbrev pub examined_meaning : {X : Type 0} → (X → ℕ) → Result (Examination X) Refusal → Result (Examination ℕ) Refusal
examined_meaning value (Ok x) = Ok (examination_meaning value x)
examined_meaning value (Err f) = Err f

abbrev pub Examined : {Point : Type 0} → Operations Point → Exponents → Comparison Point
    → List (EquivalenceWitness Point) → List (DisjunctiveWitness Point) → Result (Examination ℕ) Refusal → Type 0
Examined G E k W V (Ok x) = (first_refusal G E k W V ≡ None) × (x ≡ examination E W V)
Examined G E k W V (Err f) = first_refusal G E k W V ≡ Some f

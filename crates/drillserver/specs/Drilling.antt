-- What a task is answered.
use Rattle.std.specs.Prelude.{ℕ, Ok, Err, Result}
use Rattle.drill.specs.Findings.{finding_meaning}
use Rattle.drill.specs.Rule.{Drilled}
use Rattle.drill.specs.declared.finding.Finding.{Finding}
use Rattle.group.specs.Exponents.{Exponents}
use Rattle.group.specs.Operations.{Operations}
use Rattle.refusal.specs.declared.Refusal.{Refusal}
use Rattle.refusal.specs.declared.failure.Failure.{Failure}
use Rattle.refusal.specs.declared.failure.Failure.TheVariants.{Refused, NoMemory}
use Rattle.drillserver.specs.Answering.{made_equivalence_witnesses, made_disjunctive_witnesses}
use Rattle.drillserver.specs.Comparing.{made_comparison}
use Rattle.drillserver.specs.declared.task.Task.{Task}

-- what holds of the drill's answer, a finding or a refusal; nothing is said where memory was wanting
abbrev pub IfDrilled : {X : Type 0} → (X → ℕ) → Result (Finding X) Failure → (Result (Finding ℕ) Refusal → Type 0) → Type 0
IfDrilled value (Ok found) P = P (Ok (finding_meaning value found))
IfDrilled value (Err (Refused why)) P = P (Err why)
IfDrilled value (Err (NoMemory error)) P = Unit {0}

module _ {Point : Type 0} (G : Operations Point) (E : Exponents) where
  -- what the rule of the drill says of the comparator and the witnesses that the task makes
  abbrev pub DrilledAsMade : Task → Result (Finding ℕ) Refusal → Type 0
  DrilledAsMade t r =
      let k = made_comparison G E t in
      Drilled G E k (made_equivalence_witnesses G E k.key t) (made_disjunctive_witnesses G E k t) r

-- A file is checked, and at its end something is done on the board that it left.
use Rattle.std.specs.Prelude.{◌≡◌, ℕ, ◌⊎◌, List, ◌++◌, Some, Ok, Err, Result, MatchResult}
use Rattle.board.specs.declared.verdict.Standing.{Standing}
use Rattle.kinds.specs.Kinds.{plan_kind, LaidOut}
use Rattle.kinds.specs.declared.PlanKind.{PlanKind}
use Rattle.plan.specs.declared.Comparator.{Comparator}
use Rattle.refusal.specs.declared.Refusal.{Refusal}
use Rattle.refusal.specs.declared.failure.Failure.{Failure}
use Rattle.refusal.specs.declared.failure.Failure.TheVariants.{Refused, NoMemory}
use Rattle.roundcheck.specs.Checks.{next_opening}
use Rattle.roundcheck.specs.Runs.{Ending}
use Rattle.roundcheck.specs.declared.report.Line.{Line}
use Rattle.roundfile.specs.Reading.{Place, step, open_file}
use Rattle.roundfile.specs.declared.parts.Opening.{Opening}

-- the plan that an opening names
abbrev pub OpeningPlan : Opening → ℕ → List Comparator → Type 0
OpeningPlan o n cs = (kind : PlanKind) × (plan_kind o.plan ≡ Some kind) × (n ≡ o.wires) × LaidOut kind n cs

-- the plan that a file's opening names
abbrev pub FilePlan : List ℕ → ℕ → List Comparator → Type 0
FilePlan file n cs =
    (p : Place) × (t : ℕ × Opening × Place) × (open_file file ≡ Ok p) × (next_opening (step p) ≡ Ok t) × OpeningPlan t.1 n cs

-- the lines are those before and then some that come with this ending
abbrev pub Behind : List Line → (List Line → Ending → Type 0) → List Line → Ending → Type 0
Behind before Comes lines ending = (rest : List Line) × (lines ≡ before ++ rest) × Comes rest ending

-- what is said of a refusal; of want of memory nothing is said
abbrev pub IfRefused : Failure → (Refusal → Type 0) → Type 0
IfRefused (Refused r) P = P r
IfRefused (NoMemory e) P = Unit {0}

-- the ending that was come to
abbrev pub EndsBy : Result Standing Failure → (Ending → Type 0) → Type 0
EndsBy r P = MatchResult r (λ s. P (Ok s)) (λ e. IfRefused e (λ f. P (Err f)))

-- what was come to is this ending; want of memory is none
abbrev pub ComesTo : {Answer : Type 0} → Result Answer Failure → Result Answer Refusal → Type 0
ComesTo (Ok a) ending = ending ≡ Ok a
ComesTo (Err (Refused f)) ending = ending ≡ Err f
ComesTo (Err (NoMemory e)) ending = ⊥

-- Checked says which lines and which ending come of what is checked, and Planned over how many wires and with which
-- comparators. Answers and Refuses say what is done at the file's end.
module _ {Answer : Type 0} (Checked : List Line → Ending → Type 0) (Planned : ℕ → List Comparator → Type 0)
    (Answers : ℕ → List Comparator → List Line → Standing → Answer → Type 0) (Refuses : ℕ → List Comparator → List Line → Standing → Refusal → Type 0) (lines : List Line) where
  -- the check comes to the file's end, and this is answered there
  abbrev pub AnsweredBy : Answer → Type 0
  AnsweredBy a = (n : ℕ) × (cs : List Comparator) × (standing : Standing) × Planned n cs × Checked lines (Ok standing) × Answers n cs lines standing a

  -- the check refuses, or what is done at the file's end
  abbrev pub RefusedBy : Refusal → Type 0
  RefusedBy f =
      Checked lines (Err f)
      ⊎ ((n : ℕ) × (cs : List Comparator) × (standing : Standing) × Planned n cs × Checked lines (Ok standing) × Refuses n cs lines standing f)

  abbrev pub FinishedBy : Result Answer Failure → Type 0
  FinishedBy r = MatchResult r AnsweredBy (λ e. IfRefused e RefusedBy)

  -- the same of an ending, where memory was not wanting
  abbrev pub EndedBy : Result Answer Refusal → Type 0
  EndedBy r = MatchResult r AnsweredBy RefusedBy

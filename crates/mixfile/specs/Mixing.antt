-- A turn on a whole file: the file is checked as any other, and then the turn is served.
use Rattle.std.specs.Prelude.{◌≡◌, ℕ, ◌⊎◌, List, length, Ok, Err}
use Rattle.board.specs.declared.verdict.Standing.{Standing}
use Rattle.plan.specs.declared.Comparator.{Comparator}
use Rattle.refusal.specs.Table.{refused_at}
use Rattle.refusal.specs.declared.Reason.{Reason}
use Rattle.refusal.specs.declared.Refusal.{Refusal}
use Rattle.roundcheck.specs.Checks.{Checks}
use Rattle.roundcheck.specs.Finishing.{FilePlan}
use Rattle.roundcheck.specs.Runs.{Ending}
use Rattle.roundcheck.specs.declared.report.Line.{Line}
use Rattle.mixfile.specs.Turns.{Served, Unserved}

-- Checked says which lines and which ending come of what is checked, and Planned over how many wires and with which
-- comparators.
module _ (Checked : List Line → Ending → Type 0) (Planned : ℕ → List Comparator → Type 0) (file p : List ℕ) (words : ℕ) where
  -- the check comes to the file's end, and the turn behind it is served
  abbrev pub MixedBy : List ℕ → Type 0
  MixedBy out =
      (n : ℕ) × (cs : List Comparator) × (lines : List Line) × (standing : Standing)
      × Planned n cs × Checked lines (Ok standing) × Served n cs lines (Ok standing) file p words out

  -- the file is refused, or the turn is, at the file's length
  abbrev pub UnmixedBy : Refusal → Type 0
  UnmixedBy f =
      ((lines : List Line) × Checked lines (Err f))
      ⊎ ((n : ℕ) × (cs : List Comparator) × (lines : List Line) × (standing : Standing) × (why : Reason)
      × Planned n cs × Checked lines (Ok standing) × Unserved n cs lines (Ok standing) file p words why × (f ≡ refused_at why (length file)))

-- Of these bytes, a permutation and so many secret words comes this file, or this refusal.
abbrev pub Mixed : List ℕ → List ℕ → ℕ → List ℕ → Type 0
Mixed file p words out = MixedBy (Checks file) (FilePlan file) file p words out

abbrev pub Unmixed : List ℕ → List ℕ → ℕ → Refusal → Type 0
Unmixed file p words f = UnmixedBy (Checks file) (FilePlan file) file p words f

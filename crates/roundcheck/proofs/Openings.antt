-- How what an opening answers makes the check of a round.
use Rattle.std.proofs.Common.{◌≡◌, ℕ, List, [], ◌∷◌, ◌++◌, Some, None, Ok, Err, Option, Result, sym, refl, ap, ◌∙◌, subst, inl, inr}
use Rattle.std.proofs.lemmas.List.{append_assoc}
use Rattle.board.specs.Calls.{terms}
use Rattle.board.specs.Rounds.{judge_open, blank}
use Rattle.board.specs.States.{State, opened}
use Rattle.board.specs.declared.verdict.Standing.{Standing}
use Rattle.elgamal.specs.declared.Ciphertext.{Ciphertext}
use Rattle.group.specs.Exponents.{Exponents}
use Rattle.group.specs.Operations.{Operations}
use Rattle.plan.specs.declared.Comparator.{Comparator}
use Rattle.prover.specs.States.{Outcome}
use Rattle.refusal.specs.Table.{refused_at}
use Rattle.refusal.specs.declared.Reason.{Reason}
use Rattle.refusal.specs.declared.Refusal.{Refusal}
use Rattle.refusal.specs.declared.failure.Failure.{Failure}
use Rattle.refusal.specs.declared.failure.Failure.TheVariants.{Refused, NoMemory}
use Rattle.kinds.specs.Kinds.{group_kind}
use Rattle.kinds.specs.declared.GroupKind.{GroupKind}
use Rattle.roundfile.specs.Reading.{Place, step, open_file}
use Rattle.roundfile.specs.declared.parts.Opening.{Opening}
use Rattle.roundcheck.specs.Checks.{next_opening, next_draws, Checks, ChecksGroup, ChecksFirst, KeyRead, ChecksKey, ChecksRound}
use Rattle.roundcheck.specs.Finishing.{OpeningPlan, FilePlan, Behind, RefusedBy, FinishedBy}
use Rattle.roundcheck.specs.Runs.{Ending}
use Rattle.roundcheck.specs.declared.report.Line.{Line}
use Rattle.roundcheck.specs.declared.report.Line.TheVariants.{Round}

-- what is said of a part of a check is said of the whole
module _ {Answer : Type 0} (A B : List Line → Ending → Type 0) (P Q : ℕ → List Comparator → Type 0) (Answers : ℕ → List Comparator → List Line → Standing → Answer → Type 0)
    (Refuses : ℕ → List Comparator → List Line → Standing → Refusal → Type 0) (lines : List Line)
    (f : (ending : Ending) → A lines ending → B lines ending) (h : (n : ℕ) (cs : List Comparator) → P n cs → Q n cs) where
  refused_more : (r : Refusal) → RefusedBy A P Answers Refuses lines r → RefusedBy B Q Answers Refuses lines r
  refused_more r (inl x) = inl (f (Err r) x)
  refused_more r (inr x) = inr (x.0, x.1, x.2, h x.0 x.1 x.3, f (Ok x.2) x.4, x.5)

  pub finished_more : (r : Result Answer Failure) → FinishedBy A P Answers Refuses lines r → FinishedBy B Q Answers Refuses lines r
  finished_more (Ok a) x = (x.0, x.1, x.2, h x.0 x.1 x.3, f (Ok x.2) x.4, x.5)
  finished_more (Err (Refused r)) x = refused_more r x
  finished_more (Err (NoMemory e)) x = tt

-- what comes of the group that a file's opening names, behind the lines before, comes of the file
module _ {Answer : Type 0} (file : List ℕ) (p : Place) (offset : ℕ) (o : Opening) (q : Place) (kind : GroupKind) (before lines : List Line)
    (Answers : ℕ → List Comparator → List Line → Standing → Answer → Type 0) (Refuses : ℕ → List Comparator → List Line → Standing → Refusal → Type 0) where
  pub finished_whole : open_file file ≡ Ok p → next_opening (step p) ≡ Ok (offset, o, q) → group_kind o.group ≡ Some kind → (r : Result Answer Failure)
      → FinishedBy (Behind before (ChecksGroup (Some kind) offset o q)) (OpeningPlan o) Answers Refuses lines r
      → FinishedBy (Behind before (Checks file)) (FilePlan file) Answers Refuses lines r
  finished_whole opens next named r h =
      finished_more (Behind before (ChecksGroup (Some kind) offset o q)) (Behind before (Checks file)) (OpeningPlan o) (FilePlan file) Answers Refuses lines
      (λ ending x. (x.0, x.1, rw (opens, next, named) x.2))
      (λ n cs x. (p, (offset, o, q), opens, next, x))
      r h

-- a call that answered a value was not to be refused
pub not_refused : {X : Type 0} (j : Option Reason) (place : ℕ) (V : X → Type 0) (x : X) → Outcome j place V (Ok x) → (j ≡ None) × V x
not_refused None place V x h = (refl, h)
not_refused (Some why) place V x h = absurd h

pub was_refused : {X : Type 0} (j : Option Reason) (place : ℕ) (V : X → Type 0) (f : Refusal) → Outcome j place V (Err f) → j ≡ Some f.reason
was_refused None place V f h = absurd h
was_refused (Some why) place V f h = ap (λ (x : Refusal). Some x.reason) (sym h)

module _ {Point : Type 0} (G : Operations Point) (E : Exponents) (number : ℕ → ℕ) (n : ℕ) (cs : List Comparator) (offset : ℕ) (o : Opening) (q : Place) (y : Point) where
  pub opened_round : (s : State (Ciphertext Point)) (before now lines : List Line) (ending : Ending)
      → KeyRead G o y → judge_open G n o.servers y n n ≡ None → s ≡ opened n o.servers (blank G) → now ≡ before ++ Round o ∷ []
      → Behind now (ChecksFirst number (λ S. terms G E S y cs) s (next_draws (step q))) lines ending
      → Behind before (ChecksRound G E number n cs offset o q) lines ending
  opened_round s before now lines ending read judged is first h = (
    Round o ∷ h.0,
    h.1 ∙ ap (λ (xs : List Line). xs ++ h.0) first ∙ append_assoc before (Round o ∷ []) h.0,
    inr (
      y,
      read,
      subst (λ (j : Option Reason). ChecksKey G E number y n cs offset o q j (Round o ∷ h.0) ending) (sym judged)
          (h.0, refl, subst (λ (t : State (Ciphertext Point)). ChecksFirst number (λ S. terms G E S y cs) t (next_draws (step q)) h.0 ending) is h.2),
    ),
  )

  pub refused_round : (why : Reason) (r : Refusal) → KeyRead G o y → judge_open G n o.servers y n n ≡ Some why → r ≡ refused_at why offset
      → ChecksRound G E number n cs offset o q [] (Err r)
  refused_round why r read judged is =
      inr (y, read, subst (λ (j : Option Reason). ChecksKey G E number y n cs offset o q j [] (Err r)) (sym judged) (refl, ap Err is))

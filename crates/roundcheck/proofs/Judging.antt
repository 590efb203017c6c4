-- A record that the board refuses, and how lines are joined to a run.
use Rattle.std.proofs.Common.{◌≡◌, ℕ, ◌*◌, List, [], ◌∷◌, ◌++◌, Some, None, Ok, Err, Option, sym, refl, ap, ◌∙◌, subst, inl, inr}
use Rattle.std.proofs.lemmas.List.{append-nil, append_assoc}
use Rattle.board.specs.Calls.{Terms, judge_call, HappensBy, Happens}
use Rattle.board.specs.States.{State}
use Rattle.board.specs.declared.events.Event.{Event}
use Rattle.elgamal.specs.declared.Ciphertext.{Ciphertext}
use Rattle.refusal.specs.Table.{refused_at}
use Rattle.refusal.specs.declared.Reason.{Reason}
use Rattle.refusal.specs.declared.Refusal.{Refusal}
use Rattle.roundfile.specs.Reading.{Place, Found, Step, gave, step}
use Rattle.roundcheck.specs.Events.{call_of, EventRead}
use Rattle.roundcheck.specs.Runs.{Ending, JudgesCall, Judges, Ends, Runs}
use Rattle.roundcheck.specs.declared.report.Line.{Line}

module _ {Point : Type 0} (T : Terms Point) (number : ℕ → ℕ) where
  -- the board's refusal becomes the record's
  pub refused_call : (s s' : State (Ciphertext Point)) (codes : Event ℕ ℕ) (f : Found) (e : Event Point ℕ) (bytes : ℕ) (told r : Refusal)
      → EventRead T.group number codes e → bytes ≡ 11 * T.group.width → Happens T s e bytes (Err told) s' → r ≡ refused_at told.reason f.offset
      → JudgesCall T number (Some codes) s f (Err r) s'
  refused_call s s' codes f e bytes told r read room h is =
      by (judge_call T s e (11 * T.group.width)) refl (subst (λ (n : ℕ). Happens T s e n (Err told) s') room h)
    where
      by : (j : Option Reason) → judge_call T s e (11 * T.group.width) ≡ j → HappensBy T j s e (Err told) s' → JudgesCall T number (Some codes) s f (Err r) s'
      by None q h = absurd h
      by (Some why) q h = inr (e, why, read, q, is ∙ ap (λ (x : Refusal). refused_at x.reason f.offset) h.0, h.1)

  -- a refused record alters nothing
  pub refused_kept : (s s' : State (Ciphertext Point)) (f : Found) (r : Refusal) → Judges T number s f (Err r) s' → Judges T number s f (Err r) s
  refused_kept s s' f r h = by (call_of f.holds) h
    where
      by : (o : Option (Event ℕ ℕ)) → JudgesCall T number o s f (Err r) s' → JudgesCall T number o s f (Err r) s
      by None h = (h.0, refl)
      by (Some codes) (inl h) = inl (h.0, h.1, refl)
      by (Some codes) (inr h) = inr (h.0, h.1, h.2, h.3, h.4, refl)

  -- the lines so far stand before those of any run that goes on from here
  abbrev pub SoFar : Place → State (Ciphertext Point) → List Line → Place → State (Ciphertext Point) → List Line → Type 0
  SoFar p₀ s₀ before p s now =
      (done : List Line) × (now ≡ before ++ done) × ((rest : List Line) (ending : Ending) → Runs T number p s rest ending → Runs T number p₀ s₀ (done ++ rest) ending)

  module _ (p₀ : Place) (s₀ : State (Ciphertext Point)) (before : List Line) where
    pub begun : SoFar p₀ s₀ before p₀ s₀ before
    begun = ([], sym (append-nil before), λ rest ending r. r)

    pub went_on : (p q : Place) (s s' : State (Ciphertext Point)) (now after : List Line) (f : Found) (line : Line)
        → SoFar p₀ s₀ before p s now → step p ≡ gave f q → Judges T number s f (Ok line) s' → after ≡ now ++ line ∷ [] → SoFar p₀ s₀ before q s' after
    went_on p q s s' now after f line h st judged is = (
      h.0 ++ line ∷ [],
      is ∙ ap (λ (xs : List Line). xs ++ line ∷ []) h.1 ∙ append_assoc before h.0 (line ∷ []),
      λ rest ending r. subst (λ (xs : List Line). Runs T number p₀ s₀ xs ending) (sym (append_assoc h.0 (line ∷ []) rest)) (h.2 (line ∷ rest) ending (f, q, s', st, judged, r)),
    )

    pub stopped : (p : Place) (s : State (Ciphertext Point)) (now : List Line) (x : Step) (ending : Ending)
        → SoFar p₀ s₀ before p s now → step p ≡ x → Ends T number s x ending → (rest : List Line) × (now ≡ before ++ rest) × Runs T number p₀ s₀ rest ending
    stopped p s now x ending h is e =
        (h.0, h.1, subst (λ (xs : List Line). Runs T number p₀ s₀ xs ending) (append-nil h.0) (h.2 [] ending (subst (λ (y : Step). Ends T number s y ending) (sym is) e)))

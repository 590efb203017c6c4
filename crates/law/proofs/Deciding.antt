-- What is asked of a board decides what it answers and how it is left.
use Rattle.std.proofs.Common.{◌≡◌, ℕ, [], ◌∷◌, map, Some, None, Ok, Err, Option, Result, sym, refl, ap, ◌∙◌, arith}
use mathlib.Core.Path.{subst₃}
use Rattle.board.specs.Calls.{Terms, judge_call, Answers, HappensBy, Happens}
use Rattle.board.specs.States.{State}
use Rattle.board.specs.declared.events.Event.{Event}
use Rattle.board.specs.declared.events.Event.TheVariants.{Post, Close, Step, Expel}
use Rattle.board.specs.declared.events.Taken.{Taken}
use Rattle.board.specs.declared.events.Taken.TheVariants.{Stepped}
use Rattle.elgamal.specs.declared.Ciphertext.{Ciphertext}
use Rattle.refusal.specs.declared.Reason.{Reason}
use Rattle.refusal.specs.declared.Refusal.{Refusal}
use Rattle.law.specs.Histories.{asked, Calls, RunOfCalls}

same_some : {X : Type 0} (o : Option X) (x y : X) → o ≡ Some x → o ≡ Some y → x ≡ y
same_some o x y e f = cc

module _ {P : Type 0} (T : Terms P) where
  answers_once : (s : State (Ciphertext P)) (e : Event P ℕ) (t u : Taken) → Answers T s e t → Answers T s e u → t ≡ u
  answers_once s (Post c) t u h k = h ∙ sym k
  answers_once s Close t u h k = h ∙ sym k
  answers_once s (Step m) t u h k = h.2 ∙ ap (Stepped s.server s.next) (same_some _ h.0 k.0 h.1 k.1) ∙ sym k.2
  answers_once s Expel t u h k = h ∙ sym k

  happens_once : (j : Option Reason) (s : State (Ciphertext P)) (e : Event P ℕ) (r r' : Result Taken Refusal) (z z' : State (Ciphertext P)) → HappensBy T j s e r z → HappensBy T j s e r' z' → (r ≡ r') × (z ≡ z')
  happens_once None s e (Ok t) (Ok u) z z' h k = (ap Ok (answers_once s e t u h.0 k.0), h.1 ∙ sym k.1)
  happens_once None s e (Ok t) (Err f) z z' h k = absurd k
  happens_once None s e (Err f) r' z z' h k = absurd h
  happens_once (Some why) s e (Ok t) r' z z' h k = absurd h
  happens_once (Some why) s e (Err f) (Ok t) z z' h k = absurd k
  happens_once (Some why) s e (Err f) (Err g) z z' h k = (ap Err (h.0 ∙ sym k.0), h.1 ∙ sym k.1)

  pub runs_once : (s₀ : State (Ciphertext P)) (h h' : Calls P) (s s' : State (Ciphertext P)) → map asked h ≡ map asked h' → RunOfCalls T s₀ h s → RunOfCalls T s₀ h' s' → (h ≡ h') × (s ≡ s')
  runs_once s₀ [] [] s s' e r r' = (refl, r ∙ sym r')
  runs_once s₀ [] (c' ∷ h') s s' e r r' = absurd (let z : ◌≡◌ {A = ℕ} 0 1 = cc in omega arith)
  runs_once s₀ (c ∷ h) [] s s' e r r' = absurd (let z : ◌≡◌ {A = ℕ} 0 1 = cc in omega arith)
  runs_once s₀ (c ∷ h) (c' ∷ h') s s' e r r' =
      let first : asked c ≡ asked c' = cc in
      let others : map asked h ≡ map asked h' = cc in
      let before = runs_once s₀ h h' r.0 r'.0 others r.1 r'.1 in
      let event : c.event ≡ c'.event = ap (λ (q : Event P ℕ × ℕ). q.0) first in
      let bytes : c.bytes ≡ c'.bytes = ap (λ (q : Event P ℕ × ℕ). q.1) first in
      let once = happens_once (judge_call T r.0 c.event c.bytes) r.0 c.event c.answer c'.answer s s' r.2
      (subst₃ (λ (z : State (Ciphertext P)) (i : Event P ℕ) (b : ℕ). Happens T z i b c'.answer s') (sym before.1) (sym event) (sym bytes) r'.2) in
      (λ i. record { event = event i; bytes = bytes i; answer = once.0 i } ∷ before.0 i, once.1)

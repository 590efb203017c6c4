-- A call that was taken.
use Rattle.std.proofs.Common.{◌≡◌, ℕ, Some, None, Ok, Option, Result, subst}
use Rattle.board.specs.Calls.{Terms, judge_call, after_call, HappensBy, Happens}
use Rattle.board.specs.States.{State}
use Rattle.board.specs.declared.events.Event.{Event}
use Rattle.board.specs.declared.events.Taken.{Taken}
use Rattle.elgamal.specs.declared.Ciphertext.{Ciphertext}
use Rattle.refusal.specs.declared.Reason.{Reason}
use Rattle.refusal.specs.declared.Refusal.{Refusal}

module _ {Point : Type 0} (T : Terms Point) (s s' : State (Ciphertext Point)) (e : Event Point ℕ) (bytes : ℕ) where
  pub taken_state : (r : Result Taken Refusal) (t : Taken) → r ≡ Ok t → Happens T s e bytes r s' → s' ≡ after_call T s e
  taken_state r t is h = by (judge_call T s e bytes) (subst (λ (x : Result Taken Refusal). Happens T s e bytes x s') is h)
    where
      by : (j : Option Reason) → HappensBy T j s e (Ok t) s' → s' ≡ after_call T s e
      by None h = h.1
      by (Some why) h = absurd h

-- Histories of a board: calls with their answers and whole turns that were served, and the states that they lead to.
use Rattle.std.specs.Prelude.{◌≡◌, ℕ, ◌+◌, List, [], ◌∷◌, Ok, Err, Result}
use Rattle.board.specs.Calls.{Terms, Happens}
use Rattle.board.specs.Serving.{Serves}
use Rattle.board.specs.States.{State}
use Rattle.board.specs.declared.events.Event.{Event}
use Rattle.board.specs.declared.events.Event.TheVariants.{Step}
use Rattle.board.specs.declared.events.Taken.{Taken}
use Rattle.board.specs.declared.events.Taken.TheVariants.{Stepped}
use Rattle.elgamal.specs.declared.Ciphertext.{Ciphertext}
use Rattle.plan.specs.declared.Comparator.{Comparator}
use Rattle.prover.specs.declared.states.Message.{Message}
use Rattle.refusal.specs.declared.Refusal.{Refusal}

-- what was called, how many bytes the posting buffer had that was lent, and what was answered
pub record Call (Point : Type 0) : Type 0 where
  pub event : Event Point ℕ
  pub bytes : ℕ
  pub answer : Result Taken Refusal

-- what was asked of the board in a call
abbrev pub asked : {Point : Type 0} → Call Point → Event Point ℕ × ℕ
asked c = (c.event, c.bytes)

-- An honest server's whole turn that was asked for: what serve was lent, the steps that it made, and what it answered.
pub record Service (Point : Type 0) : Type 0 where
  pub permutation : List ℕ
  pub places : ℕ
  pub words : List ℕ
  pub bytes : ℕ
  pub steps : List (Message Point ℕ)
  pub answer : Result ℕ Refusal

pub data Item (Point : Type 0) : Type 0 where
  call : Call Point → Item Point
  serve : Service Point → Item Point

-- any calls and services, taken or refused, the latest one first
abbrev pub History : Type 0 → Type 0
History Point = List (Item Point)

-- calls alone
abbrev pub Calls : Type 0 → Type 0
Calls Point = List (Call Point)

abbrev pub Leads : {Point : Type 0} → Terms Point → ℕ → State (Ciphertext Point) → Item Point → State (Ciphertext Point) → Type 0
Leads T n s (call c) s' = Happens T s c.event c.bytes c.answer s'
Leads T n s (serve v) s' = Serves T n s v.permutation v.places v.words v.bytes v.steps v.answer s'

-- The items of a history, one after another, lead from s₀ to s over n wires. As they are any items, every way of choosing them by earlier answers is among them.
abbrev pub Run : {Point : Type 0} → Terms Point → ℕ → State (Ciphertext Point) → History Point → State (Ciphertext Point) → Type 0
Run T n s₀ [] s = s ≡ s₀
Run {Point} T n s₀ (i ∷ h) s = (before : State (Ciphertext Point)) × Run T n s₀ h before × Leads T n before i s

abbrev pub RunOfCalls : {Point : Type 0} → Terms Point → State (Ciphertext Point) → Calls Point → State (Ciphertext Point) → Type 0
RunOfCalls T s₀ [] s = s ≡ s₀
RunOfCalls {Point} T s₀ (c ∷ h) s = (before : State (Ciphertext Point)) × RunOfCalls T s₀ h before × Happens T before c.event c.bytes c.answer s

-- Steps that a server took on one comparator after another, from the k-th on, as calls that followed h.
abbrev pub stepped : {Point : Type 0} → (server bytes k : ℕ) → List Comparator → List (Message Point ℕ) → Calls Point → Calls Point
stepped server bytes k [] ms h = h
stepped server bytes k (c ∷ cs) [] h = h
stepped server bytes k (c ∷ cs) (m ∷ ms) h = stepped server bytes (k + 1) cs ms (record { event = Step m; bytes = bytes; answer = Ok (Stepped server k c) } ∷ h)

-- a service that was taken is its steps, one that was refused is none
abbrev pub service_calls : {Point : Type 0} → List Comparator → ℕ → List (Message Point ℕ) → Result ℕ Refusal → Calls Point → Calls Point
service_calls cs bytes steps (Ok server) h = stepped server bytes 0 cs steps h
service_calls cs bytes steps (Err f) h = h

-- a history as calls alone, where the plan has these comparators
abbrev pub expanded : {Point : Type 0} → List Comparator → History Point → Calls Point
expanded cs [] = []
expanded cs (call c ∷ h) = c ∷ expanded cs h
expanded cs (serve v ∷ h) = service_calls cs v.bytes v.steps v.answer (expanded cs h)

-- The law of a round: what holds of a board after any history of calls and services, taken or refused.
use Rattle.std.specs.Prelude.{◌≡◌, ℕ, ◌+◌, ◌-◌, ◌*◌, ◌<◌, ◌∷◌, ◌++◌, length, take, replicate, Some, Ok}
use Rattle.board.specs.Calls.{Terms, Happens}
use Rattle.board.specs.Rounds.{blank}
use Rattle.board.specs.States.{State, opened}
use Rattle.board.specs.Steps.{comparison_at}
use Rattle.board.specs.declared.events.Event.TheVariants.{Step}
use Rattle.board.specs.declared.events.Stage.{Stage}
use Rattle.board.specs.declared.events.Stage.TheVariants.{Gathering, Turning, Finished}
use Rattle.board.specs.declared.events.Taken.{Taken}
use Rattle.board.specs.declared.events.Taken.TheVariants.{Stepped}
use Rattle.elgamal.specs.Ciphertexts.{PrivateKey}
use Rattle.elgamal.specs.declared.Ciphertext.{Ciphertext}
use Rattle.equivalence.specs.Holding.{Holds}
use Rattle.plan.specs.Plans.{nth}
use Rattle.plan.specs.declared.Comparator.{Comparator}
use Rattle.prover.specs.declared.states.Message.{Message}
use Rattle.law.specs.Histories.{History, Calls, Run, RunOfCalls, expanded}
use Rattle.law.specs.HonestTurns.{HonestTurns}
use Rattle.law.specs.Plaintexts.{plaintexts, often}
use Rattle.law.specs.Turns.{Account, account, kept, completed_turns, present_server, put, last_list, present_list}
use Rattle.law.specs.Witnesses.{RoundWitnessed}

abbrev pub ByStage : Stage → Type 0 → Type 0 → Type 0
ByStage Gathering gathering later = gathering
ByStage Turning gathering later = later
ByStage Finished gathering later = later

module _ {Point : Type 0} (T : Terms Point) where
  -- A step that was taken where the history before it told a: what it found, and what it left.
  pub record StepHeld (a : Account Point) (before after : State (Ciphertext Point)) (m : Message Point ℕ) (t : Taken) : Type 0 where
    pub comparator : Comparator
    pub next : nth T.comparators (length a.present) ≡ Some comparator
    pub answered : t ≡ Stepped (present_server a) (length a.present) comparator
    pub two_wires : comparator.first < comparator.second
    pub on_wires : comparator.second < length before.wires
    pub found : before.wires ≡ present_list T a
    pub wrote : after.wires ≡ put comparator m.outputs before.wires
    -- its proofs, for what it found on its two wires
    pub holds : Holds T.group T.exponents T.source (comparison_at T.key before.wires comparator m.outputs) m.proofs
        (4 * (length T.comparators * (present_server a - 1) + length a.present))

  -- every step that was taken on the way from s₀ to s: wherever the history is cut at one
  abbrev pub StepsHeld : State (Ciphertext Point) → Calls Point → State (Ciphertext Point) → Type 0
  StepsHeld s₀ h s =
      (later earlier : Calls Point) (m : Message Point ℕ) (bytes : ℕ) (t : Taken) → h ≡ later ++ record { event = Step m; bytes = bytes; answer = Ok t } ∷ earlier
      → (before after : State (Ciphertext Point)) × RunOfCalls T s₀ earlier before × Happens T before (Step m) bytes (Ok t) after × RunOfCalls T after later s
      × StepHeld (account T earlier) before after m t

module _ {Point : Type 0} (T : Terms Point) (n : ℕ) where
  -- while quotes are posted
  pub record Gathered (a : Account Point) (s : State (Ciphertext Point)) : Type 0 where
    pub listed : take s.posted s.wires ≡ a.posted
    pub start_blank : s.start ≡ replicate n (blank T.group)

  -- while servers take their turns, and afterwards
  pub record Turned (a : Account Point) (s : State (Ciphertext Point)) : Type 0 where
    pub every_wire_posted : length a.posted ≡ n
    pub start : s.start ≡ last_list T a
    pub wires : s.wires ≡ present_list T a
    -- Where each step that counts is witnessed, every plaintext stands on the wires as often as among the posted quotes, for every private key.
    pub plaintexts_stay : RoundWitnessed T a → (x : ℕ) → PrivateKey T.group T.key x → (m : Point)
        → often T.group m (plaintexts T.group x s.wires) ≡ often T.group m (plaintexts T.group x a.posted)

  -- what the calls from s₀ to s tell, where they told a
  pub record Told (s₀ : State (Ciphertext Point)) (h : Calls Point) (a : Account Point) (s : State (Ciphertext Point)) : Type 0 where
    pub posted : s.posted ≡ length a.posted
    pub servers : s.servers ≡ s₀.servers
    -- whose turn it is; and at the end each server has had one
    pub server : s.stage ≡ Turning → s.server ≡ present_server a
    pub all_turns : s.stage ≡ Finished → length a.past ≡ s.servers
    pub completed : s.completed ≡ completed_turns a.past
    pub next : s.next ≡ length a.present
    -- the steps taken from servers that were not expelled
    pub counted : length (kept a) ≡ length T.comparators * s.completed + s.next
    pub lists : ByStage s.stage (Gathered a s) (Turned a s)
    pub steps_held : StepsHeld T s₀ h s
    pub honest_turns : HonestTurns T n s

  -- This holds of a state, whatever history led to it from a board as it is opened, over n wires and for any number of servers.
  abbrev pub Law : State (Ciphertext Point) → Type 0
  Law s = (servers : ℕ) (h : History Point) → Run T n (opened n servers (blank T.group)) h s
      → Told (opened n servers (blank T.group)) (expanded T.comparators h) (account T (expanded T.comparators h)) s

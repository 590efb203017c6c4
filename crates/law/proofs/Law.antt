-- The law of a round.
use Rattle.std.proofs.Common.{◌≡◌, ℕ, ◌+◌, ◌*◌, List, length, sym, refl, ap, ◌∙◌, subst, length-append}
use Rattle.board.specs.Calls.{Terms}
use Rattle.board.specs.Rounds.{blank}
use Rattle.board.specs.States.{State, opened}
use Rattle.board.specs.declared.events.Stage.{Stage}
use Rattle.board.specs.declared.events.Stage.TheVariants.{Gathering, Turning, Finished}
use Rattle.elgamal.specs.declared.Ciphertext.{Ciphertext}
use Rattle.group.specs.Exponents.{ExponentLaws}
use Rattle.group.specs.Operations.{GroupLaws}
use Rattle.plan.specs.Plans.{Lawful}
use Rattle.law.specs.Histories.{Calls, RunOfCalls, expanded}
use Rattle.law.specs.HonestTurns.{HonestTurns}
use Rattle.law.specs.Law.{ByStage, Gathered, Turned, StepsHeld, Told, Law}
use Rattle.law.specs.Plaintexts.{plaintexts, often}
use Rattle.law.specs.Turns.{Account, account, kept, kept_past, completed_turns}
use Rattle.law.proofs.Counting.{round_keeps}
use Rattle.law.proofs.Following.{TakingTurns, Part, none_kept, followed}
use Rattle.law.proofs.Held.{steps_held}
use Rattle.law.proofs.Serving.{honest_turns, expands}

module _ {P : Type 0} (T : Terms P) (n : ℕ) where
  counted : (a : Account P) (s : State (Ciphertext P)) → length (kept_past a.past) ≡ length T.comparators * completed_turns a.past
      → s.completed ≡ completed_turns a.past → s.next ≡ length a.present → length (kept a) ≡ length T.comparators * s.completed + s.next
  counted a s past done next =
      length-append (kept_past a.past) a.present
      ∙ ap (λ (i : ℕ). i + length a.present) (past ∙ ap (λ (i : ℕ). length T.comparators * i) (sym done))
      ∙ ap (λ (i : ℕ). length T.comparators * s.completed + i) (sym next)

  module _ (laws : GroupLaws T.group) (exponents : ExponentLaws T.exponents) (same : T.group.order ≡ T.exponents.order) (plan : Lawful n T.comparators) where
    turned : (a : Account P) (s : State (Ciphertext P)) → TakingTurns T n a s.next s.completed s.start s.wires → Turned T n a s
    turned a s u = record {
      every_wire_posted = u.full;
      start = u.start_is;
      wires = u.wires_are;
      plaintexts_stay = λ w x key m. ap (λ (ws : List (Ciphertext P)). often T.group m (plaintexts T.group x ws)) u.wires_are
          ∙ round_keeps T x m laws exponents same key n plan.within a u.full w;
    }

    telling : (s₀ : State (Ciphertext P)) (h : Calls P) (a : Account P) (s : State (Ciphertext P)) → StepsHeld T s₀ h s → HonestTurns T n s → s.posted ≡ length a.posted
        → s.servers ≡ s₀.servers → (g : Stage) → s.stage ≡ g → Part T n s₀.servers a s g → Told T n s₀ h a s
    telling s₀ h a s held honest posted servers Gathering e g =
        let done = g.completed ∙ sym (ap completed_turns g.no_past) in
        let next = g.next ∙ sym (ap length g.no_present) in
        record {
          posted = posted;
          servers = servers;
          server = λ q. cc;
          all_turns = λ q. cc;
          completed = done;
          next = next;
          counted = counted a s (none_kept T a g.no_past) done next;
          lists = subst (λ (x : Stage). ByStage x (Gathered T n a s) (Turned T n a s)) (sym e) (record { listed = g.listed; start_blank = g.start_blank });
          steps_held = held;
          honest_turns = honest;
        }
    telling s₀ h a s held honest posted servers Turning e u = record {
      posted = posted;
      servers = servers;
      server = λ q. u.1;
      all_turns = λ q. cc;
      completed = u.0.completed_is;
      next = u.0.next_is;
      counted = counted a s u.0.past u.0.completed_is u.0.next_is;
      lists = subst (λ (x : Stage). ByStage x (Gathered T n a s) (Turned T n a s)) (sym e) (turned a s u.0);
      steps_held = held;
      honest_turns = honest;
    }
    telling s₀ h a s held honest posted servers Finished e u = record {
      posted = posted;
      servers = servers;
      server = λ q. cc;
      all_turns = λ q. u.1 ∙ sym servers;
      completed = u.0.completed_is;
      next = u.0.next_is;
      counted = counted a s u.0.past u.0.completed_is u.0.next_is;
      lists = subst (λ (x : Stage). ByStage x (Gathered T n a s) (Turned T n a s)) (sym e) (turned a s u.0);
      steps_held = held;
      honest_turns = honest;
    }

    law_of_calls : (servers : ℕ) (h : Calls P) (s : State (Ciphertext P)) → RunOfCalls T (opened n servers (blank T.group)) h s → Told T n (opened n servers (blank T.group)) h (account T h) s
    law_of_calls servers h s r =
        let k = followed T n servers plan.some h s r in
        telling (opened n servers (blank T.group)) h (account T h) s (steps_held T laws n plan.within plan.some servers h s r) (honest_turns T laws exponents same n plan servers _ s k)
        k.posted_is k.servers_are s.stage refl k.part

    pub law : (s : State (Ciphertext P)) → Law T n s
    law s servers h r = law_of_calls servers (expanded T.comparators h) s (expands T laws exponents same n plan servers h s r)

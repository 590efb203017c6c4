-- An honest server's turn, served as a whole or step by step; and histories as calls alone.
use Rattle.std.proofs.Common.{◌≡◌, ℕ, ◌+◌, ◌*◌, ◌%◌, ◌<◌, ◌≤◌, Bool, true, false, cond, eqb, List, [], ◌∷◌, length, get_or, Ok, Err, Result, sym, refl, ap, ◌∙◌, subst, ⊎_elim, true≢false, arith, eq-eqb, eqb-true, leb-true}
use borrow.Author.Tests.{eqb-false}
use Rattle.board.specs.Calls.{Terms, is_turning}
use Rattle.board.specs.Rounds.{blank}
use Rattle.board.specs.Serving.{honest_steps, after_steps, lengths_fit, at_start, reaches_through, Serves}
use Rattle.board.specs.States.{State, opened}
use Rattle.board.specs.declared.events.Stage.TheVariants.{Turning, Finished}
use Rattle.drill.proofs.Lists.{both_parts}
use Rattle.elgamal.specs.Ciphertexts.{reencrypted}
use Rattle.elgamal.specs.declared.Ciphertext.{Ciphertext}
use Rattle.equivalence.specs.Judgement.{both}
use Rattle.group.specs.Exponents.{ExponentLaws}
use Rattle.group.specs.Operations.{GroupLaws}
use Rattle.plan.proofs.Totals.{length_run_changing, sums_along_routes}
use Rattle.plan.specs.Plans.{at, Brings, Lawful}
use Rattle.plan.specs.Sums.{run_changing, route_sum}
use Rattle.plan.specs.declared.Comparator.{Comparator}
use Rattle.plan.specs.declared.Setting.{Setting}
use Rattle.posting.specs.Drawing.{buffer_fits}
use Rattle.prover.specs.declared.states.Message.{Message}
use Rattle.refusal.specs.declared.Refusal.{Refusal}
use Rattle.law.specs.Histories.{Calls, Service, History, Run, RunOfCalls, stepped, service_calls, expanded}
use Rattle.law.specs.Histories.Item.{call, serve}
use Rattle.law.specs.HonestTurns.{word_pairs, ServedBy, Served, honest_calls, HonestTurns}
use Rattle.law.specs.Turns.{Account}
use Rattle.law.proofs.Deciding.{runs_once}
use Rattle.law.proofs.Following.{turning_is, Kept, Part, followed}
use Rattle.law.proofs.HonestSteps.{length_word_pairs, by_remainder, adds, ended, turn_ends, Ready, steps_taken}

both_hold : (a b : Bool) → a ≡ true → b ≡ true → both a b ≡ true
both_hold true b e f = f
both_hold false b e f = e

module _ {P : Type 0} (T : Terms P) (laws : GroupLaws T.group) (exponents : ExponentLaws T.exponents) (same : T.group.order ≡ T.exponents.order) (n : ℕ) (plan : Lawful n T.comparators) where
  -- what the comparators make of the wires
  abbrev routed : List Setting → List ℕ → List (Ciphertext P) → List (Ciphertext P)
  routed ss words wires = run_changing (reencrypted T.group T.key) (blank T.group) T.comparators ss (word_pairs (length T.comparators) words) wires

  -- the turn's end is served
  module _ (ss : List Setting) (p words : List ℕ) (s : State (Ciphertext P)) (brings : Brings n T.comparators ss p) (long : length s.wires ≡ n) where
    on_wires : (j : ℕ) → j < n
        → get_or (routed ss words s.wires) j (blank T.group)
        ≡ reencrypted T.group T.key (get_or s.wires (at p j) (blank T.group)) (route_sum T.comparators ss (word_pairs (length T.comparators) words) j % T.group.order)
    on_wires j below =
        sums_along_routes (Ciphertext P) (reencrypted T.group T.key) (adds T laws same) (blank T.group) n T.comparators ss (word_pairs (length T.comparators) words) p s.wires
        plan.within brings (length_word_pairs (length T.comparators) words) long j below
        ∙ sym (by_remainder T laws same (get_or s.wires (at p j) (blank T.group)) _)

    still_long : length (routed ss words s.wires) ≡ n
    still_long = length_run_changing (reencrypted T.group T.key) (blank T.group) T.comparators ss (word_pairs (length T.comparators) words) s.wires ∙ long

    end_served : ServedBy T n ss p words s (ended T laws same s (routed ss words s.wires))
    end_served = go (eqb s.server s.servers) refl
      where
        go : (b : Bool) → eqb s.server s.servers ≡ b → ServedBy T n ss p words s (cond b
            (record { wires = routed ss words s.wires; start = routed ss words s.wires; servers = s.servers; stage = Finished; posted = s.posted; completed = s.completed + 1; server = s.server; next = 0 })
            (record { wires = routed ss words s.wires; start = routed ss words s.wires; servers = s.servers; stage = Turning; posted = s.posted; completed = s.completed + 1; server = s.server + 1; next = 0 }))
        go true e = record { wires = on_wires; long = still_long; start = refl; completed = refl; servers = refl; next = refl; goes_on = λ h. absurd (h (eqb-true _ _ e)); finishes = λ h. refl }
        go false e = record { wires = on_wires; long = still_long; start = refl; completed = refl; servers = refl; next = refl; goes_on = λ h. (refl, refl); finishes = λ h. absurd (eqb-false _ _ e h) }

    steps_end : s.next ≡ 0 → ServedBy T n ss p words s (after_steps T T.comparators (honest_steps T T.comparators ss words s) s)
    steps_end next = go T.comparators refl
      where
        go : (cs : List Comparator) → T.comparators ≡ cs → ServedBy T n ss p words s (after_steps T T.comparators (honest_steps T T.comparators ss words s) s)
        go [] e = absurd (let some = plan.some in let none = ap length e in omega arith)
        go (c ∷ cs) e =
            subst (ServedBy T n ss p words s)
            (sym (subst
            (λ (ds : List Comparator). after_steps T ds (honest_steps T ds ss words s) s
            ≡ ended T laws same s (run_changing (reencrypted T.group T.key) (blank T.group) ds ss (word_pairs (length ds) words) s.wires))
            (sym e)
            (turn_ends T laws same cs c ss words 0 s e (brings.count ∙ ap length e) next)))
            end_served

  -- a server is numbered from 1 on, and all its wires are there, where a history keeps its account
  module _ (servers : ℕ) (a : Account P) (s : State (Ciphertext P)) (k : Kept T n servers a s) (turning : s.stage ≡ Turning) (next : s.next ≡ 0) where
    some_server : 1 ≤ s.server
    some_server = let e = (subst (Part T n servers a s) turning k.part).1 in omega arith

    ready : (cs : List Comparator) → Ready T laws same n s.server 0 s cs
    ready [] = tt
    ready (c ∷ cs) = record { turning = turning; long = k.long; server_is = refl; next_is = next }

    -- honest steps after other calls
    honest_run : (ss : List Setting) (words : List ℕ) (bytes : ℕ) → buffer_fits T.group bytes ≡ true → reaches_through T n s ≡ true → (s₀ : State (Ciphertext P)) (h : Calls P) → RunOfCalls T s₀ h s
        → RunOfCalls T s₀ (stepped s.server bytes 0 T.comparators (honest_steps T T.comparators ss words s) h) (after_steps T T.comparators (honest_steps T T.comparators ss words s) s)
    honest_run ss words bytes fits reaches s₀ h r =
        steps_taken T laws same exponents n plan.within s.server bytes fits some_server (leb-true _ _ reaches) T.comparators ss words 0 s₀ s h refl (ready T.comparators) r

  -- the posting buffer fits where all lengths do
  buffer : (permutation places words bytes : ℕ) → lengths_fit T n permutation places words bytes ≡ true → buffer_fits T.group bytes ≡ true
  buffer permutation places words bytes e =
      (both_parts (eqb words (6 * length T.comparators)) _ (both_parts (eqb places (length T.comparators)) _ (both_parts (eqb permutation n) _ e).1).1).1

  pub honest_turns : (servers : ℕ) (a : Account P) (s : State (Ciphertext P)) → Kept T n servers a s → HonestTurns T n s
  honest_turns servers a s k turning next p words places bytes permutation lengths reaches = record {
    by_serve = by_serve;
    by_steps = λ ss brings.
        let taken = honest_run servers a s k turning next ss words bytes (buffer _ _ _ _ lengths) reaches s [] refl in (
          after_steps T T.comparators (honest_steps T T.comparators ss words s) s,
          record { taken = taken; only = λ h other e r. runs_once T s h (honest_calls T n ss words bytes s) other _ e r taken; served = steps_end ss p words s brings k.long next },
        );
  }
    where
      started : at_start T n s ≡ true
      started = both_hold (is_turning s.stage) _ (ap is_turning turning) (both_hold (eqb s.next 0) _ (eq-eqb _ _ next) (eq-eqb _ _ k.long))

      by_serve : (steps : List (Message P ℕ)) (r : Result ℕ Refusal) (s' : State (Ciphertext P)) → Serves T n s p places words bytes steps r s' → (r ≡ Ok s.server) × Served T n p words s s'
      by_serve steps (Ok server) s' v =
          let route = v.5 in (
            ap Ok v.4,
            (
              route.0,
              route.1,
              subst (ServedBy T n route.0 p words s) (sym (v.6 ∙ ap (λ (ms : List (Message P ℕ)). after_steps T T.comparators ms s) route.2)) (steps_end route.0 p words s route.1 k.long next),
            ),
          )
      by_serve steps (Err f) s' v =
          absurd (⊎_elim (λ u. true≢false (sym lengths ∙ u.0))
          (λ w. ⊎_elim (λ u. true≢false (sym started ∙ u.1)) (λ x. ⊎_elim (λ u. u.2 permutation) (λ u. true≢false (sym reaches ∙ u.3)) x) w) v.0.1)

  module _ (servers : ℕ) where
    served_calls : (v : Service P) (answer : Result ℕ Refusal) (h : Calls P) (before s : State (Ciphertext P)) → ((a : Account P) × Kept T n servers a before)
        → RunOfCalls T (opened n servers (blank T.group)) h before → Serves T n before v.permutation v.places v.words v.bytes v.steps answer s
        → RunOfCalls T (opened n servers (blank T.group)) (service_calls T.comparators v.bytes v.steps answer h) s
    served_calls v (Ok server) h before s k r w =
        let at_turn = both_parts (is_turning before.stage) _ w.1 in
        let at_first = both_parts (eqb before.next 0) _ at_turn.1 in
        let route = w.5 in
        let ms = honest_steps T T.comparators route.0 v.words before in
        let made : RunOfCalls T (opened n servers (blank T.group)) (stepped before.server v.bytes 0 T.comparators ms h) (after_steps T T.comparators ms before) =
        honest_run servers k.0 before k.1 (turning_is before.stage at_turn.0) (eqb-true _ _ at_first.0) route.0 v.words v.bytes (buffer _ _ _ _ w.0) w.3 (opened n servers (blank T.group)) h r in
        subst (RunOfCalls T (opened n servers (blank T.group)) (stepped server v.bytes 0 T.comparators v.steps h)) (sym w.6)
        (subst (λ (xs : List (Message P ℕ)). RunOfCalls T (opened n servers (blank T.group)) (stepped server v.bytes 0 T.comparators xs h) (after_steps T T.comparators xs before)) (sym route.2)
        (subst (λ (i : ℕ). RunOfCalls T (opened n servers (blank T.group)) (stepped i v.bytes 0 T.comparators ms h) (after_steps T T.comparators ms before)) (sym w.4) made))
    served_calls v (Err f) h before s k r w = subst (RunOfCalls T (opened n servers (blank T.group)) h) (sym w.2) r

    -- a history leads where its calls alone do
    pub expands : (h : History P) (s : State (Ciphertext P)) → Run T n (opened n servers (blank T.group)) h s → RunOfCalls T (opened n servers (blank T.group)) (expanded T.comparators h) s
    expands [] s r = r
    expands (call c ∷ h) s r = (r.0, expands h r.0 r.1, r.2)
    expands (serve v ∷ h) s r =
        let before = expands h r.0 r.1 in
        served_calls v v.answer (expanded T.comparators h) r.0 s (_, followed T n servers plan.some (expanded T.comparators h) r.0 before) before r.2

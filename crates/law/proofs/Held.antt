-- Every step that was taken held, on what stood on its wires, at its own draws.
use Rattle.std.proofs.Common.{◌≡◌, ℕ, ◌+◌, ◌-◌, ◌*◌, ◌≤◌, Bool, true, false, cond, eqb, ltb, [], ◌∷◌, ◌++◌, length, set, Some, Ok, sym, refl, ap, ◌∙◌, subst, ap₂, subst₂, ltb-true}
use Rattle.board.specs.Calls.{Terms, question, Happens}
use Rattle.board.specs.Rounds.{blank}
use Rattle.board.specs.States.{State, opened, written_state, stepped_state}
use Rattle.board.specs.Steps.{comparison_at}
use Rattle.board.specs.declared.events.Event.TheVariants.{Step}
use Rattle.board.specs.declared.events.Stage.TheVariants.{Turning, Finished}
use Rattle.board.specs.declared.events.Taken.{Taken}
use Rattle.board.specs.declared.events.Taken.TheVariants.{Stepped}
use Rattle.elgamal.specs.declared.Ciphertext.{Ciphertext}
use Rattle.equivalence.proofs.Exactness.{judged_holds}
use Rattle.equivalence.specs.Holding.{Holds}
use Rattle.group.specs.Operations.{GroupLaws}
use Rattle.plan.proofs.Running.{nth_within}
use Rattle.plan.specs.Plans.{nth, Within}
use Rattle.prover.specs.declared.states.Message.{Message}
use Rattle.refusal.specs.declared.Reason.TheVariants.{WrongStage}
use Rattle.law.specs.Histories.{Calls, RunOfCalls}
use Rattle.law.specs.Law.{StepHeld, StepsHeld}
use Rattle.law.specs.Turns.{Account, account}
use Rattle.law.proofs.Following.{passed, steps, Kept, Part, followed}

-- a step writes its two outputs, and no other wire
stepped_wires : {X : Type 0} (count : ℕ) (s : State X) (a b : ℕ) (x y : X) → (stepped_state count s a b x y).wires ≡ set (set s.wires a x) b y
stepped_wires count s a b x y = go (eqb (s.next + 1) count) (eqb s.server s.servers)
  where
    go : (last final : Bool)
        → (cond last
        (cond final
        (record { wires = set (set s.wires a x) b y; start = set (set s.wires a x) b y; servers = s.servers; stage = Finished; posted = s.posted; completed = s.completed + 1; server = s.server; next = 0 })
        (record { wires = set (set s.wires a x) b y; start = set (set s.wires a x) b y; servers = s.servers; stage = Turning; posted = s.posted; completed = s.completed + 1; server = s.server + 1; next = 0 }))
        (written_state s a b x y)).wires ≡ set (set s.wires a x) b y
    go true true = refl
    go true false = refl
    go false final = refl

module _ {P : Type 0} (T : Terms P) (laws : GroupLaws T.group) (n : ℕ) (within : Within n T.comparators) where
  module _ (a : Account P) (s s' : State (Ciphertext P)) (servers : ℕ) (k : Kept T n servers a s) (m : Message P ℕ) (bytes : ℕ) (t : Taken) (h : Happens T s (Step m) bytes (Ok t) s') where
    step_held : StepHeld T a s s' m t
    step_held =
        let cs = T.comparators in
        let z = steps T s s' m bytes t h in
        let c = z.comparator in
        let u = subst (Part T n servers a s) z.turning k.part in
        let next = u.0.next_is in
        let there : nth cs (length a.present) ≡ Some c = ap (nth cs) (sym next) ∙ z.there in
        let apart = (nth_within n cs (length a.present) c within there).0 in
        let judged = passed (ltb c.second (length s.wires)) WrongStage _ z.judged in
        let inside = ltb-true _ _ judged.0 in
        record {
          comparator = c;
          next = there;
          answered = z.answers ∙ ap₂ (λ i j. Stepped i j c) u.1 next;
          two_wires = apart;
          on_wires = inside;
          found = u.0.wires_are;
          wrote = ap (λ (z : State (Ciphertext P)). z.wires) z.after ∙ stepped_wires (length cs) s c.first c.second m.outputs.first m.outputs.second;
          holds =
              subst₂ (λ (i j : ℕ). Holds T.group T.exponents T.source (comparison_at T.key s.wires c m.outputs) m.proofs (4 * (length cs * (i - 1) + j))) u.1 next
              (judged_holds laws T.exponents T.source (comparison_at T.key s.wires c m.outputs) m.proofs (question T s) judged.1);
        }

  module _ (some : 1 ≤ length T.comparators) (servers : ℕ) where
    -- a run, where its history is cut
    cut : (s₀ : State (Ciphertext P)) (later h : Calls P) (s : State (Ciphertext P)) → RunOfCalls T s₀ (later ++ h) s → (s' : State (Ciphertext P)) × RunOfCalls T s₀ h s' × RunOfCalls T s' later s
    cut s₀ [] h s r = (s, r, refl)
    cut s₀ (c ∷ later) h s r = let x = cut s₀ later h r.0 r.1 in (x.0, x.1, (r.0, x.2, r.2))

    pub steps_held : (h : Calls P) (s : State (Ciphertext P)) → RunOfCalls T (opened n servers (blank T.group)) h s → StepsHeld T (opened n servers (blank T.group)) h s
    steps_held h s r later earlier m bytes t e =
        let s₀ = opened n servers (blank T.group) in
        let x = cut s₀ later (record { event = Step m; bytes = bytes; answer = Ok t } ∷ earlier) s (subst (λ (g : Calls P). RunOfCalls T s₀ g s) e r) in (
          x.1.0,
          x.0,
          x.1.1,
          x.1.2,
          x.2,
          step_held (account T earlier) x.1.0 x.0 servers (followed T n servers some earlier x.1.0 x.1.1) m bytes t x.1.2,
        )

-- What a call does to a board of elements, it does to the board of points that this means.
use Rattle.std.proofs.Common.{◌≡◌, ℕ, ◌*◌, ◌<◌, ◌≤◌, Bool, true, length, Some, None, Ok, Err, Option, Result, sym, ap, ◌∙◌, subst, arith, le-ltb, lt-ltb, eq-eqb, ne_eqb, le-leb, MatchResult}
use Rattle.elgamal.specs.Ciphertexts.{meaning}
use Rattle.elgamal.specs.declared.Ciphertext.{Ciphertext}
use Rattle.plan.specs.Plans.{nth}
use Rattle.posting.specs.Comparison.{pair_meaning}
use Rattle.posting.specs.Drawing.{buffer_fits}
use Rattle.posting.specs.declared.comparison.Pair.{Pair}
use Rattle.prover.specs.declared.states.Message.{Message}
use Rattle.refusal.specs.Table.{refused_at}
use Rattle.refusal.specs.declared.Reason.{Reason}
use Rattle.refusal.specs.declared.Reason.TheVariants.{BoardFull, BoardShort, WrongStage, UnfitLength}
use Rattle.refusal.specs.declared.Refusal.{Refusal}
use Rattle.board.proofs.Meanings.{length-map, map_posted, map_stepped}
use Rattle.equivalence.specs.Judgement.{unless}
use Rattle.board.specs.Calls.{Terms, is_turning, judge_step, judge_call, after_step, StepHappens, HappensBy, Happens}
use Rattle.board.specs.States.{State, state_map, posted_state, closed_state}
use Rattle.board.specs.declared.events.Event.{Event}
use Rattle.board.specs.declared.events.Event.TheVariants.{Post, Close, Step}
use Rattle.board.specs.declared.events.Stage.{Stage}
use Rattle.board.specs.declared.events.Stage.TheVariants.{Gathering, Turning}
use Rattle.board.specs.declared.events.Taken.{Taken}
use Rattle.board.specs.declared.events.Taken.TheVariants.{Posted, Closed}

module _ {E P : Type 0} (T : Terms P) (point : E → P) (s s' : State (Ciphertext E)) (bytes : ℕ) where
  -- what happens by a judgement, where it is the call's
  by : {j : Option Reason} (e : Event P ℕ) (r : Result Taken Refusal) → judge_call T (state_map (meaning point) s) e bytes ≡ j
      → HappensBy T j (state_map (meaning point) s) e r (state_map (meaning point) s') → Happens T (state_map (meaning point) s) e bytes r (state_map (meaning point) s')
  by {j} e r q h = subst (λ (k : Option Reason). HappensBy T k (state_map (meaning point) s) e r (state_map (meaning point) s')) (sym q) h

  pub post_happens : (quote : Ciphertext E) (r : Result Taken Refusal) → s.stage ≡ Gathering
      → MatchResult r (λ t. (s.posted < length s.wires) × (t ≡ Posted s.posted) × (s' ≡ posted_state s quote)) (λ f. (s.posted ≡ length s.wires) × (f ≡ refused_at BoardFull s.next) × (s' ≡ s))
      → Happens T (state_map (meaning point) s) (Post (meaning point quote)) bytes r (state_map (meaning point) s')
  post_happens quote (Ok t) stage o =
      let room = lt-ltb s.posted (length s.wires) o.0 in
      let judged : judge_call T (state_map (meaning point) s) (Post (meaning point quote)) bytes ≡ None = simp (stage, length-map (meaning point) s.wires, room) in
      by (Post (meaning point quote)) (Ok t) judged (o.1, ap (state_map (meaning point)) o.2 ∙ map_posted (meaning point) s quote)
  post_happens quote (Err f) stage o =
      let full = le-ltb s.posted (length s.wires) (omega (arith, o.0)) in
      let judged : judge_call T (state_map (meaning point) s) (Post (meaning point quote)) bytes ≡ Some BoardFull = simp (stage, length-map (meaning point) s.wires, full) in
      by (Post (meaning point quote)) (Err f) judged (o.1, ap (state_map (meaning point)) o.2)

  pub close_happens : (r : Result Taken Refusal) → s.stage ≡ Gathering
      → MatchResult r (λ t. (s.posted ≡ length s.wires) × (t ≡ Closed) × (s' ≡ closed_state s)) (λ f. (s.posted < length s.wires) × (f ≡ refused_at BoardShort s.next) × (s' ≡ s))
      → Happens T (state_map (meaning point) s) Close bytes r (state_map (meaning point) s')
  close_happens (Ok t) stage o =
      let full = eq-eqb s.posted (length s.wires) o.0 in
      let judged : judge_call T (state_map (meaning point) s) Close bytes ≡ None = simp (stage, length-map (meaning point) s.wires, full) in
      by Close (Ok t) judged (o.1, ap (state_map (meaning point)) o.2)
  close_happens (Err f) stage o =
      let short = ne_eqb s.posted (length s.wires) (λ e. omega (arith, o.0)) in
      let judged : judge_call T (state_map (meaning point) s) Close bytes ≡ Some BoardShort = simp (stage, length-map (meaning point) s.wires, short) in
      by Close (Err f) judged (o.1, ap (state_map (meaning point)) o.2)

  by_judgement : (j : Option Reason) (m : Message P ℕ) (outputs : Pair E) → m.outputs ≡ pair_meaning point outputs → (r : Result Taken Refusal)
      → StepHappens j T.comparators s outputs r s' → HappensBy T j (state_map (meaning point) s) (Step m) r (state_map (meaning point) s')
  by_judgement None m outputs e (Ok t) h =
      let after : after_step T (state_map (meaning point) s) m (nth T.comparators s.next) ≡ after_step T (state_map (meaning point) s) m (Some h.0) =
      ap (after_step T (state_map (meaning point) s) m) h.1 in (
        (h.0, h.1, h.2),
        ap (state_map (meaning point)) h.3
            ∙ map_stepped (meaning point) (length T.comparators) s h.0.first h.0.second outputs.first outputs.second
            ∙ ap (λ (o : Pair P). after_step T (state_map (meaning point) s) (record { outputs = o; proofs = m.proofs }) (Some h.0)) (sym e)
            ∙ sym after,
      )
  by_judgement None m outputs e (Err f) h = h
  by_judgement (Some why) m outputs e (Ok t) h = h
  by_judgement (Some why) m outputs e (Err f) h = (h.0, ap (state_map (meaning point)) h.1)

  pub step_happens : (m : Message P ℕ) (outputs : Pair E) → m.outputs ≡ pair_meaning point outputs → (r : Result Taken Refusal)
      → s.stage ≡ Turning → 11 * T.group.width ≤ bytes
      → StepHappens (judge_step T (state_map (meaning point) s) m (nth T.comparators s.next)) T.comparators s outputs r s'
      → Happens T (state_map (meaning point) s) (Step m) bytes r (state_map (meaning point) s')
  step_happens m outputs e r stage room h =
      let fits = le-leb (11 * T.group.width) bytes room in
      let judged : judge_call T (state_map (meaning point) s) (Step m) bytes ≡ judge_step T (state_map (meaning point) s) m (nth T.comparators s.next) = passes fits stage in
      by (Step m) r judged (by_judgement (judge_step T (state_map (meaning point) s) m (nth T.comparators s.next)) m outputs e r h)
    where
      passes : buffer_fits T.group bytes ≡ true → s.stage ≡ Turning → judge_call T (state_map (meaning point) s) (Step m) bytes ≡ judge_step T (state_map (meaning point) s) m (nth T.comparators s.next)
      passes a b =
          ap (λ (x : Bool). unless x UnfitLength (unless (is_turning s.stage) WrongStage (judge_step T (state_map (meaning point) s) m (nth T.comparators s.next)))) a
          ∙ ap (λ (x : Stage). unless (is_turning x) WrongStage (judge_step T (state_map (meaning point) s) m (nth T.comparators s.next))) b

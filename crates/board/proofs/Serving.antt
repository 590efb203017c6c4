-- The next comparator, and honest steps on it.
use Rattle.std.proofs.Common.{◌≡◌, ℕ, zero, suc, ◌+◌, ◌*◌, ◌<◌, ◌≤◌, Bool, true, false, cond, eqb, ltb, List, [], ◌∷◌, map, length, get_or, IfOk, Some, None, Ok, Err, Option, Result, sym, refl, ap, ◌∙◌, subst, ap₂, arith, ltb-true, lt-ltb, eq-eqb, le-leb}
use Rattle.elgamal.specs.Ciphertexts.{meaning}
use Rattle.elgamal.specs.declared.Ciphertext.{Ciphertext}
use Rattle.equivalence.specs.Judgement.{both, unless, judge}
use Rattle.plan.specs.Plans.{nth}
use Rattle.plan.specs.declared.Comparator.{Comparator}
use Rattle.posting.specs.Comparison.{pair_meaning}
use Rattle.posting.specs.declared.comparison.Pair.{Pair}
use Rattle.prover.specs.States.{Outcome, unready, Taken}
use Rattle.prover.specs.declared.states.Message.{Message}
use Rattle.refusal.specs.declared.Reason.{Reason}
use Rattle.refusal.specs.declared.Reason.TheVariants.{UnfitLength, WrongStage, BeyondReach}
use Rattle.refusal.specs.declared.Refusal.{Refusal}
use Rattle.board.proofs.Meanings.{length-map, map_get_or}
use Rattle.board.specs.Calls.{Terms, question, is_turning, judge_step, judge_call}
use Rattle.board.specs.Serving.{inputs_on, on_the_wires, next_comparator, judge_reach, judge_honest}
use Rattle.board.specs.States.{State, state_map}
use Rattle.board.specs.Steps.{comparison_at}
use Rattle.board.specs.declared.events.Event.TheVariants.{Step}
use Rattle.board.specs.declared.events.Stage.{Stage}
use Rattle.board.specs.declared.events.Stage.TheVariants.{Gathering, Turning, Finished}

-- what is known of the comparator that is next
pub record Next {X : Type 0} (cs : List Comparator) (s : State X) (c : Comparator) : Type 0 where
  pub listed : nth cs s.next ≡ Some c
  pub inside : c.second < length s.wires
  pub turning : s.stage ≡ Turning

on_wires_is : {X : Type 0} (wires : List X) (o : Option Comparator) (c : Comparator) → on_the_wires wires o ≡ Some c → (o ≡ Some c) × (c.second < length wires)
on_wires_is wires None c e = absurd (let z : ◌≡◌ {A = ℕ} 0 1 = cc in omega arith)
on_wires_is wires (Some d) c e = by (ltb d.second (length wires)) refl e
  where
    by : (b : Bool) → ltb d.second (length wires) ≡ b → cond b (Some d) None ≡ Some c → (Some d ≡ Some c) × (c.second < length wires)
    by true h e = (e, let same : d ≡ c = cc in subst (λ (x : Comparator). x.second < length wires) same (ltb-true d.second (length wires) h))
    by false h e = absurd (let z : ◌≡◌ {A = ℕ} 0 1 = cc in omega arith)

pub next_is : {X : Type 0} (cs : List Comparator) (s : State X) (c : Comparator) → next_comparator cs s ≡ Some c → Next cs s c
next_is cs s c e = by s.stage refl e
  where
    by : (t : Stage) → s.stage ≡ t → cond (is_turning t) (on_the_wires s.wires (nth cs s.next)) None ≡ Some c → Next cs s c
    by Gathering h e = absurd (let z : ◌≡◌ {A = ℕ} 0 1 = cc in omega arith)
    by Turning h e = let r = on_wires_is s.wires (nth cs s.next) c e in record { listed = r.0; inside = r.1; turning = h }
    by Finished h e = absurd (let z : ◌≡◌ {A = ℕ} 0 1 = cc in omega arith)

on_wires_map : {X Y : Type 0} (f : X → Y) (wires : List X) (o : Option Comparator) → on_the_wires (map f wires) o ≡ on_the_wires wires o
on_wires_map f wires None = refl
on_wires_map f wires (Some c) = ap (λ (n : ℕ). cond (ltb c.second n) (Some c) None) (length-map f wires)

pub next_map : {X Y : Type 0} (f : X → Y) (cs : List Comparator) (s : State X) → next_comparator cs (state_map f s) ≡ next_comparator cs s
next_map f cs s = ap (λ (o : Option Comparator). cond (is_turning s.stage) o None) (on_wires_map f s.wires (nth cs s.next))

off_wires : (b : Bool) (c : Comparator) (rest : Option Reason) → cond b (Some c) None ≡ None → unless b WrongStage rest ≡ Some WrongStage
off_wires true c rest e = absurd (let z : ◌≡◌ {A = ℕ} 0 1 = cc in omega arith)
off_wires false c rest e = refl

-- in a turn a step is refused where no comparator is next
pub unmet : {P : Type 0} (T : Terms P) (s : State (Ciphertext P)) (m : Message P ℕ)
    → s.stage ≡ Turning → next_comparator T.comparators s ≡ None → judge_step T s m (nth T.comparators s.next) ≡ Some WrongStage
unmet T s m turning e =
    by (nth T.comparators s.next) (ap (λ (t : Stage). cond (is_turning t) (on_the_wires s.wires (nth T.comparators s.next)) None) (sym turning) ∙ e)
  where
    by : (o : Option Comparator) → on_the_wires s.wires o ≡ None → judge_step T s m o ≡ Some WrongStage
    by None e = refl
    by (Some c) e = off_wires (ltb c.second (length s.wires)) c _ e

-- within a list every default does
pub get_or_within : {X : Type 0} (xs : List X) (i : ℕ) (d e : X) → i < length xs → get_or xs i d ≡ get_or xs i e
get_or_within [] i d e h = absurd (omega (arith, h))
get_or_within (x ∷ xs) zero d e h = refl
get_or_within (x ∷ xs) (suc i) d e h = get_or_within xs i d e (omega (arith, h))

pub outcome_more : {X : Type 0} (j : Option Reason) (place : ℕ) (P Q : X → Type 0) (r : Result X Refusal) → ((x : X) → P x → Q x) → Outcome j place P r → Outcome j place Q r
outcome_more None place P Q (Ok x) f h = f x h
outcome_more None place P Q (Err e) f h = h
outcome_more (Some why) place P Q (Ok x) f h = h
outcome_more (Some why) place P Q (Err e) f h = h

-- what is known at every d is known at one that the value picks
pub made_at : {X E D : Type 0} (r : Result X E) (P : D → X → Type 0) (pick : X → D) → ((d : D) → IfOk r (P d)) → IfOk r (λ x. P (pick x) x)
made_at (Ok x) P pick h = h (pick x)
made_at (Err e) P pick h = tt

pub made_more : {X E : Type 0} (r : Result X E) (P Q : X → Type 0) → ((x : X) → P x → Q x) → IfOk r P → IfOk r Q
made_more (Ok x) P Q f h = f x h
made_more (Err e) P Q f h = tt

-- the inputs that a board of elements reads mean those of the board of points
pub inputs_meaning : {E P : Type 0} (point : E → P) (wires : List (Ciphertext E)) (c : Comparator) (r : Pair E) → ((d : Pair E) → r ≡ inputs_on d wires c)
    → c.first < length wires → c.second < length wires → (d : Pair P) → pair_meaning point r ≡ inputs_on d (map (meaning point) wires) c
inputs_meaning {E} {P} point wires c r is a b d =
    let long = length-map (meaning point) wires in
    ap (pair_meaning point) (is r)
    ∙ ap₂ {C = Pair P} (λ x y. record { first = x; second = y })
    (sym (map_get_or (meaning point) wires c.first r.first) ∙ get_or_within (map (meaning point) wires) c.first _ d.first (omega (arith, a, long)))
    (sym (map_get_or (meaning point) wires c.second r.second) ∙ get_or_within (map (meaning point) wires) c.second _ d.second (omega (arith, b, long)))

module _ {P : Type 0} (T : Terms P) (s : State (Ciphertext P)) (words bytes : ℕ) where
  pub judged_next : (o : Option Comparator) → words ≡ 6 → 11 * T.group.width ≤ bytes → next_comparator T.comparators s ≡ o → judge_honest T s words bytes ≡ judge_reach T s o
  judged_next o six room e =
      ap₂ (λ (a b : Bool). unless (both a b) UnfitLength (judge_reach T s (next_comparator T.comparators s))) (eq-eqb words 6 six) (le-leb (11 * T.group.width) bytes room) ∙ ap (judge_reach T s) e

  pub judged_prove : (q : ℕ) → words ≡ 6 → 11 * T.group.width ≤ bytes → unless (eqb words 6) UnfitLength (unready T.group T.source q bytes) ≡ unless (ltb (q + 3) T.source.reach) BeyondReach None
  judged_prove q six room =
      ap₂ (λ (a b : Bool). unless a UnfitLength (unless b UnfitLength (unless (ltb (q + 3) T.source.reach) BeyondReach None))) (eq-eqb words 6 six) (le-leb (11 * T.group.width) bytes room)

-- an honest message is taken as a step
pub honest_judged : {P : Type 0} (T : Terms P) (s : State (Ciphertext P)) (c : Comparator) (bytes q : ℕ) (inputs : Pair P) (m : Message P ℕ)
    → Next T.comparators s c → 11 * T.group.width ≤ bytes → inputs ≡ inputs_on m.outputs s.wires c → q ≡ question T s
    → Taken T.group T.exponents T.source T.key inputs m q → judge_call T s (Step m) bytes ≡ None
honest_judged {P} T s c bytes q inputs m next room is same taken =
    ap₂ (λ (a b : Bool). unless a UnfitLength (unless b WrongStage (judge_step T s m (nth T.comparators s.next)))) (le-leb (11 * T.group.width) bytes room) (ap is_turning next.turning)
    ∙ ap (judge_step T s m) next.listed
    ∙ ap (λ (b : Bool). unless b WrongStage (judge T.group T.exponents T.source (comparison_at T.key s.wires c m.outputs) m.proofs (question T s))) (lt-ltb c.second (length s.wires) next.inside)
    ∙ ap₂ (λ (i : Pair P) (k : ℕ). judge T.group T.exponents T.source (record { key = T.key; inputs = i; outputs = m.outputs }) m.proofs k) (sym is) (sym same)
    ∙ taken

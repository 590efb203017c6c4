-- What a history tells holds of the state that it leads to, by one call after another.
use Rattle.std.proofs.Common.{◌≡◌, ℕ, ◌+◌, ◌*◌, ◌<◌, ◌≤◌, Bool, true, false, cond, eqb, ltb, List, [], ◌∷◌, ◌++◌, length, take, replicate, Some, None, Ok, Err, Option, Result, sym, refl, ap, ◌∙◌, subst, subst₂, add-zero, mul-zero, mul-one, mul-add, arith, length-append, length-set, ltb-true, eqb-true}
use borrow.Author.Tests.{eqb-false}
use lib.ListN.{length-replicate}
use Rattle.std.proofs.lemmas.List.{take_more_set, take_all}
use Rattle.board.specs.Calls.{Terms, is_gathering, is_turning, judge_step, judge_call, after_step, after_call, Answers, HappensBy, Happens}
use Rattle.board.specs.Rounds.{blank}
use Rattle.board.specs.States.{State, opened, posted_state, kept_state, restored_state, written_state, advanced, stepped_state}
use Rattle.board.specs.declared.events.Event.{Event}
use Rattle.board.specs.declared.events.Event.TheVariants.{Post, Close, Step, Expel}
use Rattle.board.specs.declared.events.Stage.{Stage}
use Rattle.board.specs.declared.events.Stage.TheVariants.{Gathering, Turning, Finished}
use Rattle.board.specs.declared.events.Taken.{Taken}
use Rattle.board.specs.declared.events.Taken.TheVariants.{Stepped}
use Rattle.elgamal.specs.declared.Ciphertext.{Ciphertext}
use Rattle.equivalence.specs.Judgement.{unless}
use Rattle.plan.specs.Plans.{nth}
use Rattle.plan.specs.declared.Comparator.{Comparator}
use Rattle.posting.specs.Drawing.{buffer_fits}
use Rattle.prover.specs.declared.states.Message.{Message}
use Rattle.refusal.specs.declared.Reason.{Reason}
use Rattle.refusal.specs.declared.Reason.TheVariants.{UnfitLength, WrongStage, BoardFull, BoardShort}
use Rattle.refusal.specs.declared.Refusal.{Refusal}
use Rattle.law.specs.Histories.{Calls, RunOfCalls}
use Rattle.law.specs.Turns.{Turn, Account, quote_posted, turn_ended, step_taken, noted, account, kept_past, completed_turns, present_server, put, written, turns_written, last_list, present_list}
use Rattle.law.specs.Turns.Ending.{completed, expelled}
use Rattle.law.proofs.Accounts.{written_more, length_put, turns_more, kept_more, completed_more}

-- where nothing fails, the condition holds, and nothing fails after it
pub passed : (b : Bool) (why : Reason) (rest : Option Reason) → unless b why rest ≡ None → (b ≡ true) × (rest ≡ None)
passed true why rest e = (refl, e)
passed false why rest e = absurd (let z : ◌≡◌ {A = ℕ} 0 1 = cc in omega arith)

gathering_is : (g : Stage) → is_gathering g ≡ true → g ≡ Gathering
gathering_is Gathering e = refl
gathering_is Turning e = cc
gathering_is Finished e = cc

pub turning_is : (g : Stage) → is_turning g ≡ true → g ≡ Turning
turning_is Gathering e = cc
turning_is Turning e = refl
turning_is Finished e = cc

module _ {P : Type 0} (T : Terms P) where
  pub taken_by : (j : Option Reason) (s s' : State (Ciphertext P)) (e : Event P ℕ) (t : Taken) → HappensBy T j s e (Ok t) s' → (j ≡ None) × Answers T s e t × (s' ≡ after_call T s e)
  taken_by None s s' e t h = (refl, h.0, h.1)
  taken_by (Some why) s s' e t h = absurd h

  refused_by : (j : Option Reason) (s s' : State (Ciphertext P)) (e : Event P ℕ) (f : Refusal) → HappensBy T j s e (Err f) s' → s' ≡ s
  refused_by None s s' e f h = absurd h
  refused_by (Some why) s s' e f h = h.1

  -- a step that is taken: on the comparator that was next, in a turn
  pub record Steps (s : State (Ciphertext P)) (m : Message P ℕ) (t : Taken) (s' : State (Ciphertext P)) : Type 0 where
    pub turning : s.stage ≡ Turning
    pub comparator : Comparator
    pub there : nth T.comparators s.next ≡ Some comparator
    pub answers : t ≡ Stepped s.server s.next comparator
    pub judged : judge_step T s m (Some comparator) ≡ None
    pub after : s' ≡ stepped_state (length T.comparators) s comparator.first comparator.second m.outputs.first m.outputs.second

  pub steps : (s s' : State (Ciphertext P)) (m : Message P ℕ) (bytes : ℕ) (t : Taken) → Happens T s (Step m) bytes (Ok t) s' → Steps s m t s'
  steps s s' m bytes t h =
      let b = taken_by (judge_call T s (Step m) bytes) s s' (Step m) t h in
      let fits = passed (buffer_fits T.group bytes) UnfitLength _ b.0 in
      let turning = passed (is_turning s.stage) WrongStage _ fits.1 in
      let there = b.1.1 in
      record {
        turning = turning_is s.stage turning.0;
        comparator = b.1.0;
        there = there;
        answers = b.1.2;
        judged = sym (ap (judge_step T s m) there) ∙ turning.1;
        after = b.2 ∙ ap (after_step T s m) there;
      }

  module _ (n : ℕ) where
    pub record StillGathering (a : Account P) (s : State (Ciphertext P)) : Type 0 where
      pub listed : take s.posted s.wires ≡ a.posted
      pub start_blank : s.start ≡ replicate n (blank T.group)
      pub no_past : a.past ≡ []
      pub no_present : a.present ≡ []
      pub completed : s.completed ≡ 0
      pub next : s.next ≡ 0

    pub record TakingTurns (a : Account P) (next completed : ℕ) (start wires : List (Ciphertext P)) : Type 0 where
      pub full : length a.posted ≡ n
      pub next_is : next ≡ length a.present
      pub short : length a.present < length T.comparators
      pub completed_is : completed ≡ completed_turns a.past
      pub past : length (kept_past a.past) ≡ length T.comparators * completed_turns a.past
      pub start_is : start ≡ last_list T a
      pub wires_are : wires ≡ present_list T a

  -- before the first turn
  first_list : (a : Account P) → a.past ≡ [] → last_list T a ≡ a.posted
  first_list a e = ap (λ (ts : List (Turn P)). turns_written ts T.comparators a.posted) e

  none_present : (a : Account P) → a.present ≡ [] → present_list T a ≡ last_list T a
  none_present a e = ap (λ (ms : List (Message P ℕ)). written ms T.comparators (last_list T a)) e

  pub none_kept : (a : Account P) → a.past ≡ [] → length (kept_past a.past) ≡ length T.comparators * completed_turns a.past
  none_kept a e =
      ap (λ (ts : List (Turn P)). length (kept_past ts)) e ∙ sym (mul-zero (length T.comparators))
      ∙ ap (λ (ts : List (Turn P)). length T.comparators * completed_turns ts) (sym e)

  module _ (n servers : ℕ) where
    abbrev pub Part : Account P → State (Ciphertext P) → Stage → Type 0
    Part a s Gathering = StillGathering n a s
    Part a s Turning = TakingTurns n a s.next s.completed s.start s.wires × (s.server ≡ present_server a)
    Part a s Finished = TakingTurns n a s.next s.completed s.start s.wires × (length a.past ≡ servers)

    -- what each call keeps
    pub record Kept (a : Account P) (s : State (Ciphertext P)) : Type 0 where
      pub long : length s.wires ≡ n
      pub level : length s.start ≡ n
      pub posted_is : s.posted ≡ length a.posted
      pub servers_are : s.servers ≡ servers
      pub part : Part a s s.stage

    -- the present turn is over
    turn_over : (a : Account P) (z : State (Ciphertext P)) (count : ℕ) → length z.wires ≡ n → length z.start ≡ n → z.posted ≡ length a.posted → z.servers ≡ servers
        → TakingTurns n a 0 count z.start z.wires → z.server ≡ length a.past → Kept a (advanced z count)
    turn_over a z count long level posted all u server = go (eqb z.server z.servers) refl
      where
        go : (b : Bool) → eqb z.server z.servers ≡ b
            → Kept a (cond b
            (record { wires = z.wires; start = z.start; servers = z.servers; stage = Finished; posted = z.posted; completed = count; server = z.server; next = 0 })
            (record { wires = z.wires; start = z.start; servers = z.servers; stage = Turning; posted = z.posted; completed = count; server = z.server + 1; next = 0 }))
        go true e = record { long = long; level = level; posted_is = posted; servers_are = all; part = (u, sym server ∙ eqb-true _ _ e ∙ all) }
        go false e = record { long = long; level = level; posted_is = posted; servers_are = all; part = (u, ap (λ (i : ℕ). i + 1) server) }

    module _ (some : 1 ≤ length T.comparators) (a : Account P) (s : State (Ciphertext P)) (k : Kept a s) where
      posted : (s' : State (Ciphertext P)) (c : Ciphertext P) (bytes : ℕ) (t : Taken) → Happens T s (Post c) bytes (Ok t) s' → Kept (quote_posted a c) s'
      posted s' c bytes t h =
          let b = taken_by (judge_call T s (Post c) bytes) s s' (Post c) t h in
          let gathering = passed (is_gathering s.stage) WrongStage _ b.0 in
          let room = passed (ltb s.posted (length s.wires)) BoardFull None gathering.1 in
          let stage = gathering_is s.stage gathering.0 in
          let g : StillGathering n a s = subst (Part a s) stage k.part in
          subst (Kept (quote_posted a c)) (sym b.2)
          (record {
            long = length-set s.wires s.posted c ∙ k.long;
            level = k.level;
            posted_is = ap (λ (i : ℕ). i + 1) k.posted_is ∙ sym (length-append a.posted (c ∷ []));
            servers_are = k.servers_are;
            part = subst (Part (quote_posted a c) (posted_state s c)) (sym stage) (record {
              listed = take_more_set s.wires s.posted c (ltb-true _ _ room.0) ∙ ap (λ xs. xs ++ c ∷ []) g.listed;
              start_blank = g.start_blank;
              no_past = g.no_past;
              no_present = g.no_present;
              completed = g.completed;
              next = g.next;
            });
          })

      closed : (s' : State (Ciphertext P)) (bytes : ℕ) (t : Taken) → Happens T s Close bytes (Ok t) s' → Kept a s'
      closed s' bytes t h =
          let b = taken_by (judge_call T s Close bytes) s s' Close t h in
          let gathering = passed (is_gathering s.stage) WrongStage _ b.0 in
          let full = eqb-true _ _ (passed (eqb s.posted (length s.wires)) BoardShort None gathering.1).0 in
          let stage = gathering_is s.stage gathering.0 in
          let g : StillGathering n a s = subst (Part a s) stage k.part in
          let all : s.wires ≡ a.posted = sym (take_all s.posted s.wires (omega arith)) ∙ g.listed in
          let past = g.no_past in
          let present : length a.present ≡ 0 = ap length g.no_present in
          let none : completed_turns a.past ≡ 0 = ap completed_turns past in
          let first = first_list a past in
          subst (Kept a) (sym b.2)
          (record {
            long = k.long;
            level = k.long;
            posted_is = k.posted_is;
            servers_are = k.servers_are;
            part = (
              record {
                full = sym (ap length all) ∙ k.long;
                next_is = sym present;
                short = omega arith;
                completed_is = g.completed ∙ sym none;
                past = none_kept a past;
                start_is = all ∙ sym first;
                wires_are = all ∙ sym (none_present a g.no_present ∙ first);
              },
              ap (λ (ts : List (Turn P)). length ts + 1) (sym past),
            );
          })

      -- a step on the comparator c in a turn
      module _ (m : Message P ℕ) (c : Comparator) (turning : s.stage ≡ Turning) (there : nth T.comparators s.next ≡ Some c) where
        turn : Part a s Turning
        turn = subst (Part a s) turning k.part

        -- the account and the state after a step that is not the turn's last
        abbrev going_on : Account P
        going_on = record { posted = a.posted; past = a.past; present = a.present ++ m ∷ [] }

        abbrev after : State (Ciphertext P)
        after = written_state s c.first c.second m.outputs.first m.outputs.second

        wrote : put c m.outputs s.wires ≡ written (a.present ++ m ∷ []) T.comparators (last_list T a)
        wrote =
            ap (put c m.outputs) turn.0.wires_are
            ∙ sym (written_more a.present m T.comparators c (last_list T a) (ap (nth T.comparators) (sym turn.0.next_is) ∙ there))

        long_after : length (put c m.outputs s.wires) ≡ n
        long_after = length_put c m.outputs s.wires ∙ k.long

        one_more : length (a.present ++ m ∷ []) ≡ s.next + 1
        one_more = length-append a.present (m ∷ []) ∙ ap (λ (i : ℕ). i + 1) (sym turn.0.next_is)

        last_step : s.next + 1 ≡ length T.comparators → Kept (turn_ended a (a.present ++ m ∷ []) completed) (advanced (kept_state after) (s.completed + 1))
        last_step e =
            let C = length T.comparators in
            let t : Turn P = record { steps = a.present ++ m ∷ []; ending = completed } in
            let done : completed_turns (a.past ++ t ∷ []) ≡ completed_turns a.past + 1 = completed_more a.past t in
            let list = wrote ∙ sym (turns_more a.past t T.comparators a.posted) in
            turn_over (turn_ended a (a.present ++ m ∷ []) completed) (kept_state after) (s.completed + 1) long_after long_after k.posted_is k.servers_are
            (record {
              full = turn.0.full;
              next_is = refl;
              short = some;
              completed_is = ap (λ (i : ℕ). i + 1) turn.0.completed_is ∙ sym done;
              past = kept_more a.past t
                  ∙ ap (λ (i : ℕ). i + length (a.present ++ m ∷ [])) turn.0.past
                  ∙ ap (λ (i : ℕ). C * completed_turns a.past + i) (one_more ∙ e ∙ sym (mul-one C))
                  ∙ sym (mul-add C (completed_turns a.past) 1)
                  ∙ ap (λ (i : ℕ). C * i) (sym done);
              start_is = list;
              wires_are = list;
            })
            (turn.1 ∙ sym (length-append a.past (t ∷ [])))

        other_step : (s.next + 1 ≡ length T.comparators → ⊥) → Kept going_on after
        other_step ne =
            let one = one_more in
            let is = turn.0.next_is in
            let short = turn.0.short in
            record {
              long = long_after;
              level = k.level;
              posted_is = k.posted_is;
              servers_are = k.servers_are;
              part = subst (Part going_on after) (sym turning) (
                record {
                  full = turn.0.full;
                  next_is = sym one_more;
                  short = go one is short ne;
                  completed_is = turn.0.completed_is;
                  past = turn.0.past;
                  start_is = turn.0.start_is;
                  wires_are = wrote;
                },
                turn.1,
              );
            }
          where
            go : length (a.present ++ m ∷ []) ≡ s.next + 1 → s.next ≡ length a.present → length a.present < length T.comparators → (s.next + 1 ≡ length T.comparators → ⊥)
                → length (a.present ++ m ∷ []) < length T.comparators
            go one is short ne = omega arith

        step_kept : Kept (step_taken T a m) (stepped_state (length T.comparators) s c.first c.second m.outputs.first m.outputs.second)
        step_kept = go (eqb (s.next + 1) (length T.comparators)) refl
          where
            by : (b : Bool) → eqb (s.next + 1) (length T.comparators) ≡ b
                → Kept (cond b (turn_ended a (a.present ++ m ∷ []) completed) going_on) (cond b (advanced (kept_state after) (s.completed + 1)) after)
                → Kept (step_taken T a m) (stepped_state (length T.comparators) s c.first c.second m.outputs.first m.outputs.second)
            by b e q =
                subst₂ (λ (x y : Bool). Kept (cond x (turn_ended a (a.present ++ m ∷ []) completed) going_on) (cond y (advanced (kept_state after) (s.completed + 1)) after))
                (sym (ap (λ (i : ℕ). eqb (i + 1) (length T.comparators)) (sym turn.0.next_is) ∙ e)) (sym e) q

            go : (b : Bool) → eqb (s.next + 1) (length T.comparators) ≡ b
                → Kept (step_taken T a m) (stepped_state (length T.comparators) s c.first c.second m.outputs.first m.outputs.second)
            go true e = by true e (last_step (eqb-true _ _ e))
            go false e = by false e (other_step (eqb-false _ _ e))

      stepped : (s' : State (Ciphertext P)) (m : Message P ℕ) (bytes : ℕ) (t : Taken) → Happens T s (Step m) bytes (Ok t) s' → Kept (step_taken T a m) s'
      stepped s' m bytes t h =
          let z = steps s s' m bytes t h in
          subst (Kept (step_taken T a m)) (sym z.after) (step_kept m z.comparator z.turning z.there)

      put_out : (s' : State (Ciphertext P)) (bytes : ℕ) (t : Taken) → Happens T s Expel bytes (Ok t) s' → Kept (turn_ended a a.present expelled) s'
      put_out s' bytes t h =
          let C = length T.comparators in
          let b = taken_by (judge_call T s Expel bytes) s s' Expel t h in
          let stage = turning_is s.stage (passed (is_turning s.stage) WrongStage None b.0).0 in
          let u = subst (Part a s) stage k.part in
          let v : Turn P = record { steps = a.present; ending = expelled } in
          let same : completed_turns (a.past ++ v ∷ []) ≡ completed_turns a.past = completed_more a.past v ∙ add-zero _ in
          let list = u.0.start_is ∙ sym (turns_more a.past v T.comparators a.posted) in
          subst (Kept (turn_ended a a.present expelled)) (sym b.2)
          (turn_over (turn_ended a a.present expelled) (restored_state s) s.completed k.level k.level k.posted_is k.servers_are
          (record {
            full = u.0.full;
            next_is = refl;
            short = some;
            completed_is = u.0.completed_is ∙ sym same;
            past = kept_more a.past v ∙ add-zero _ ∙ u.0.past ∙ ap (λ (i : ℕ). C * i) (sym same);
            start_is = list;
            wires_are = list;
          })
          (u.1 ∙ sym (length-append a.past (v ∷ []))))

      follows : (s' : State (Ciphertext P)) (e : Event P ℕ) (bytes : ℕ) (r : Result Taken Refusal) → Happens T s e bytes r s' → Kept (noted T a e r) s'
      follows s' e bytes (Err f) h = subst (Kept a) (sym (refused_by (judge_call T s e bytes) s s' e f h)) k
      follows s' (Post c) bytes (Ok t) h = posted s' c bytes t h
      follows s' Close bytes (Ok t) h = closed s' bytes t h
      follows s' (Step m) bytes (Ok t) h = stepped s' m bytes t h
      follows s' Expel bytes (Ok t) h = put_out s' bytes t h

    module _ (some : 1 ≤ length T.comparators) where
      -- every history keeps it
      pub followed : (h : Calls P) (s : State (Ciphertext P)) → RunOfCalls T (opened n servers (blank T.group)) h s → Kept (account T h) s
      followed [] s e =
          subst (Kept (account T [])) (sym e)
          (record { long = length-replicate n _; level = length-replicate n _; posted_is = refl; servers_are = refl; part = record { listed = refl; start_blank = refl; no_past = refl; no_present = refl; completed = refl; next = refl } })
      followed (c ∷ h) s r = follows some (account T h) r.0 (followed h r.0 r.1) s c.event c.bytes c.answer r.2

-- An honest server's steps: each of them is taken, and after the last one every item stands where the route leads.
use Rattle.std.proofs.Common.{◌≡◌, ℕ, zero, suc, ◌+◌, ◌-◌, ◌*◌, ◌%◌, ◌<◌, ◌≤◌, Bool, true, false, cond, List, [], ◌∷◌, length, get_or, take, drop, Some, None, Ok, Option, sym, refl, ap, ◌∙◌, subst, ap₂, mod-lt, mul-suc, arith, pow_pos, lt-ltb, eq-eqb, ne_eqb}
use Rattle.std.proofs.lemmas.List.{get_or_default}
use Rattle.board.specs.Calls.{Terms, question, is_turning, judge_step, judge_call, after_step, HappensBy, Happens}
use Rattle.board.specs.Rounds.{blank}
use Rattle.board.specs.Serving.{inputs_at, honest_step, honest_steps, after_steps}
use Rattle.board.specs.States.{State, advanced, kept_state, written_state}
use Rattle.board.specs.Steps.{comparison_at}
use Rattle.board.specs.declared.events.Event.TheVariants.{Step}
use Rattle.board.specs.declared.events.Stage.TheVariants.{Turning}
use Rattle.board.specs.declared.events.Taken.TheVariants.{Stepped}
use Rattle.elgamal.proofs.Plaintexts.{reencrypted_joins}
use Rattle.elgamal.specs.Ciphertexts.{reencrypted}
use Rattle.elgamal.specs.declared.Ciphertext.{Ciphertext}
use Rattle.equivalence.specs.Judgement.{unless, judge}
use Rattle.group.proofs.Powers.{neutral_right, power_zero, power_mod}
use Rattle.group.specs.Exponents.{ExponentLaws}
use Rattle.group.specs.Operations.{GroupLaws}
use Rattle.plan.proofs.Running.{nth_within}
use Rattle.plan.specs.Plans.{nth, Within}
use Rattle.plan.specs.Sums.{changed, run_changing, Adds}
use Rattle.plan.specs.declared.Comparator.{Comparator}
use Rattle.plan.specs.declared.Setting.{Setting}
use Rattle.plan.specs.declared.Setting.TheVariants.{Straight, Swapped}
use Rattle.posting.specs.Drawing.{buffer_fits}
use Rattle.posting.specs.declared.comparison.Comparison.{Comparison}
use Rattle.prover.proofs.Completeness.{Fit, honest_taken}
use Rattle.prover.specs.Honest.{honest_comparison}
use Rattle.prover.specs.Secrets.{secrets_of}
use Rattle.prover.specs.declared.states.Message.{Message}
use Rattle.refusal.specs.declared.Reason.{Reason}
use Rattle.law.specs.Histories.{Calls, RunOfCalls, stepped}
use Rattle.law.specs.HonestTurns.{word_pairs}
use Rattle.law.specs.Turns.{put}
use Rattle.law.proofs.Accounts.{length_put}

-- where the condition holds, nothing fails but what comes after it
pass : (b : Bool) (why : Reason) (rest : Option Reason) → b ≡ true → rest ≡ None → unless b why rest ≡ None
pass true why rest e f = f
pass false why rest e f = cc

-- what a list that goes on with y from its k-th place on says of y, of the rest, and of its length
rest_of : {X : Type 0} (xs : List X) (k : ℕ) (y : X) (ys : List X) → drop k xs ≡ y ∷ ys → (nth xs k ≡ Some y) × (drop (k + 1) xs ≡ ys) × (length xs ≡ k + 1 + length ys)
rest_of [] zero y ys e = absurd (let z : ◌≡◌ {A = ℕ} 0 1 = cc in omega arith)
rest_of [] (suc k) y ys e = absurd (let z : ◌≡◌ {A = ℕ} 0 1 = cc in omega arith)
rest_of (x ∷ xs) zero y ys e =
    let first : x ≡ y = cc in
    let rest : xs ≡ ys = cc in
    let long = ap length rest in
    (ap Some first, rest, omega arith)
rest_of (x ∷ xs) (suc k) y ys e =
    let r = rest_of xs k y ys e in
    let long = r.2 in
    let on : suc k + 1 ≡ suc (k + 1) = omega arith in
    (r.0, ap (λ i. drop i (x ∷ xs)) on ∙ r.1, omega arith)

pub length_word_pairs : (count : ℕ) (words : List ℕ) → length (word_pairs count words) ≡ count
length_word_pairs zero words = refl
length_word_pairs (suc count) words = ap suc (length_word_pairs count (drop 6 words))

-- the first two of six words
first_word : (words : List ℕ) → get_or (take 6 words) 0 0 ≡ get_or words 0 0
first_word [] = refl
first_word (w ∷ words) = refl

second_word : (words : List ℕ) → get_or (take 6 words) 1 0 ≡ get_or words 1 0
second_word [] = refl
second_word (w ∷ []) = refl
second_word (w ∷ v ∷ words) = refl

-- question after question, the source reaches to the turn's end
reached : (count server k reach : ℕ) → 1 ≤ server → k < count → 4 * (count * server) ≤ reach → 4 * (count * (server - 1) + k) + 3 < reach
reached count zero k reach some h r = absurd (omega arith)
reached count (suc m) k reach some h r =
    let e = mul-suc count m in
    let f : count * (suc m - 1) ≡ count * m = ap (λ (i : ℕ). count * i) (omega arith) in
    omega arith

module _ {P : Type 0} (T : Terms P) (laws : GroupLaws T.group) (same : T.group.order ≡ T.exponents.order) where
  -- re-encrypting counts modulo the order, and adds
  pub by_remainder : (c : Ciphertext P) (r : ℕ) → reencrypted T.group T.key c (r % T.group.order) ≡ reencrypted T.group T.key c r
  by_remainder c r =
      ap₂ (λ (a b : P). record { alpha = T.group.times c.alpha a; beta = T.group.times c.beta b })
      (power_mod laws T.key r) (power_mod laws T.group.base r)

  pub adds : Adds (reencrypted T.group T.key)
  adds = record {
    none = λ c. ap₂ (λ (a b : P). record { alpha = a; beta = b })
        (ap (T.group.times c.alpha) (power_zero laws T.key) ∙ neutral_right laws c.alpha)
        (ap (T.group.times c.beta) (power_zero laws T.group.base) ∙ neutral_right laws c.beta);
    both = λ c m n. reencrypted_joins laws T.key c m n ∙ by_remainder c (m + n);
  }

  by_word : (c : Ciphertext P) (w v : ℕ) → w ≡ v → reencrypted T.group T.key c (w % T.exponents.order) ≡ reencrypted T.group T.key c v
  by_word c w v e = ap₂ (λ (i q : ℕ). reencrypted T.group T.key c (i % q)) e (sym same) ∙ by_remainder c v

  -- an honest step writes its comparator's change
  wrote : (s : State (Ciphertext P)) (c : Comparator) (x : Setting) (words : List ℕ)
      → put c (honest_step T s c x (take 6 words)).outputs s.wires ≡ changed (reencrypted T.group T.key) (blank T.group) c x (get_or words 0 0, get_or words 1 0) s.wires
  wrote s c Straight words =
      ap₂ (λ (a b : Ciphertext P). put c (record { first = a; second = b }) s.wires)
      (by_word (get_or s.wires c.first (blank T.group)) _ _ (first_word words)) (by_word (get_or s.wires c.second (blank T.group)) _ _ (second_word words))
  wrote s c Swapped words =
      ap₂ (λ (a b : Ciphertext P). put c (record { first = a; second = b }) s.wires)
      (by_word (get_or s.wires c.second (blank T.group)) _ _ (first_word words)) (by_word (get_or s.wires c.first (blank T.group)) _ _ (second_word words))

  -- the turn's end, with these items on the wires
  abbrev pub ended : State (Ciphertext P) → List (Ciphertext P) → State (Ciphertext P)
  ended s wires =
      advanced (record { wires = wires; start = wires; servers = s.servers; stage = s.stage; posted = s.posted; completed = s.completed; server = s.server; next = s.next }) (s.completed + 1)

  -- the last step of a turn, and each other one
  last_step : (s : State (Ciphertext P)) (c : Comparator) (m : Message P ℕ) → s.next + 1 ≡ length T.comparators → after_step T s m (Some c) ≡ ended s (put c m.outputs s.wires)
  last_step s c m e =
      let after = written_state s c.first c.second m.outputs.first m.outputs.second in
      ap (λ (b : Bool). cond b (advanced (kept_state after) (s.completed + 1)) after) (eq-eqb _ _ e)

  other_step : (s : State (Ciphertext P)) (c : Comparator) (m : Message P ℕ) → (s.next + 1 ≡ length T.comparators → ⊥)
      → after_step T s m (Some c) ≡ written_state s c.first c.second m.outputs.first m.outputs.second
  other_step s c m e =
      let after = written_state s c.first c.second m.outputs.first m.outputs.second in
      ap (λ (b : Bool). cond b (advanced (kept_state after) (s.completed + 1)) after) (ne_eqb _ _ e)

  pub turn_ends : (cs : List Comparator) (c : Comparator) (ss : List Setting) (words : List ℕ) (k : ℕ) (s : State (Ciphertext P))
      → drop k T.comparators ≡ c ∷ cs → length ss ≡ length (c ∷ cs) → s.next ≡ k
      → after_steps T (c ∷ cs) (honest_steps T (c ∷ cs) ss words s) s
      ≡ ended s (run_changing (reencrypted T.group T.key) (blank T.group) (c ∷ cs) ss (word_pairs (length (c ∷ cs)) words) s.wires)
  unfolding honest_steps after_steps run_changing
  turn_ends [] c [] words k s e l next = absurd (omega arith)
  turn_ends (d ∷ cs) c [] words k s e l next = absurd (omega arith)
  turn_ends [] c (x ∷ ss) words k s e l next =
      let count = (rest_of T.comparators k c [] e).2 in
      last_step s c (honest_step T s c x (take 6 words)) (omega arith) ∙ ap (ended s) (wrote s c x words)
  turn_ends (d ∷ cs) c (x ∷ ss) words k s e l next =
      let m = honest_step T s c x (take 6 words) in
      let after = written_state s c.first c.second m.outputs.first m.outputs.second in
      let rest = rest_of T.comparators k c (d ∷ cs) e in
      let count = rest.2 in
      ap (λ (z : State (Ciphertext P)). after_steps T (d ∷ cs) (honest_steps T (d ∷ cs) ss (drop 6 words) z) z) (other_step s c m (omega arith))
      ∙ turn_ends cs d ss (drop 6 words) (k + 1) after rest.1 (omega arith) (omega arith)
      ∙ ap (λ (wires : List (Ciphertext P)). ended s (run_changing (reencrypted T.group T.key) (blank T.group) (d ∷ cs) ss (word_pairs (length (d ∷ cs)) (drop 6 words)) wires)) (wrote s c x words)

  -- a turn at its k-th comparator
  pub record During (n server k : ℕ) (s : State (Ciphertext P)) : Type 0 where
    pub turning : s.stage ≡ Turning
    pub long : length s.wires ≡ n
    pub server_is : s.server ≡ server
    pub next_is : s.next ≡ k

  -- so far as there is a comparator left
  abbrev pub Ready : (n server k : ℕ) → State (Ciphertext P) → List Comparator → Type 0
  Ready n server k s [] = Unit {0}
  Ready n server k s (c ∷ cs) = During n server k s

  ready_after : (n server k : ℕ) (s : State (Ciphertext P)) (c : Comparator) (m : Message P ℕ) (cs : List Comparator)
      → drop k T.comparators ≡ c ∷ cs → During n server k s → Ready n server (k + 1) (after_step T s m (Some c)) cs
  ready_after n server k s c m [] e d = tt
  ready_after n server k s c m (b ∷ cs) e d =
      let count = (rest_of T.comparators k c (b ∷ cs) e).2 in
      let next = d.next_is in
      subst (During n server (k + 1)) (sym (other_step s c m (omega arith)))
      (record { turning = d.turning; long = length_put c m.outputs s.wires ∙ d.long; server_is = d.server_is; next_is = ap (λ (i : ℕ). i + 1) d.next_is })

  module _ (exponents : ExponentLaws T.exponents) (n : ℕ) (within : Within n T.comparators) (server bytes : ℕ) (fits : buffer_fits T.group bytes ≡ true) (some : 1 ≤ server)
      (reaches : 4 * (length T.comparators * server) ≤ T.source.reach) where
    fit : (words : List ℕ) → Fit T.exponents (secrets_of T.exponents words)
    fit words = let h = laws.some_order in record { answer_below = mod-lt _ (omega (arith, same)); challenge_below = mod-lt _ (pow_pos T.exponents.challenge_bits) }

    judged : (s : State (Ciphertext P)) (k : ℕ) (c : Comparator) (x : Setting) (words : List ℕ) → During n server k s → nth T.comparators k ≡ Some c → k < length T.comparators
        → judge_call T s (Step (honest_step T s c x words)) bytes ≡ None
    judged s k c x words d there below =
        let m = honest_step T s c x words in
        let on = nth_within n T.comparators k c within there in
        let first = on.0 in
        let second = on.1 in
        let long = d.long in
        let server_is = d.server_is in
        let next_is = d.next_is in
        let asked = reached (length T.comparators) server k T.source.reach some below reaches in
        let found : comparison_at T.key s.wires c m.outputs ≡ honest_comparison T.group T.key (inputs_at T s.wires c) x (secrets_of T.exponents words) =
        ap₂ (λ (a b : Ciphertext P). record { key = T.key; inputs = record { first = a; second = b }; outputs = m.outputs })
        (get_or_default s.wires c.first _ _ (omega arith)) (get_or_default s.wires c.second _ _ (omega arith)) in
        let at-question : question T s ≡ 4 * (length T.comparators * (server - 1) + k) = ap₂ (λ (i j : ℕ). 4 * (length T.comparators * (i - 1) + j)) server_is next_is in
        pass _ _ _ fits
        (pass _ _ _ (ap is_turning d.turning)
        (ap (judge_step T s m) (ap (nth T.comparators) next_is ∙ there)
        ∙ pass _ _ _ (lt-ltb _ _ (omega arith))
        (ap (λ (k : Comparison P). judge T.group T.exponents T.source k m.proofs (question T s)) found
        ∙ honest_taken laws T.exponents exponents same T.source T.key (inputs_at T s.wires c) x (secrets_of T.exponents words) (question T s) (fit words) (omega arith))))

    taken : (s : State (Ciphertext P)) (k : ℕ) (c : Comparator) (x : Setting) (words : List ℕ) → During n server k s → nth T.comparators k ≡ Some c → k < length T.comparators
        → Happens T s (Step (honest_step T s c x words)) bytes (Ok (Stepped server k c)) (after_step T s (honest_step T s c x words) (Some c))
    taken s k c x words d there below =
        let m = honest_step T s c x words in
        let next : nth T.comparators s.next ≡ Some c = ap (nth T.comparators) d.next_is ∙ there in
        subst (λ (j : Option Reason). HappensBy T j s (Step m) (Ok (Stepped server k c)) (after_step T s m (Some c))) (sym (judged s k c x words d there below))
        ((c, next, ap₂ (λ (i j : ℕ). Stepped i j c) (sym d.server_is) (sym d.next_is)), ap (after_step T s m) (sym next))

    -- the steps of a turn from its k-th comparator on, after other calls
    pub steps_taken : (cs : List Comparator) (ss : List Setting) (words : List ℕ) (k : ℕ) (s₀ s : State (Ciphertext P)) (h : Calls P)
        → drop k T.comparators ≡ cs → Ready n server k s cs → RunOfCalls T s₀ h s
        → RunOfCalls T s₀ (stepped server bytes k cs (honest_steps T cs ss words s) h) (after_steps T cs (honest_steps T cs ss words s) s)
    unfolding honest_steps after_steps
    steps_taken [] ss words k s₀ s h e ready r = r
    steps_taken (c ∷ cs) [] words k s₀ s h e ready r = r
    steps_taken (c ∷ cs) (x ∷ ss) words k s₀ s h e ready r =
        let m = honest_step T s c x (take 6 words) in
        let rest = rest_of T.comparators k c cs e in
        let count = rest.2 in
        steps_taken cs ss (drop 6 words) (k + 1) s₀ (after_step T s m (Some c)) (record { event = Step m; bytes = bytes; answer = Ok (Stepped server k c) } ∷ h)
        rest.1 (ready_after n server k s c m cs e ready) (s, r, taken s k c x (take 6 words) ready rest.0 (omega arith))

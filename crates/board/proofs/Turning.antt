-- A turn's honest steps, one more at a time.
use Rattle.std.proofs.Common.{◌≡◌, ℕ, zero, suc, ◌+◌, ◌-◌, ◌*◌, ◌<◌, ◌≤◌, Bool, true, false, cond, eqb, List, [], ◌∷◌, ◌++◌, length, take, drop, set, Some, None, sym, refl, ap, ◌∙◌, ap₂, mul-suc, add-one, arith, length-set, length-take-le, take_all, drop-drop, ne_eqb, eqb-true}
use Rattle.elgamal.specs.declared.Ciphertext.{Ciphertext}
use Rattle.equivalence.specs.Judgement.{both}
use Rattle.plan.specs.Plans.{nth}
use Rattle.plan.specs.declared.Comparator.{Comparator}
use Rattle.plan.specs.declared.Setting.{Setting}
use Rattle.board.specs.Calls.{Terms, after_step}
use Rattle.board.specs.Serving.{honest_step, honest_steps, after_steps, turned, lengths_fit}
use Rattle.board.specs.declared.events.Stage.TheVariants.{Turning}
use Rattle.board.specs.States.{State, kept_state, advanced, written_state, stepped_state}

-- a listed element is the last of those up to its place
pub take_nth : {X : Type 0} (xs : List X) (k : ℕ) (x : X) → nth xs k ≡ Some x → take (k + 1) xs ≡ take k xs ++ x ∷ []
take_nth xs k x e = ap (λ (n : ℕ). take n xs) (add-one k) ∙ go xs k x e
  where
    go : {X : Type 0} (xs : List X) (k : ℕ) (x : X) → nth xs k ≡ Some x → take (suc k) xs ≡ take k xs ++ x ∷ []
    go [] k x e = absurd (let z : ◌≡◌ {A = ℕ} 0 1 = cc in omega arith)
    go (y ∷ ys) zero x e = let same : y ≡ x = cc in ap (λ z. z ∷ []) same
    go (y ∷ ys) (suc k) x e = ap (λ zs. y ∷ zs) (go ys k x e)

pub nth_within : {X : Type 0} (xs : List X) (k : ℕ) → k < length xs → nth xs k ≡ None → ⊥
nth_within [] k h e = omega (arith, h)
nth_within (x ∷ xs) zero h e = let z : ◌≡◌ {A = ℕ} 0 1 = cc in omega arith
nth_within (x ∷ xs) (suc k) h e = nth_within xs k (omega (arith, h)) e

module _ {P : Type 0} (T : Terms P) where
  pub turned_none : (words : List ℕ) (s : State (Ciphertext P)) → s ≡ turned T [] [] words s
  unfolding honest_steps after_steps
  turned_none words s = refl

  pub turned_more : (cs : List Comparator) (ss : List Setting) (c : Comparator) (x : Setting) (words : List ℕ) (s : State (Ciphertext P)) → length ss ≡ length cs
      → turned T (cs ++ c ∷ []) (ss ++ x ∷ []) words s
      ≡ after_step T (turned T cs ss words s) (honest_step T (turned T cs ss words s) c x (take 6 (drop (6 * length cs) words))) (Some c)
  unfolding honest_steps after_steps
  turned_more [] [] c x words s e = refl
  turned_more [] (y ∷ ss) c x words s e = absurd (omega (arith, e))
  turned_more (d ∷ cs) [] c x words s e = absurd (omega (arith, e))
  turned_more (d ∷ cs) (y ∷ ss) c x words s e =
      let s' = after_step T s (honest_step T s d y (take 6 words)) (Some d) in
      let same : drop (6 * length cs) (drop 6 words) ≡ drop (6 * suc (length cs)) words =
      drop-drop (6 * length cs) 6 words ∙ ap (λ (n : ℕ). drop n words) (omega arith) in
      turned_more cs ss c x (drop 6 words) s' (omega (arith, e))
      ∙ ap (λ (ws : List ℕ). after_step T (turned T cs ss (drop 6 words) s') (honest_step T (turned T cs ss (drop 6 words) s') c x (take 6 ws)) (Some c)) same

module _ {X : Type 0} (count : ℕ) (s : State X) (a b : ℕ) (x y : X) where
  -- a step that is not the last
  pub stepped_on : s.next + 1 < count → stepped_state count s a b x y ≡ written_state s a b x y
  stepped_on h =
      ap (λ (t : Bool). cond t (advanced (kept_state (written_state s a b x y)) (s.completed + 1)) (written_state s a b x y)) (ne_eqb (s.next + 1) count (λ e. omega (arith, h, e)))

  pub stepped_length : length (stepped_state count s a b x y).wires ≡ length s.wires
  stepped_length = by (eqb (s.next + 1) count) _ _ (by (eqb s.server s.servers) _ _ long long) long
    where
      long : length (set (set s.wires a x) b y) ≡ length s.wires
      long = simp length-set

      by : (t : Bool) (u v : State X) → length u.wires ≡ length s.wires → length v.wires ≡ length s.wires → length (cond t u v).wires ≡ length s.wires
      by true u v h k = h
      by false u v h k = k

-- after k of a turn's honest steps
pub record SoFar {P : Type 0} (T : Terms P) (ss : List Setting) (words : List ℕ) (s₀ : State (Ciphertext P)) (k : ℕ) (s : State (Ciphertext P)) : Type 0 where
  pub long : length s.wires ≡ length s₀.wires
  pub turning : k < length T.comparators → s.stage ≡ Turning
  pub next : k < length T.comparators → s.next ≡ k
  pub server : k < length T.comparators → s.server ≡ s₀.server
  pub made : s ≡ turned T (take k T.comparators) (take k ss) words s₀

module _ {P : Type 0} (T : Terms P) (ss : List Setting) (words : List ℕ) (s₀ : State (Ciphertext P)) where
  pub none_made : s₀.stage ≡ Turning → s₀.next ≡ 0 → SoFar T ss words s₀ 0 s₀
  none_made turning next = record { long = refl; turning = λ _. turning; next = λ _. next; server = λ _. refl; made = turned_none T words s₀ }

  pub one_made : (k : ℕ) (s : State (Ciphertext P)) (c : Comparator) (x : Setting) → length ss ≡ length T.comparators → k < length T.comparators → nth T.comparators k ≡ Some c
      → take (k + 1) ss ≡ take k ss ++ x ∷ [] → SoFar T ss words s₀ k s
      → SoFar T ss words s₀ (k + 1) (after_step T s (honest_step T s c x (take 6 (drop (6 * k) words))) (Some c))
  one_made k s c x same below at set_so h =
      let cs = T.comparators in
      let m = honest_step T s c x (take 6 (drop (6 * k) words)) in
      let on : k + 1 < length cs → after_step T s m (Some c) ≡ written_state s c.first c.second m.outputs.first m.outputs.second =
      λ more. stepped_on (length cs) s c.first c.second m.outputs.first m.outputs.second (omega (arith, more, h.next below)) in
      let few : length (take k cs) ≡ k = length-take-le k cs (omega (arith, below)) in
      let also : length (take k ss) ≡ k = length-take-le k ss (omega (arith, below, same)) in
      record {
        long = stepped_length (length cs) s c.first c.second m.outputs.first m.outputs.second ∙ h.long;
        turning = λ more. ap (λ (t : State (Ciphertext P)). t.stage) (on more) ∙ h.turning below;
        next = λ more. ap (λ (t : State (Ciphertext P)). t.next) (on more) ∙ ap (λ (n : ℕ). n + 1) (h.next below);
        server = λ more. ap (λ (t : State (Ciphertext P)). t.server) (on more) ∙ h.server below;
        made = ap (λ (t : State (Ciphertext P)). after_step T t (honest_step T t c x (take 6 (drop (6 * k) words))) (Some c)) h.made
            ∙ ap (λ (n : ℕ). after_step T (turned T (take k cs) (take k ss) words s₀) (honest_step T (turned T (take k cs) (take k ss) words s₀) c x (take 6 (drop (6 * n) words))) (Some c)) (sym few)
            ∙ sym (turned_more T (take k cs) (take k ss) c x words s₀ (also ∙ sym few))
            ∙ ap₂ (λ (ds : List Comparator) (xs : List Setting). turned T ds xs words s₀) (sym (take_nth cs k c at)) (sym set_so);
      }

  pub all_made : (k : ℕ) (s : State (Ciphertext P)) → length ss ≡ length T.comparators → length ss ≤ k → SoFar T ss words s₀ k s → s ≡ turned T T.comparators ss words s₀
  all_made k s same all h =
      h.made ∙ ap₂ (λ (ds : List Comparator) (xs : List Setting). turned T ds xs words s₀) (take_all k T.comparators (omega (arith, all, same))) (take_all k ss all)

-- a turn's questions, below those of the next turn
pub question_below : (count server k reach : ℕ) → 1 ≤ server → k < count → 4 * (count * server) ≤ reach → 4 * (count * (server - 1) + k) + 3 < reach
question_below count zero k reach some below h = absurd (omega (arith, some))
question_below count (suc t) k reach some below h =
    let same : suc t - 1 ≡ t = omega arith in
    rw same (omega (arith, h, below, mul-suc count t))

both_first : (a b : Bool) → both a b ≡ true → a ≡ true
both_first true b h = refl
both_first false b h = h

both_second : (a b : Bool) → both a b ≡ true → b ≡ true
both_second true b h = h
both_second false b h = absurd (let z : ◌≡◌ {A = ℕ} 0 1 = cc in omega arith)

module _ {P : Type 0} (T : Terms P) (n : ℕ) (permutation places words bytes : ℕ) where
  pub entries_fit : lengths_fit T n permutation places words bytes ≡ true → permutation ≡ n
  entries_fit h = eqb-true permutation n (both_first _ _ h)

  pub places_fit : lengths_fit T n permutation places words bytes ≡ true → places ≡ length T.comparators
  places_fit h = eqb-true places (length T.comparators) (both_first _ _ (both_second (eqb permutation n) _ h))

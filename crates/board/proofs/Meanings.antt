-- A board of elements means a board of points: what is done to the one is done to the other.
use Rattle.std.proofs.Common.{◌≡◌, ℕ, zero, suc, ◌+◌, Bool, true, false, cond, eqb, List, [], ◌∷◌, map, length, get_or, set, replicate, sym, refl, ap, ◌∙◌, ap₂}
use Rattle.elgamal.specs.Ciphertexts.{meaning}
use Rattle.plan.specs.declared.Comparator.{Comparator}
use Rattle.posting.specs.Comparison.{pair_meaning, comparison_meaning}
use Rattle.posting.specs.declared.comparison.Pair.{Pair}
use Rattle.elgamal.specs.declared.Ciphertext.{Ciphertext}
use Rattle.board.specs.States.{State, state_map, posted_state, kept_state, restored_state, advanced, written_state, stepped_state, expelled_state}
use Rattle.board.specs.Steps.{comparison_at}

module _ {X Y : Type 0} (f : X → Y) where
  pub map_set : (xs : List X) (i : ℕ) (x : X) → map f (set xs i x) ≡ set (map f xs) i (f x)
  map_set [] i x = refl
  map_set (y ∷ ys) zero x = refl
  map_set (y ∷ ys) (suc i) x = ap (λ (zs : List Y). f y ∷ zs) (map_set ys i x)

  pub length-map : (xs : List X) → length (map f xs) ≡ length xs
  length-map [] = refl
  length-map (x ∷ xs) = ap suc (length-map xs)

  pub map_get_or : (xs : List X) (i : ℕ) (d : X) → get_or (map f xs) i (f d) ≡ f (get_or xs i d)
  map_get_or [] i d = refl
  map_get_or (x ∷ xs) zero d = refl
  map_get_or (x ∷ xs) (suc i) d = map_get_or xs i d

  pub map_replicate : (n : ℕ) (x : X) → map f (replicate n x) ≡ replicate n (f x)
  map_replicate zero x = refl
  map_replicate (suc n) x = ap (λ (ys : List Y). f x ∷ ys) (map_replicate n x)

  with_wires : State Y → List Y → State Y
  with_wires s ws = record { wires = ws; start = s.start; servers = s.servers; stage = s.stage; posted = s.posted; completed = s.completed; server = s.server; next = s.next }

  pub map_posted : (s : State X) (x : X) → state_map f (posted_state s x) ≡ posted_state (state_map f s) (f x)
  unfolding with_wires
  map_posted s x = ap (with_wires (state_map f (posted_state s x))) (map_set s.wires s.posted x)

  pub map_written : (s : State X) (a b : ℕ) (x y : X) → state_map f (written_state s a b x y) ≡ written_state (state_map f s) a b (f x) (f y)
  unfolding with_wires
  map_written s a b x y =
      ap (with_wires (state_map f (written_state s a b x y))) (map_set (set s.wires a x) b y ∙ ap (λ (ws : List Y). set ws b (f y)) (map_set s.wires a x))

  map_cond : (t : Bool) (s u : State X) → state_map f (cond t s u) ≡ cond t (state_map f s) (state_map f u)
  map_cond true s u = refl
  map_cond false s u = refl

  pub map_advanced : (s : State X) (n : ℕ) → state_map f (advanced s n) ≡ advanced (state_map f s) n
  map_advanced s n = map_cond (eqb s.server s.servers) _ _

  pub map_stepped : (count : ℕ) (s : State X) (a b : ℕ) (x y : X) → state_map f (stepped_state count s a b x y) ≡ stepped_state count (state_map f s) a b (f x) (f y)
  map_stepped count s a b x y =
      map_cond (eqb (s.next + 1) count) _ _
      ∙ ap₂ (cond (eqb (s.next + 1) count))
      (map_advanced (kept_state (written_state s a b x y)) (s.completed + 1) ∙ ap (λ (t : State Y). advanced (kept_state t) (s.completed + 1)) (map_written s a b x y))
      (map_written s a b x y)

  pub map_expelled : (s : State X) → state_map f (expelled_state s) ≡ expelled_state (state_map f s)
  map_expelled s = map_advanced (restored_state s) s.completed

pub comparison_at_meaning : {E P : Type 0} (point : E → P) (key : E) (wires : List (Ciphertext E)) (c : Comparator) (outputs : Pair E)
    → comparison_meaning point (comparison_at key wires c outputs) ≡ comparison_at (point key) (map (meaning point) wires) c (pair_meaning point outputs)
comparison_at_meaning point key wires c outputs =
    ap₂ (λ a b. record { key = point key; inputs = record { first = a; second = b }; outputs = pair_meaning point outputs })
    (sym (map_get_or (meaning point) wires c.first outputs.first)) (sym (map_get_or (meaning point) wires c.second outputs.second))

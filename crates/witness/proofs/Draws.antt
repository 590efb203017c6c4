-- Draws that repeat, along a list.
use Rattle.std.proofs.Common.{◌≡◌, ℕ, ◌+◌, ◌<◌, ◌≤◌, Bool, true, false, eqb, ◌||◌, List, [], ◌∷◌, ◌++◌, map, length, get_or, take, drop, Some, None, sym, refl, ap, ◌∙◌, ap₂, add-one, arith, drop_of_length-le, drop-cons, take-suc}
use Rattle.std.specs.List.{list_any}
use Rattle.refusal.specs.Table.{refused_at}
use Rattle.refusal.specs.declared.Reason.TheVariants.{EqualDraws}
use Rattle.witness.specs.Refusals.{draws, stands, repeated}
use Rattle.witness.specs.declared.posted.Witness.{Witness}

-- an element of a list, and what comes after it
pub from_here : {A : Type 0} (xs : List A) (i : ℕ) (x : A) → x ≡ get_or xs i x → i < length xs → drop i xs ≡ x ∷ drop (i + 1) xs
from_here xs i x e h = drop-cons xs i x h ∙ ap₂ (λ y n. y ∷ drop n xs) (sym e) (sym (add-one i))

pub to_here : {A : Type 0} (xs : List A) (i : ℕ) (x : A) → x ≡ get_or xs i x → i < length xs → take (i + 1) xs ≡ take i xs ++ (x ∷ [])
to_here xs i x e h = ap (λ (n : ℕ). take n xs) (add-one i) ∙ take-suc xs i x h ∙ ap (λ y. take i xs ++ (y ∷ [])) (sym e)

module _ {N T : Type 0} (number : N → ℕ) where
  draws_append : (xs ys : List (Witness N T)) → draws number (xs ++ ys) ≡ draws number xs ++ draws number ys
  draws_append [] ys = refl
  draws_append (x ∷ xs) ys = ap (λ l. number x.z ∷ l) (draws_append xs ys)

  -- witnesses that mean others draw what those draw
  pub draws_map : {T' : Type 0} (f : Witness N T → Witness ℕ T') → ((w : Witness N T) → (f w).z ≡ number w.z) → (ws : List (Witness N T))
      → draws (λ n. n) (map f ws) ≡ draws number ws
  draws_map f e [] = refl
  draws_map f e (w ∷ ws) = ap₂ (λ z l. z ∷ l) (e w) (draws_map f e ws)

  -- whether one of them draws z
  pub any_stands : (z : ℕ) (ws : List (Witness N T)) → list_any (λ w. eqb z (number w.z)) ws ≡ stands z (draws number ws)
  unfolding stands
  any_stands z [] = refl
  any_stands z (w ∷ ws) = go (eqb z (number w.z)) (any_stands z ws)
    where
      go : (b : Bool) → list_any (λ w. eqb z (number w.z)) ws ≡ stands z (draws number ws)
          → (b || list_any (λ w. eqb z (number w.z)) ws) ≡ elim b [ true ↦ true | false ↦ stands z (draws number ws) ]
      go true e = refl
      go false e = e

  module _ (ws : List (Witness N T)) (i : ℕ) (w : Witness N T) (is : w ≡ get_or ws i w) (h : i < length ws) where
    step : (place : ℕ) (earlier : List ℕ) → repeated place earlier (draws number (drop i ws))
        ≡ elim (stands (number w.z) earlier) [ true ↦ Some (refused_at EqualDraws place) | false ↦ repeated (place + 1) (earlier ++ (number w.z ∷ [])) (draws number (drop (i + 1) ws)) ]
    unfolding repeated
    step place earlier = ap (λ l. repeated place earlier (draws number l)) (from_here ws i w is h)

    pub repeated_here : (place : ℕ) (earlier : List ℕ) → stands (number w.z) earlier ≡ true
        → repeated place earlier (draws number (drop i ws)) ≡ Some (refused_at EqualDraws place)
    repeated_here place earlier e =
        step place earlier ∙ ap (λ b. elim b [ true ↦ Some (refused_at EqualDraws place) | false ↦ repeated (place + 1) (earlier ++ (number w.z ∷ [])) (draws number (drop (i + 1) ws)) ]) e

    pub repeated_after : (start : ℕ) → stands (number w.z) (draws number (take i ws)) ≡ false
        → repeated (start + i) (draws number (take i ws)) (draws number (drop i ws)) ≡ repeated (start + (i + 1)) (draws number (take (i + 1) ws)) (draws number (drop (i + 1) ws))
    repeated_after start e =
        let earlier = draws number (take i ws) in
        let n : start + i + 1 ≡ start + (i + 1) = omega arith in
        step (start + i) earlier
        ∙ ap (λ b. elim b [ true ↦ Some (refused_at EqualDraws (start + i)) | false ↦ repeated (start + i + 1) (earlier ++ (number w.z ∷ [])) (draws number (drop (i + 1) ws)) ]) e
        ∙ ap₂ (λ (p : ℕ) l. repeated p l (draws number (drop (i + 1) ws))) n
        (sym (ap (draws number) (to_here ws i w is h) ∙ draws_append (take i ws) (w ∷ [])))

  module _ (ws : List (Witness N T)) (i : ℕ) (h : length ws ≤ i) where
    pub repeated_none : (place : ℕ) (earlier : List ℕ) → repeated place earlier (draws number (drop i ws)) ≡ None
    unfolding repeated
    repeated_none place earlier = ap (λ l. repeated place earlier (draws number l)) (drop_of_length-le ws {i = i} h)

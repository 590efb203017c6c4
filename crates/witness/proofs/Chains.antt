-- What `filter_map` gives, where only what its closure's values mean is known.
use Rattle.std.proofs.Common.{◌≡◌, List, [], ◌∷◌, map, Some, None, Option, IsSome, MatchOption, sym, refl, ap, ◌∙◌, subst}
use Rattle.std.proofs.lemmas.Iterator.{YieldsList}
use Rattle.std.specs.Fn.{Called}
use Rattle.std.specs.Iterator.{AlwaysYields, Yields}
use Rattle.std.specs.Iterator.Adapters.{filter_map_source, filter_map_callee, filter_map_steps}
use Rattle.std.specs.List.{FoldsTo, filter_map, cons_option}
use Rattle.std.specs.Option.{option_map}
use Rattle.std.specs.declared.iter.FilterMap.{FilterMap}
use denote.Param.Members.{Mut}

-- one call of `next`
module _ {S A B : Type 0} (steps : S → Option A → S → Type 0) (v : A → B) where
  ended : (more : List B) (t u : S) → AlwaysYields steps v t more → steps t None u → more ≡ []
  ended [] t u e p = refl
  ended (y ∷ ys) t u e p = absurd (e.0 u p)

  went : (more : List B) (t u : S) (x : A) → AlwaysYields steps v t more → steps t (Some x) u → (ys : List B) × (more ≡ v x ∷ ys) × AlwaysYields steps v u ys
  went [] t u x e p = absurd (e x u p)
  went (y ∷ ys) t u x e p = (ys, ap (λ w. w ∷ ys) (sym (e.1 x u p).0), (e.1 x u p).1)

module _ {S A B C D F : Type 0} (steps : S → Option A → S → Type 0) (v : A → B) (g : Mut F (A × Unit {0}) (Option C)) (w : C → D) (h : B → Option D) (f : F)
    (k : (x : A) (r : Option C) (q : F) → Called g f (x, tt) r q → (q ≡ f) × (option_map w r ≡ h (v x))) where
  -- items at which the closure gives nothing
  passed : (xs : List A) (ys : List B) (s t : S) (p q : F) → p ≡ f → AlwaysYields steps v s ys → Yields steps s xs t → FoldsTo (λ p x q. Called g p (x, tt) None q) p xs q
      → (more : List B) × (q ≡ f) × (filter_map h ys ≡ filter_map h more) × AlwaysYields steps v t more
  passed [] ys s t p q a e y c = (ys, sym c ∙ a, refl, subst (λ z. AlwaysYields steps v z ys) y e)
  passed (x ∷ xs) ys s t p q a e y c =
      let n = went steps v ys s y.0 x e y.1 in
      let m = k x None c.0 (subst (λ z. Called g z (x, tt) None c.0) a c.1) in
      let rest = passed xs n.0 y.0 t c.0 q m.0 n.2 y.2 c.2 in
      (rest.0, rest.1, ap (filter_map h) n.1 ∙ ap (λ o. cons_option o (filter_map h n.0)) (sym m.1) ∙ rest.2, rest.3)

  came : (more : List B) (t u : S) (p q : F) (y : C) (o : Option A) → p ≡ f → AlwaysYields steps v t more → steps t o u
      → MatchOption o ((Some y ≡ None) × (q ≡ p)) (λ x. Called g p (x, tt) (Some y) q × IsSome (Some y))
      → (zs : List B) × (q ≡ f) × (filter_map h more ≡ w y ∷ filter_map h zs) × AlwaysYields steps v u zs
  came more t u p q y None a e s c = let z = c.0 in cc
  came more t u p q y (Some x) a e s c =
      let n = went steps v more t u x e s in
      let m = k x (Some y) q (subst (λ z. Called g z (x, tt) (Some y) q) a c.0) in
      (n.0, m.0, ap (filter_map h) n.1 ∙ ap (λ o. cons_option o (filter_map h n.0)) (sym m.1), n.2)

  stopped : (more : List B) (t u : S) (P : Type 0) (Q : A → Type 0) (o : Option A) → AlwaysYields steps v t more → steps t o u
      → MatchOption o P (λ x. Q x × IsSome {T = C} None) → more ≡ []
  stopped more t u P Q None e s c = ended steps v more t u e s
  stopped more t u P Q (Some x) e s c = let z = c.1 in cc

  next_given : (ys : List B) (s j : FilterMap S F) (y : C) → filter_map_callee s ≡ f → AlwaysYields steps v (filter_map_source s) ys → filter_map_steps steps g s (Some y) j
      → (zs : List B) × (filter_map_callee j ≡ f) × (filter_map h ys ≡ w y ∷ filter_map h zs) × AlwaysYields steps v (filter_map_source j) zs
  next_given ys s j y a e p =
      let m = passed p.0 ys (filter_map_source s) p.3.0 (filter_map_callee s) p.2 a e p.3.1 p.4 in
      let n = came m.0 p.3.0 (filter_map_source j) p.2 (filter_map_callee j) y p.1 m.1 m.3 p.3.2 p.5 in
      (n.0, n.1, m.2 ∙ n.2, n.3)

  gives : (zs : List D) (ys : List B) (s : FilterMap S F) → filter_map_callee s ≡ f → filter_map h ys ≡ zs → AlwaysYields steps v (filter_map_source s) ys
      → AlwaysYields (filter_map_steps steps g) w s zs
  gives [] ys s a d e = λ y j p. let n = next_given ys s j y a e p in let z = sym n.2 ∙ d in cc
  gives (z ∷ zs) ys s a d e = (
    (λ j p.
        let m = passed p.0 ys (filter_map_source s) p.3.0 (filter_map_callee s) p.2 a e p.3.1 p.4 in
        let none = sym d ∙ m.2 ∙ ap (filter_map h) (stopped m.0 p.3.0 (filter_map_source j) _ _ p.1 m.3 p.3.2 p.5) in
        cc),
    λ y j p. let n = next_given ys s j y a e p in let first = sym n.2 ∙ d in ((cc), gives zs n.0 j n.1 (cc) n.3),
  )

pub YieldsList-from_filter_map_by : {S A B C D F : Type 0} {steps : S → Option A → S → Type 0} {v : A → B} {ys : List B} {s : FilterMap S F} (g : Mut F (A × Unit {0}) (Option C)) (w : C → D) (h : B → Option D) {f : F}
    → YieldsList steps v (filter_map_source s) ys → filter_map_callee s ≡ f → ((x : A) (r : Option C) (q : F) → Called g f (x, tt) r q → (q ≡ f) × (option_map w r ≡ h (v x)))
    → YieldsList (filter_map_steps steps g) w s (filter_map h ys)
YieldsList-from_filter_map_by {steps = steps} {v = v} {ys = ys} {s = s} g w h {f} e a k = record { runs = gives steps v g w h f k (filter_map h ys) ys s a refl e.runs }

pub filter_map-map : {A B C : Type 0} (h : B → Option C) (m : A → B) (xs : List A) → filter_map (λ x. h (m x)) xs ≡ filter_map h (map m xs)
filter_map-map h m [] = refl
filter_map-map h m (x ∷ xs) = ap (cons_option (h (m x))) (filter_map-map h m xs)

-- what is said of each list that may be given, at the one that is
pub at_list : {S A B : Type 0} {steps : S → Option A → S → Type 0} {v : A → B} {s : S} {Q : List B → Type 0} {ys : List B} → ((given : List B) → AlwaysYields steps v s given → Q given) → YieldsList steps v s ys → Q ys
at_list {ys = ys} q e = q ys e.runs

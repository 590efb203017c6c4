-- Which refusal is the first.
use Rattle.std.proofs.Common.{◌≡◌, ℕ, ◌+◌, ◌<◌, ◌≤◌, Bool, true, false, not, eqb, ◌⊎◌, inl, inr, List, [], ◌∷◌, map, length, get_or, drop, Some, None, Option, refl, ap, ◌∙◌, arith, drop_of_length-le, eq-eqb, ne_eqb}
use borrow.Author.Tests.{eqb-false}
use Rattle.std.proofs.lemmas.List.{length-map}
use Rattle.std.specs.List.{filter_map, cons_option}
use Rattle.equivalence.specs.Judgement.{unless}
use Rattle.refusal.specs.declared.Reason.{Reason}
use Rattle.refusal.specs.declared.Reason.TheVariants.{UnfitWitnessCount, UnfitWitnessNumber, EqualChallenges, UnacceptedAnswer}
use Rattle.refusal.specs.declared.Refusal.{Refusal}
use Rattle.group.specs.Exponents.{Exponents}
use Rattle.group.specs.Operations.{Operations}
use Rattle.posting.specs.declared.comparison.Comparison.{Comparison}
use Rattle.refusal.specs.Table.{refused_at}
use Rattle.witness.specs.Refusals.{Proof, judgement, judge, judged, at_place, or_else, draws, repeated, refusal_among, shown_where_fit, equivalence_proof, disjunctive_proof, equivalence_refusal, disjunctive_refusal, first_refusal}
use Rattle.witness.specs.Witnesses.{EquivalenceWitness, DisjunctiveWitness, witness_meaning}
use Rattle.witness.specs.declared.posted.Witness.{Witness}
use Rattle.plan.specs.declared.Setting.TheVariants.{Straight, Swapped}
use Rattle.std.specs.Option.{option_or}
use Rattle.witness.specs.Samples.{equivalence_sample, drawn, three_of, three_on, first_three, chosen}
use Rattle.witness.proofs.Draws.{draws_map, from_here}
use Rattle.witness.proofs.Gathering.{enough, branch_chosen}

-- along a list of witnesses that were read one by one
module _ {A W : Type 0} (judge : W → Option Reason) (m : A → W) (ws : List A) where
  pub stop_at : (place i : ℕ) (w : A) {f : Refusal} → w ≡ get_or ws i w → i < length ws → at_place place (judge (m w)) ≡ Some f
      → judged judge place (map m (drop i ws)) ≡ Some f
  stop_at place i w is h e = ap (λ l. judged judge place (map m l)) (from_here ws i w is h) ∙ ap (λ o. or_else o (judged judge (place + 1) (map m (drop (i + 1) ws)))) e

  pub done_at : (place i : ℕ) → length ws ≤ i → judged judge place (map m (drop i ws)) ≡ None
  done_at place i h = ap (λ l. judged judge place (map m l)) (drop_of_length-le ws {i = i} h)

pub refused_first : (a b : Option Refusal) {f : Refusal} → a ≡ Some f → or_else a b ≡ Some f
refused_first a b e = ap (λ o. or_else o b) e

pub refused_then : (a b : Option Refusal) {r : Option Refusal} → a ≡ None → b ≡ r → or_else a b ≡ r
refused_then a b e rest = ap (λ o. or_else o b) e ∙ rest

-- the refusals of one proof's witnesses, by what was read of them
pub among_is : {N A M : Type 0} (E : Exponents) (proof : Proof M) (number : N → ℕ) (m : A → M) (place : ℕ) (ws : List (Witness N A))
    → refusal_among E proof place (map (witness_meaning number m) ws) ≡ or_else (repeated place [] (draws number ws)) (judged (judge E proof) place (map (witness_meaning number m) ws))
among_is E proof number m place ws =
    ap (λ zs. or_else (repeated place [] zs) (judged (judge E proof) place (map (witness_meaning number m) ws))) (draws_map number (witness_meaning number m) (λ w. refl) ws)

-- all refusals, by the counts of what the witnesses are made from
module _ {P A B : Type 0} (G : Operations P) (E : Exponents) (k : Comparison P) (f : A → EquivalenceWitness P) (h : B → DisjunctiveWitness P) (ws : List A) (vs : List B) where
  pub few : (length ws ≡ 3 → ⊥) ⊎ ((length ws ≡ 3) × (length vs ≡ 5 → ⊥)) → first_refusal G E k (map f ws) (map h vs) ≡ Some (refused_at UnfitWitnessCount 0)
  unfolding first_refusal
  few (inl n) = simp (length-map ws f, ne_eqb (length ws) 3 n)
  few (inr n) = simp (length-map ws f, length-map vs h, eq-eqb (length ws) 3 n.0, ne_eqb (length vs) 5 n.1)

  pub counts_fit : length ws ≡ 3 → length vs ≡ 5
      → first_refusal G E k (map f ws) (map h vs) ≡ or_else (refusal_among E (equivalence_proof G E k) 0 (map f ws)) (refusal_among E (disjunctive_proof G E k) 3 (map h vs))
  unfolding first_refusal equivalence_refusal disjunctive_refusal
  counts_fit e i = simp (length-map ws f, length-map vs h, eq-eqb (length ws) 3 e, eq-eqb (length vs) 5 i)

-- a judgement that refuses nothing
pub judged_well : (fits : Bool) (a b : ℕ) (accepted : Bool) → judgement fits a b accepted ≡ None → (fits ≡ true) × (a ≡ b → ⊥) × (accepted ≡ true)
unfolding judgement
judged_well fits a b accepted e = go fits (eqb a b) accepted refl e
  where
    go : (f t s : Bool) → eqb a b ≡ t → unless f UnfitWitnessNumber (unless (not t) EqualChallenges (unless s UnacceptedAnswer None)) ≡ None
        → (f ≡ true) × (a ≡ b → ⊥) × (s ≡ true)
    go true true s p e = cc
    go true false true p e = (refl, eqb-false a b p, refl)
    go true false false p e = cc
    go false t s p e = cc

pub neither : (a b : Option Refusal) → or_else a b ≡ None → (a ≡ None) × (b ≡ None)
neither None b e = (refl, e)
neither (Some f) b e = cc

-- none refused: each is fit, and shows what it shows
module _ {A Shown : Type 0} (E : Exponents) (proof : Proof A) (shown : Witness ℕ A → Shown) where
  one_shown : (w : Witness ℕ A) → judge E proof w ≡ None → shown_where_fit E proof shown w ≡ Some (shown w)
  one_shown w e = ap (λ b. elim b [ true ↦ Some (shown w) | false ↦ None ]) (judged_well _ _ _ _ e).0

  unplaced : (place : ℕ) (o : Option Reason) → at_place place o ≡ None → o ≡ None
  unplaced place None e = refl
  unplaced place (Some why) e = cc

  pub all_shown : (place : ℕ) (ws : List (Witness ℕ A)) → judged (judge E proof) place ws ≡ None → filter_map (shown_where_fit E proof shown) ws ≡ map shown ws
  all_shown place [] e = refl
  all_shown place (w ∷ ws) e =
      let n = neither (at_place place (judge E proof w)) (judged (judge E proof) (place + 1) ws) e in
      ap (λ o. cons_option o (filter_map (shown_where_fit E proof shown) ws)) (one_shown w (unplaced place (judge E proof w) n.0))
      ∙ ap (λ l. shown w ∷ l) (all_shown (place + 1) ws n.1)

-- what is shown where no witness is refused
module _ {P : Type 0} (G : Operations P) (E : Exponents) (k : Comparison P) where
  pub product_shown : {A : Type 0} (f : A → EquivalenceWitness P) (ws : List A) → length ws ≡ 3 → refusal_among E (equivalence_proof G E k) 0 (map f ws) ≡ None
      → three_of (filter_map (shown_where_fit E (equivalence_proof G E k) (equivalence_sample E)) (map f ws)) ≡ Some (first_three (map (equivalence_sample E) (map f ws)))
  product_shown f ws three e =
      let n = length-map ws f in
      let m = length-map (map f ws) (equivalence_sample E) in
      ap three_of (all_shown E (equivalence_proof G E k) (equivalence_sample E) 0 (map f ws) (neither _ _ e).1)
      ∙ enough (map (equivalence_sample E) (map f ws)) (omega arith)

  pub branch_shown : {A : Type 0} (f : A → DisjunctiveWitness P) (ws : List A) → length ws ≡ 5 → refusal_among E (disjunctive_proof G E k) 3 (map f ws) ≡ None
      → let ds = filter_map (shown_where_fit E (disjunctive_proof G E k) (drawn E)) (map f ws) in option_or (three_on Straight ds) (three_on Swapped ds) ≡ Some (chosen (map (drawn E) (map f ws)))
  branch_shown f ws five e =
      ap (λ ds. option_or (three_on Straight ds) (three_on Swapped ds)) (all_shown E (disjunctive_proof G E k) (drawn E) 3 (map f ws) (neither _ _ e).1)
      ∙ branch_chosen (map (drawn E) (map f ws)) (length-map (map f ws) (drawn E) ∙ length-map ws f ∙ five)

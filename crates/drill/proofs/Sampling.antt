-- A witness that is not refused shows its exponent: at z, A^z·B = (y^z·g)^γ.
use Rattle.std.proofs.Common.{◌≡◌, ℕ, ◌%◌, ◌^◌, ◌<◌, ◌≤◌, Bool, true, false, eqb, ltb, leb, List, [], ◌∷◌, map, length, None, sym, refl, ap, ◌∙◌, ap₂, mod-eq_of_lt, arith, ltb-true, eqb-true, leb-false, leb-true}
use borrow.Author.Tests.{eqb-false}
use lib.Bits.{bit_xor}
use Rattle.std.proofs.lemmas.List.{length-map}
use Rattle.elgamal.specs.Ciphertexts.{multiplied}
use Rattle.elgamal.specs.declared.Ciphertext.{Ciphertext}
use Rattle.equivalence.proofs.SamePoint.{point_told}
use Rattle.equivalence.specs.Equations.{folded_key, folded_quotient, accepted}
use Rattle.group.specs.Exponents.{Exponents, ExponentLaws, remainder}
use Rattle.group.specs.Operations.{Operations, GroupLaws, quotient}
use Rattle.plan.specs.declared.Setting.{Setting}
use Rattle.plan.specs.declared.Setting.TheVariants.{Straight, Swapped}
use Rattle.posting.specs.declared.comparison.Comparison.{Comparison}
use Rattle.witness.proofs.Gathering.{counted}
use Rattle.witness.proofs.Judging.{judged_well}
use Rattle.witness.specs.Refusals.{both, challenge_fits, answer_fits, transcript_fits, transcript_accepted, splits, judge_equivalence, judge_disjunctive}
use Rattle.witness.specs.Samples.{gamma, equivalence_sample, disjunctive_sample, drawn, on_branch, majority, first_three, chosen, examination}
use Rattle.witness.specs.Witnesses.{EquivalenceWitness, DisjunctiveWitness}
use Rattle.witness.specs.declared.posted.Disjunction.{Disjunction}
use Rattle.witness.specs.declared.posted.Transcript.{Transcript}
use Rattle.witness.specs.declared.samples.Drawn.{Drawn}
use Rattle.witness.specs.declared.samples.Sample.{Sample}
use Rattle.witness.specs.declared.samples.Samples.{Samples}
use Rattle.drill.proofs.Lines.{Shows, Fit}
use Rattle.drill.proofs.Lists.{All, Pairwise, all_mapped, both_parts, draws_apart, branch_all, branch_pairwise, Unrefused}
use Rattle.drill.proofs.Powers.{by_remainder, extracted, remainder_below}

-- the output that a branch pairs with the first input
abbrev pub output_of : {P : Type 0} → Comparison P → Setting → Ciphertext P
output_of k Straight = k.outputs.first
output_of k Swapped = k.outputs.second

module _ {P : Type 0} {G : Operations P} (laws : GroupLaws G) {E : Exponents} (exponents : ExponentLaws E) (same : G.order ≡ E.order) where
  -- a sample of how the new ciphertext comes from the old one
  pub record Sound (y : P) (old new : Ciphertext P) (s : Sample ℕ) : Type 0 where
    pub z_below : s.z < E.order
    pub gamma_below : s.gamma < E.order
    pub shows : Shows laws exponents same y (quotient G new.alpha old.alpha) (quotient G new.beta old.beta) s

  -- three samples
  pub record Three (y : P) (old new : Ciphertext P) (s : Samples ℕ) : Type 0 where
    pub fit : Fit laws exponents same s
    pub first : Shows laws exponents same y (quotient G new.alpha old.alpha) (quotient G new.beta old.beta) s.first
    pub second : Shows laws exponents same y (quotient G new.alpha old.alpha) (quotient G new.beta old.beta) s.second
    pub third : Shows laws exponents same y (quotient G new.alpha old.alpha) (quotient G new.beta old.beta) s.third

  own : (c : ℕ) → ltb c (2 ^ E.challenge_bits) ≡ true → c % E.order ≡ c
  own c e = let h = ltb-true c (2 ^ E.challenge_bits) e in let r = exponents.room in mod-eq_of_lt (let l : c < E.order = omega arith in l)

  transcript_sound : (y : P) (old new : Ciphertext P) (z : ℕ) (t : Transcript P ℕ) → z < E.order → transcript_fits E t ≡ true
      → (t.first.challenge ≡ t.second.challenge → ⊥) → transcript_accepted G y old new z t ≡ true
      → Sound y old new (record { z = z; gamma = gamma E t.first t.second })
  unfolding gamma
  transcript_sound y old new z t hz fits n accept =
      let f = both_parts (answer_fits E t.first) (answer_fits E t.second) fits in
      let f1 = both_parts (ltb t.first.challenge (2 ^ E.challenge_bits)) (ltb t.first.exponent E.order) f.0 in
      let f2 = both_parts (ltb t.second.challenge (2 ^ E.challenge_bits)) (ltb t.second.exponent E.order) f.1 in
      let K = folded_key G y z in
      let Y = folded_quotient G old new z in
      let a = both_parts (accepted G K Y t.commitment t.first.challenge t.first.exponent) (accepted G K Y t.commitment t.second.challenge t.second.exponent) accept in
      let c = remainder E t.first.challenge in
      let d = remainder E t.second.challenge in
      record {
        z_below = hz;
        gamma_below = remainder_below laws exponents same _;
        shows = extracted laws exponents same K Y t.commitment t.first.exponent t.second.exponent c d
            (ltb-true _ _ f2.1) (remainder_below laws exponents same _) (remainder_below laws exponents same _)
            (λ e. n (sym (own _ f1.0) ∙ e ∙ own _ f2.0))
            (point_told laws _ _ a.0 ∙ ap (G.times t.commitment) (sym (by_remainder laws exponents same Y t.first.challenge)))
            (point_told laws _ _ a.1 ∙ ap (G.times t.commitment) (sym (by_remainder laws exponents same Y t.second.challenge)));
      }

  equivalence_sound : (k : Comparison P) (w : EquivalenceWitness P) → judge_equivalence G E k w ≡ None
      → Sound k.key (multiplied G k.inputs.first k.inputs.second) (multiplied G k.outputs.first k.outputs.second) (equivalence_sample E w)
  equivalence_sound k w e =
      let j = judged_well _ _ _ _ e in
      let f = both_parts (ltb w.z E.order) (transcript_fits E w.answered) j.0 in
      transcript_sound k.key _ _ w.z w.answered (ltb-true _ _ f.0) f.1 j.1 j.2

  -- where the parts on the first branch are equal, those on the second are not
  other_part : (d : Disjunction P ℕ) → splits d ≡ true → (d.challenges.first ≡ d.challenges.second → ⊥)
      → d.straight.first.challenge ≡ d.straight.second.challenge → d.swapped.first.challenge ≡ d.swapped.second.challenge → ⊥
  other_part d s n e f =
      let p = both_parts (eqb (bit_xor d.straight.first.challenge d.swapped.first.challenge) d.challenges.first) _ s in
      n (sym (eqb-true _ _ p.0) ∙ ap₂ bit_xor e f ∙ eqb-true _ _ p.1)

  disjunctive_sound : (k : Comparison P) (w : DisjunctiveWitness P) → judge_disjunctive G E k w ≡ None
      → Sound k.key k.inputs.first (output_of k (drawn E w).setting) (drawn E w).sample
  disjunctive_sound k w e =
      let d = w.answered in
      let j = judged_well _ _ _ _ e in
      let f = both_parts (ltb w.z E.order) _ j.0 in
      let g = both_parts (both (challenge_fits E d.challenges.first) (challenge_fits E d.challenges.second)) (both (transcript_fits E d.straight) (transcript_fits E d.swapped)) f.1 in
      let t = both_parts (transcript_fits E d.straight) (transcript_fits E d.swapped) g.1 in
      let a = both_parts (splits d) _ j.2 in
      let b = both_parts (transcript_accepted G k.key k.inputs.first k.outputs.first w.z d.straight) _ a.1 in
      go (eqb d.straight.first.challenge d.straight.second.challenge) refl (ltb-true _ _ f.0) t a.0 j.1 b
    where
      go : (c : Bool) → eqb w.answered.straight.first.challenge w.answered.straight.second.challenge ≡ c → w.z < E.order
          → (transcript_fits E w.answered.straight ≡ true) × (transcript_fits E w.answered.swapped ≡ true) → splits w.answered ≡ true
          → (w.answered.challenges.first ≡ w.answered.challenges.second → ⊥)
          → (transcript_accepted G k.key k.inputs.first k.outputs.first w.z w.answered.straight ≡ true)
          × (transcript_accepted G k.key k.inputs.first k.outputs.second w.z w.answered.swapped ≡ true)
          → Sound k.key k.inputs.first (output_of k (elim c [ true ↦ Swapped | false ↦ Straight ])) (disjunctive_sample E w (elim c [ true ↦ Swapped | false ↦ Straight ]))
      go true p hz t s n b = transcript_sound k.key _ _ w.z w.answered.swapped hz t.1 (other_part w.answered s n (eqb-true _ _ p)) b.1
      go false p hz t s n b = transcript_sound k.key _ _ w.z w.answered.straight hz t.0 (eqb-false _ _ p) b.0

  three_sound : (y : P) (old new : Ciphertext P) (l : List (Sample ℕ)) → 3 ≤ length l → All (Sound y old new) l → Pairwise (λ s t. s.z ≡ t.z → ⊥) l
      → Three y old new (first_three l)
  three_sound y old new [] h a p = absurd (omega arith)
  three_sound y old new (s ∷ []) h a p = absurd (omega arith)
  three_sound y old new (s ∷ (t ∷ [])) h a p = absurd (omega arith)
  three_sound y old new (s ∷ (t ∷ (u ∷ l))) h a p = record {
    fit = record {
      z1_below = a.0.z_below;
      z2_below = a.1.0.z_below;
      z3_below = a.1.1.0.z_below;
      c1_below = a.0.gamma_below;
      c2_below = a.1.0.gamma_below;
      c3_below = a.1.1.0.gamma_below;
      apart12 = p.0.0;
      apart13 = p.0.1.0;
      apart23 = p.1.0.0;
    };
    first = a.0.shows;
    second = a.1.0.shows;
    third = a.1.1.0.shows;
  }

  enough : (ds : List (Drawn ℕ)) → length ds ≡ 5 → 3 ≤ length (on_branch (majority ds) ds)
  enough ds h = go (leb 3 (length (on_branch Straight ds))) refl
    where
      go : (b : Bool) → leb 3 (length (on_branch Straight ds)) ≡ b → 3 ≤ length (on_branch (elim b [ true ↦ Straight | false ↦ Swapped ]) ds)
      go true e = leb-true 3 _ e
      go false e = let few = leb-false 3 (length (on_branch Straight ds)) e in let all = counted ds in omega arith

  module _ (k : Comparison P) (W : List (EquivalenceWitness P)) (V : List (DisjunctiveWitness P)) (u : Unrefused G E k W V) where
    pub product_samples : Three k.key (multiplied G k.inputs.first k.inputs.second) (multiplied G k.outputs.first k.outputs.second) (examination E W V).product
    product_samples =
        let n = length-map W (equivalence_sample E) in let m = u.three in
        three_sound k.key _ _ (map (equivalence_sample E) W) (omega arith)
        (all_mapped (Sound k.key _ _) (equivalence_sample E) (equivalence_sound k) W u.equivalence_judged)
        (draws_apart (equivalence_sample E) (λ s. s.z) (λ w. refl) W u.equivalence_draws)

    pub branch_samples : Three k.key k.inputs.first (output_of k (examination E W V).branch.setting) (examination E W V).branch.samples
    unfolding chosen
    branch_samples =
        let ds = map (drawn E) V in
        let n = length-map V (drawn E) in let m = u.five in
        three_sound k.key _ _ (on_branch (majority ds) ds) (enough ds (n ∙ m))
        (branch_all (λ s. Sound k.key k.inputs.first (output_of k s)) (majority ds) ds (all_mapped (λ d. Sound k.key k.inputs.first (output_of k d.setting) d.sample) (drawn E) (disjunctive_sound k) V u.disjunctive_judged))
        (branch_pairwise (λ s t. s.z ≡ t.z → ⊥) (majority ds) ds (draws_apart (drawn E) (λ d. d.sample.z) (λ w. refl) V u.disjunctive_draws))

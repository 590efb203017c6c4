-- An honest task is answered by its own order and exponents, unless two of its z are equal.
use Rattle.std.proofs.Common.{◌≡◌, ℕ, ◌+◌, ◌<◌, Bool, true, false, ltb, List, [], ◌∷◌, map, Some, None, Ok, Err, Option, Result, sym, refl, ap, ◌∙◌, subst, ap₂, lt-ltb, eq-eqb, ne_eqb}
use Rattle.drill.proofs.Lists.{All}
use Rattle.drill.proofs.Powers.{remainder_below}
use Rattle.drill.proofs.Sampling.{output_of}
use Rattle.drill.specs.Findings.{finding_meaning, ordered, answer}
use Rattle.drill.specs.Rule.{Concluded, Found}
use Rattle.drill.specs.declared.finding.KeyFound.{KeyFound}
use Rattle.drill.specs.declared.finding.Finding.{Finding}
use Rattle.drill.specs.declared.finding.Finding.TheVariants.{Outputs}
use Rattle.elgamal.specs.Ciphertexts.{multiplied}
use Rattle.elgamal.specs.declared.Ciphertext.{Ciphertext}
use Rattle.equivalence.specs.Equations.{folded_key, folded_quotient}
use Rattle.group.specs.Exponents.{Exponents, ExponentLaws, remainder, lowest_bits, sum}
use Rattle.group.specs.Operations.{Operations, GroupLaws, power}
use Rattle.plan.specs.declared.Setting.{Setting}
use Rattle.plan.specs.declared.Setting.TheVariants.{Straight, Swapped}
use Rattle.posting.specs.declared.comparison.Comparison.{Comparison}
use Rattle.refusal.specs.declared.Reason.{Reason}
use Rattle.refusal.specs.declared.Refusal.{Refusal}
use Rattle.refusal.specs.declared.failure.Failure.{Failure}
use Rattle.refusal.specs.declared.failure.Failure.TheVariants.{Refused, NoMemory}
use Rattle.witness.specs.Refusals.{both, challenge_fits, transcript_fits, transcript_accepted, splits, or_else, repeated, judged, judgement, judge_equivalence, judge_disjunctive, equivalence_refusal, disjunctive_refusal, first_refusal}
use Rattle.witness.specs.Samples.{equivalence_sample, disjunctive_sample, drawn, chosen, examination}
use Rattle.witness.specs.Witnesses.{EquivalenceWitness, DisjunctiveWitness}
use Rattle.witness.specs.declared.posted.Transcript.{Transcript}
use Rattle.witness.specs.declared.samples.Drawn.{Drawn}
use Rattle.witness.specs.declared.samples.Examination.{Examination}
use Rattle.witness.specs.declared.samples.Sample.{Sample}
use Rattle.witness.specs.declared.samples.Samples.{Samples}
use Rattle.drillserver.proofs.Challenges.{Fair, bits_below, next_fair, parts_fair, xor_back, xor_front}
use Rattle.drillserver.proofs.Transcripts.{quotient_power, simulated_transcript_accepted, product_power, product_swapped, left_of_sum, left_of_other, answering_own, made_gamma, proved_fits, simulated_fits, proved_accepted}
use Rattle.drillserver.specs.Answering.{next_challenges, parts_beside, proved_transcript, simulated_transcript, made_disjunction, made_equivalence_witness, made_disjunctive_witness, made_equivalence_witnesses, made_disjunctive_witnesses}
use Rattle.drillserver.specs.Comparing.{made_comparison}
use Rattle.drillserver.specs.Drilling.{IfDrilled, DrilledAsMade}
use Rattle.drillserver.specs.Honest.{honest, unless_refused, equal_z, own_finding, AnsweredHonestly}
use Rattle.drillserver.specs.Knowledge.{word, product_answering, branch_answering}
use Rattle.drillserver.specs.declared.task.Kind.{Kind}
use Rattle.drillserver.specs.declared.task.Task.{Task}

nothing_wrong : (fits : Bool) (a b : ℕ) (accepted : Bool) → fits ≡ true → (a ≡ b → ⊥) → accepted ≡ true → judgement fits a b accepted ≡ None
unfolding judgement
nothing_wrong fits a b accepted f n s = simp (f, ne_eqb a b n, s)

none_judged : {W : Type 0} (judge : W → Option Reason) (place : ℕ) (ws : List W) → All (λ w. judge w ≡ None) ws → judged judge place ws ≡ None
none_judged judge place [] h = refl
none_judged judge place (w ∷ ws) h = rw h.0 (none_judged judge (place + 1) ws h.1)

or_none : (o : Option Refusal) → or_else o None ≡ o
or_none None = refl
or_none (Some f) = refl

-- samples of one exponent
abbrev sample : (γ z : ℕ) → Sample ℕ
sample γ z = record { z = z; gamma = γ }

abbrev three : (γ z1 z2 z3 : ℕ) → Samples ℕ
three γ z1 z2 z3 = record { first = sample γ z1; second = sample γ z2; third = sample γ z3 }

abbrev of_branch : Setting → (γ z : ℕ) → Drawn ℕ
of_branch s γ z = record { setting = s; sample = sample γ z }

-- five of one branch: it is chosen, with its first three
chosen_branch : (s : Setting) (γ a b c d e : ℕ)
    → chosen (of_branch s γ a ∷ of_branch s γ b ∷ of_branch s γ c ∷ of_branch s γ d ∷ of_branch s γ e ∷ []) ≡ record { setting = s; samples = three γ a b c }
unfolding chosen
chosen_branch Straight γ a b c d e = refl
chosen_branch Swapped γ a b c d e = refl

-- samples of one exponent show it, and no key
shows_common : (E : Exponents) (γ z1 z2 z3 : ℕ) (c : Result ℕ (KeyFound ℕ)) → Concluded E (three γ z1 z2 z3) c → c ≡ Ok γ
shows_common E γ z1 z2 z3 (Ok g) h = ap Ok h.1
shows_common E γ z1 z2 z3 (Err found) h = absurd (h.0 (refl, refl))

abbrev examined : (s : Setting) (p γ z1 z2 z3 : ℕ) → Examination ℕ
examined s p γ z1 z2 z3 = record { product = three p z1 z2 z3; branch = record { setting = s; samples = three γ z1 z2 z3 } }

found_ordered : (E : Exponents) (s : Setting) (p γ z1 z2 z3 : ℕ) (f : Finding ℕ) → Found E (examined s p γ z1 z2 z3) f → f ≡ Outputs (ordered E s p γ)
found_ordered E s p γ z1 z2 z3 f h =
    h.joined ∙ ap₂ (λ a b. answer E a s b) (shows_common E p z1 z2 z3 h.product h.product_shows) (shows_common E γ z1 z2 z3 h.branch h.branch_shows)

module _ {P : Type 0} {G : Operations P} (laws : GroupLaws G) {E : Exponents} (exponents : ExponentLaws E) (same : G.order ≡ E.order) where
  below : (n : ℕ) → remainder E n < E.order
  below n = remainder_below laws exponents same n

  -- a witness made from the word n by one who answers by γ
  abbrev equivalence_by : P → (γ n : ℕ) → EquivalenceWitness P
  equivalence_by y γ n = record { z = remainder E n; answered = proved_transcript G E (folded_key G y (remainder E n)) γ (sum E (remainder E n) γ) (next_challenges E n) }

  abbrev disjunctive_by : Comparison P → Setting → (γ n : ℕ) → DisjunctiveWitness P
  disjunctive_by k s γ n = record { z = remainder E n; answered = made_disjunction G E k s (remainder E n) γ (next_challenges E n) (lowest_bits E (word n 3)) }

  -- what is drawn from a witness, by whether the first branch's challenges are equal
  abbrev settled : Setting → Bool
  settled Straight = false
  settled Swapped = true

  abbrev drawn_as : DisjunctiveWitness P → Bool → Drawn ℕ
  drawn_as w equal = let s : Setting = elim equal [ true ↦ Swapped | false ↦ Straight ] in record { setting = s; sample = disjunctive_sample E w s }

  -- a witness is not refused where γ is the exponent
  equivalence_taken : (k : Comparison P) (γ n : ℕ)
      → folded_quotient G (multiplied G k.inputs.first k.inputs.second) (multiplied G k.outputs.first k.outputs.second) (remainder E n) ≡ power G (folded_key G k.key (remainder E n)) γ
      → judge_equivalence G E k (equivalence_by k.key γ n) ≡ None
  equivalence_taken k γ n is =
      nothing_wrong _ _ _ _ (ap₂ both (lt-ltb _ _ (below n)) (proved_fits laws exponents same (folded_key G k.key (remainder E n)) γ (sum E (remainder E n) γ) (next_challenges E n) (next_fair exponents n)))
      (next_fair exponents n).apart (proved_accepted laws exponents same k.key _ _ (remainder E n) γ _ (next_challenges E n) is)

  -- the parts of a disjunctive witness, whichever branch is known
  module _ (k : Comparison P) (γ n : ℕ) where
    abbrev z_of : ℕ
    z_of = remainder E n

    abbrev other : ℕ
    other = lowest_bits E (word n 3)

    abbrev known : Transcript P ℕ
    known = proved_transcript G E (folded_key G k.key z_of) γ (sum E z_of γ) (parts_beside other (next_challenges E n))

    abbrev simulated : Ciphertext P → Transcript P ℕ
    simulated new = simulated_transcript G (folded_key G k.key z_of) (folded_quotient G k.inputs.first new z_of) z_of other

    parts : Fair exponents (parts_beside other (next_challenges E n))
    parts = parts_fair exponents other (next_challenges E n) (bits_below exponents (word n 3)) (next_fair exponents n)

    known_fits : transcript_fits E known ≡ true
    known_fits = proved_fits laws exponents same (folded_key G k.key z_of) γ (sum E z_of γ) (parts_beside other (next_challenges E n)) parts

    other_fits : (new : Ciphertext P) → transcript_fits E (simulated new) ≡ true
    other_fits new = simulated_fits laws exponents same (folded_key G k.key z_of) (folded_quotient G k.inputs.first new z_of) z_of other (below n) (bits_below exponents (word n 3))

    all_fit : (a b : Bool) → a ≡ true → b ≡ true
        → both (ltb z_of E.order) (both (both (challenge_fits E (next_challenges E n).first) (challenge_fits E (next_challenges E n).second)) (both a b)) ≡ true
    all_fit a b ha hb =
        let fair = next_fair exponents n in
        ap₂ both (lt-ltb _ _ (below n)) (ap₂ both (ap₂ both (lt-ltb _ _ fair.first_below) (lt-ltb _ _ fair.second_below)) (ap₂ both ha hb))

    known_accepted : (new : Ciphertext P) → folded_quotient G k.inputs.first new z_of ≡ power G (folded_key G k.key z_of) γ
        → transcript_accepted G k.key k.inputs.first new z_of known ≡ true
    known_accepted new is = proved_accepted laws exponents same k.key k.inputs.first new z_of γ (sum E z_of γ) (parts_beside other (next_challenges E n)) is

    other_accepted : (new : Ciphertext P) → transcript_accepted G k.key k.inputs.first new z_of (simulated new) ≡ true
    other_accepted new = simulated_transcript_accepted laws k.key k.inputs.first new z_of z_of other

    whole : (s : Setting) → splits (disjunctive_by k s γ n).answered ≡ true
    whole Straight = ap₂ both (eq-eqb _ _ (xor_back (next_challenges E n).first other)) (eq-eqb _ _ (xor_back (next_challenges E n).second other))
    whole Swapped = ap₂ both (eq-eqb _ _ (xor_front (next_challenges E n).first other)) (eq-eqb _ _ (xor_front (next_challenges E n).second other))

    disjunctive_taken : (s : Setting) → folded_quotient G k.inputs.first (output_of k s) z_of ≡ power G (folded_key G k.key z_of) γ
        → judge_disjunctive G E k (disjunctive_by k s γ n) ≡ None
    disjunctive_taken Straight is =
        nothing_wrong _ _ _ _ (all_fit _ _ known_fits (other_fits k.outputs.second)) (next_fair exponents n).apart
        (ap₂ both (whole Straight) (ap₂ both (known_accepted k.outputs.first is) (other_accepted k.outputs.second)))
    disjunctive_taken Swapped is =
        nothing_wrong _ _ _ _ (all_fit _ _ (other_fits k.outputs.first) known_fits) (next_fair exponents n).apart
        (ap₂ both (whole Swapped) (ap₂ both (other_accepted k.outputs.first) (known_accepted k.outputs.second is)))

    -- the exponent is shown on the branch that is known: there alone the challenges differ
    shown : (s : Setting) → γ < E.order → drawn_as (disjunctive_by k s γ n) (settled s) ≡ of_branch s γ z_of
    shown Straight h = ap (λ g. of_branch Straight g z_of) (made_gamma laws exponents same (sum E z_of γ) γ (parts_beside other (next_challenges E n)) h parts)
    shown Swapped h = ap (λ g. of_branch Swapped g z_of) (made_gamma laws exponents same (sum E z_of γ) γ (parts_beside other (next_challenges E n)) h parts)

    disjunctive_shows : (s : Setting) → γ < E.order → drawn E (disjunctive_by k s γ n) ≡ of_branch s γ z_of
    disjunctive_shows Straight h = ap (drawn_as (disjunctive_by k Straight γ n)) (ne_eqb _ _ parts.apart) ∙ shown Straight h
    disjunctive_shows Swapped h = ap (drawn_as (disjunctive_by k Swapped γ n)) (eq-eqb other other refl) ∙ shown Swapped h

  equivalence_shows : (y : P) (γ n : ℕ) → γ < E.order → equivalence_sample E (equivalence_by y γ n) ≡ sample γ (remainder E n)
  equivalence_shows y γ n h = ap (λ g. sample g (remainder E n)) (made_gamma laws exponents same _ γ (next_challenges E n) h (next_fair exponents n))

  -- the honest task of these numbers
  module _ (x r1 r2 seed : ℕ) where
    abbrev task : Setting → Task
    task s = record { kind = honest s; private = x; r1 = r1; r2 = r2; seed = seed }

    abbrev k : Setting → Comparison P
    k s = made_comparison G E (task s)

    abbrev total : ℕ
    total = sum E (remainder E r1) (remainder E r2)

    -- the exponent of the output that was made from the first input
    abbrev of_first : Setting → ℕ
    of_first Straight = remainder E r1
    of_first Swapped = remainder E r2

    of_first_below : (s : Setting) → of_first s < E.order
    of_first_below Straight = below r1
    of_first_below Swapped = below r2

    product_quotient : (s : Setting) (z : ℕ)
        → folded_quotient G (multiplied G (k s).inputs.first (k s).inputs.second) (multiplied G (k s).outputs.first (k s).outputs.second) z ≡ power G (folded_key G (k s).key z) total
    product_quotient Straight z = product_power laws exponents same (k Straight).key (k Straight).inputs.first (k Straight).inputs.second (remainder E r1) (remainder E r2) z
    product_quotient Swapped z = product_swapped laws exponents same (k Swapped).key (k Swapped).inputs.first (k Swapped).inputs.second (remainder E r1) (remainder E r2) z

    branch_quotient : (s : Setting) (z : ℕ) → folded_quotient G (k s).inputs.first (output_of (k s) s) z ≡ power G (folded_key G (k s).key z) (of_first s)
    branch_quotient Straight z = quotient_power laws (k Straight).key (k Straight).inputs.first (remainder E r1) z
    branch_quotient Swapped z = quotient_power laws (k Swapped).key (k Swapped).inputs.first (remainder E r2) z

    product_own : (s : Setting) (z : ℕ) → product_answering E (task s) z ≡ total
    product_own Straight z = answering_own laws exponents same (remainder E x) total z (below _)
    product_own Swapped z = answering_own laws exponents same (remainder E x) total z (below _)

    branch_own : (s : Setting) (z : ℕ) → branch_answering E (task s) z ≡ of_first s
    branch_own Straight z = answering_own laws exponents same (remainder E x) (remainder E r1) z (below r1)
    branch_own Swapped z = answering_own laws exponents same (remainder E x) (remainder E r2) z (below r2)

    equivalence_is : (s : Setting) (j : ℕ) → made_equivalence_witness G E (k s).key (task s) j ≡ equivalence_by (k s).key total (word seed j)
    unfolding made_equivalence_witness
    equivalence_is s j = ap (λ γ. equivalence_by (k s).key γ (word seed j)) (product_own s (remainder E (word seed j)))

    disjunctive_is : (s : Setting) (j : ℕ) → made_disjunctive_witness G E (k s) (task s) j ≡ disjunctive_by (k s) s (of_first s) (word seed j)
    unfolding made_disjunctive_witness
    disjunctive_is Straight j = ap (λ γ. disjunctive_by (k Straight) Straight γ (word seed j)) (branch_own Straight (remainder E (word seed j)))
    disjunctive_is Swapped j = ap (λ γ. disjunctive_by (k Swapped) Swapped γ (word seed j)) (branch_own Swapped (remainder E (word seed j)))

    abbrev W : Setting → List (EquivalenceWitness P)
    W s = made_equivalence_witnesses G E (k s).key (task s)

    abbrev V : Setting → List (DisjunctiveWitness P)
    V s = made_disjunctive_witnesses G E (k s) (task s)

    -- no witness is refused for itself, so that only equal z are left to refuse
    refusal_is : (s : Setting) → first_refusal G E (k s) (W s) (V s) ≡ equal_z E (task s)
    unfolding first_refusal equivalence_refusal disjunctive_refusal made_equivalence_witness made_disjunctive_witness
    refusal_is s =
        let one = λ (j : ℕ). ap (judge_equivalence G E (k s)) (equivalence_is s j) ∙ equivalence_taken (k s) total (word seed j) (product_quotient s (remainder E (word seed j))) in
        let other = λ (j : ℕ). ap (judge_disjunctive G E (k s)) (disjunctive_is s j) ∙ disjunctive_taken (k s) (of_first s) (word seed j) s (branch_quotient s (remainder E (word seed j))) in
        ap₂ or_else
        (ap (or_else (repeated 0 [] _)) (none_judged (judge_equivalence G E (k s)) 0 (W s) (one 0, (one 1, (one 2, tt)))) ∙ or_none _)
        (ap (or_else (repeated 3 [] _)) (none_judged (judge_disjunctive G E (k s)) 3 (V s) (other 0, (other 1, (other 2, (other 3, (other 4, tt)))))) ∙ or_none _)

    abbrev z : ℕ → ℕ
    z j = remainder E (word seed j)

    examination_is : (s : Setting) → examination E (W s) (V s) ≡ examined s total (of_first s) (z 0) (z 1) (z 2)
    examination_is s =
        let one = λ (j : ℕ). ap (equivalence_sample E) (equivalence_is s j) ∙ equivalence_shows (k s).key total (word seed j) (below _) in
        let other = λ (j : ℕ). ap (drawn E) (disjunctive_is s j) ∙ disjunctive_shows (k s) (of_first s) (word seed j) s (of_first_below s) in
        let product : (examination E (W s) (V s)).product ≡ three total (z 0) (z 1) (z 2) =
        ap₂ (λ a b. record { first = a; second = b; third = equivalence_sample E (made_equivalence_witness G E (k s).key (task s) 2) }) (one 0) (one 1)
        ∙ ap (λ c. record { first = sample total (z 0); second = sample total (z 1); third = c }) (one 2) in
        let five : map (drawn E) (V s) ≡ _ = ap₂ (λ a l. a ∷ l) (other 0) (ap₂ (λ a l. a ∷ l) (other 1) (ap₂ (λ a l. a ∷ l) (other 2) (ap₂ (λ a l. a ∷ l) (other 3) (ap₂ (λ a l. a ∷ l) (other 4) refl)))) in
        ap₂ (λ p b. record { product = p; branch = b }) product (ap chosen five ∙ chosen_branch s (of_first s) (z 0) (z 1) (z 2) (z 3) (z 4))

    ordered_own : (s : Setting) → Outputs (ordered E s total (of_first s)) ≡ own_finding E s (task s)
    ordered_own Straight = ap (λ (r : ℕ). Outputs (record { setting = Straight; r1 = remainder E r1; r2 = r })) (left_of_sum laws exponents same (remainder E r1) (remainder E r2) (below r1) (below r2))
    ordered_own Swapped = ap (λ (r : ℕ). Outputs (record { setting = Swapped; r1 = r; r2 = remainder E r2 })) (left_of_other laws exponents same (remainder E r1) (remainder E r2) (below r1) (below r2))

    drilled_honest : (s : Setting) (r : Result (Finding ℕ) Refusal) → DrilledAsMade G E (task s) r → r ≡ unless_refused (equal_z E (task s)) (own_finding E s (task s))
    drilled_honest s (Ok f) h =
        ap Ok (found_ordered E s total (of_first s) (z 0) (z 1) (z 2) f (subst (λ e. Found E e f) (examination_is s) h.1) ∙ ordered_own s)
        ∙ ap (λ o. unless_refused o (own_finding E s (task s))) (sym (sym (refusal_is s) ∙ h.0))
    drilled_honest s (Err f) h = ap (λ o. unless_refused o (own_finding E s (task s))) (sym (sym (refusal_is s) ∙ h))

  pub honestly_answered : (t : Task) (r : Result (Finding ℕ) Refusal) → DrilledAsMade G E t r → AnsweredHonestly E t r
  honestly_answered t r h s is =
      let of : Kind → Task = λ kind. record { kind = kind; private = t.private; r1 = t.r1; r2 = t.r2; seed = t.seed } in
      subst (λ kind. DrilledAsMade G E (of kind) r → r ≡ unless_refused (equal_z E (of kind)) (own_finding E s (of kind))) (sym is)
      (drilled_honest t.private t.r1 t.r2 t.seed s r) h

  -- the same of what is answered, where memory suffices
  pub honest_where_drilled : {X : Type 0} (value : X → ℕ) (t : Task) (r : Result (Finding X) Failure) → IfDrilled value r (DrilledAsMade G E t) → IfDrilled value r (AnsweredHonestly E t)
  honest_where_drilled value t (Ok found) h = honestly_answered t (Ok (finding_meaning value found)) h
  honest_where_drilled value t (Err (Refused why)) h = honestly_answered t (Err why) h
  honest_where_drilled value t (Err (NoMemory error)) h = tt

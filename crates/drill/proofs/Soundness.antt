-- What the drill finds is so: a key is the private one, and without a key the outputs are the inputs re-encrypted.
use Rattle.std.proofs.Common.{◌≡◌, ℕ, ◌<◌, Bool, true, false, eqb, List, [], ◌∷◌, None, Ok, Err, Result, sym, refl, ap, ◌∙◌, subst, ap₂, eqb-true}
use borrow.Author.Tests.{eqb-false}
use Rattle.algebra.proofs.Solver.{var, unity, ⊝◌, pt, ◌·◌, inv, ◌^◌ as ◌↑◌, given, solve}
use Rattle.elgamal.proofs.Plaintexts.{reencrypted_keeps}
use Rattle.elgamal.specs.Ciphertexts.{PrivateKey, plaintext, multiplied, reencrypted}
use Rattle.elgamal.specs.declared.Ciphertext.{Ciphertext}
use Rattle.group.specs.Exponents.{Exponents, ExponentLaws, difference}
use Rattle.group.specs.Operations.{Operations, GroupLaws, power, quotient}
use Rattle.plan.specs.declared.Setting.{Setting}
use Rattle.plan.specs.declared.Setting.TheVariants.{Straight, Swapped}
use Rattle.posting.specs.declared.comparison.Comparison.{Comparison}
use Rattle.refusal.specs.declared.Refusal.{Refusal}
use Rattle.witness.specs.Refusals.{both, first_refusal}
use Rattle.witness.specs.Samples.{examination}
use Rattle.witness.specs.Witnesses.{EquivalenceWitness, DisjunctiveWitness}
use Rattle.witness.specs.declared.samples.Samples.{Samples}
use Rattle.drill.specs.Findings.{ordered, answer}
use Rattle.drill.specs.Formula.{formula, conclusion}
use Rattle.drill.specs.Meaning.{Reencrypts, Keeps, Shown}
use Rattle.drill.specs.Rule.{AllEqual, TheKey, Concluded, Found, Drilled}
use Rattle.drill.specs.declared.finding.KeyFound.{KeyFound}
use Rattle.drill.specs.declared.finding.Finding.{Finding}
use Rattle.drill.specs.declared.finding.Finding.TheVariants.{Key, Outputs}
use Rattle.drill.specs.declared.finding.Reencryption.{Reencryption}
use Rattle.drill.proofs.Lines.{key_holds, key_private, common_first, common_second}
use Rattle.drill.proofs.Lists.{unrefused}
use Rattle.drill.proofs.Powers.{by_difference}
use Rattle.drill.proofs.Sampling.{Three, output_of, product_samples, branch_samples}

module _ {P : Type 0} {G : Operations P} (laws : GroupLaws G) {E : Exponents} (exponents : ExponentLaws E) (same : G.order ≡ E.order) where
  module _ (y : P) (old new : Ciphertext P) (s : Samples ℕ) (three : Three laws exponents same y old new s) where
    A : P
    A = quotient G new.alpha old.alpha

    B : P
    B = quotient G new.beta old.beta

    -- what is computed is what the rule says
    pub conclusion_holds : Concluded E s (conclusion E s)
    unfolding A B
    conclusion_holds = go (eqb s.first.gamma s.second.gamma) (eqb s.second.gamma s.third.gamma) refl refl
        (key_holds laws exponents same s three.fit y A B three.first three.second three.third)
      where
        go : (a b : Bool) → eqb s.first.gamma s.second.gamma ≡ a → eqb s.second.gamma s.third.gamma ≡ b
            → ((AllEqual s → ⊥) → TheKey E s (formula E s))
            → Concluded E s (elim (both a b) [ true ↦ Ok s.first.gamma | false ↦ Err (record { key = formula E s }) ])
        go true true p r key = ((eqb-true _ _ p, eqb-true _ _ r), refl)
        go true false p r key = let n : AllEqual s → ⊥ = λ e. eqb-false _ _ r e.1 in (n, key n)
        go false b p r key = let n : AllEqual s → ⊥ = λ e. eqb-false _ _ p e.0 in (n, key n)

    pub concluded_key : (x : ℕ) → Concluded E s (Err (record { key = x })) → PrivateKey G y x
    unfolding A B
    concluded_key x h = key_private laws exponents same s three.fit y A B three.first three.second three.third h.0 x h.1.fits

    times_back : (a b x : P) → quotient G a b ≡ x → a ≡ G.times b x
    times_back a b x e = solve laws [] (a ∷ b ∷ x ∷ []) (pt 0) (pt 1 · pt 2) (given unity (pt 0 · inv (pt 1)) (pt 2) ∷ []) (e, tt) refl

    pub concluded_common : (γ : ℕ) → Concluded E s (Ok γ) → (new ≡ reencrypted G y old γ) × (γ < E.order)
    unfolding A B
    concluded_common γ h =
        let first = common_first laws exponents same s three.fit y A B three.first three.second three.third h.0 ∙ ap (power G y) (sym h.1) in
        let second = common_second laws exponents same s three.fit y A B three.first three.second three.third h.0 ∙ ap (power G G.base) (sym h.1) in (
          ap₂ (λ a b. record { alpha = a; beta = b }) (times_back new.alpha old.alpha (power G y γ) first) (times_back new.beta old.beta (power G G.base γ) second),
          subst (λ (n : ℕ). n < E.order) (sym h.1) three.fit.c1_below,
        )

  -- what is left of a product of two
  left_over : (x a1 a2 b1 b2 : P) (p γ : ℕ) → γ < E.order → G.times b1 b2 ≡ G.times (G.times a1 a2) (power G x p) → b1 ≡ G.times a1 (power G x γ)
      → b2 ≡ G.times a2 (power G x (difference E p γ))
  left_over x a1 a2 b1 b2 p γ h product first =
      solve laws (p ∷ γ ∷ difference E p γ ∷ []) (x ∷ a1 ∷ a2 ∷ b1 ∷ b2 ∷ []) (pt 4) (pt 2 · pt 0 ↑ var 2)
      (given unity (pt 3 · pt 4) (pt 1 · pt 2 · pt 0 ↑ var 0) ∷ given (⊝ unity) (pt 3) (pt 1 · pt 0 ↑ var 1)
      ∷ given (⊝ unity) (pt 0 ↑ var 2) (pt 0 ↑ var 0 · inv (pt 0 ↑ var 1)) ∷ [])
      (product, (first, (by_difference laws exponents same x p γ h, tt))) refl

  other_is : (y : P) (i1 i2 o1 o2 : Ciphertext P) (p γ : ℕ) → γ < E.order → multiplied G o1 o2 ≡ reencrypted G y (multiplied G i1 i2) p → o1 ≡ reencrypted G y i1 γ
      → o2 ≡ reencrypted G y i2 (difference E p γ)
  other_is y i1 i2 o1 o2 p γ h product first =
      ap₂ (λ a b. record { alpha = a; beta = b })
      (left_over y i1.alpha i2.alpha o1.alpha o2.alpha p γ h (ap (λ c. c.alpha) product) (ap (λ c. c.alpha) first))
      (left_over G.base i1.beta i2.beta o1.beta o2.beta p γ h (ap (λ c. c.beta) product) (ap (λ c. c.beta) first))

  reencrypts : (y : P) (old new : Ciphertext P) (r : ℕ) → new ≡ reencrypted G y old r → Reencrypts G y old new r
  reencrypts y old new r e = record { is = e; keeps = λ x k. ap (plaintext G x) e ∙ reencrypted_keeps laws y old r x k }

  keeps : (k : Comparison P) (s : Setting) (p γ : ℕ) → γ < E.order
      → multiplied G k.outputs.first k.outputs.second ≡ reencrypted G k.key (multiplied G k.inputs.first k.inputs.second) p
      → output_of k s ≡ reencrypted G k.key k.inputs.first γ
      → Keeps G k (ordered E s p γ).setting (ordered E s p γ).r1 (ordered E s p γ).r2
  keeps k Straight p γ h product branch =
      (reencrypts k.key _ _ γ branch, reencrypts k.key _ _ (difference E p γ) (other_is k.key k.inputs.first k.inputs.second k.outputs.first k.outputs.second p γ h product branch))
  keeps k Swapped p γ h product branch =
      let o1 = k.outputs.first in
      let o2 = k.outputs.second in
      let turned : multiplied G o2 o1 ≡ multiplied G o1 o2 = ap₂ (λ a b. record { alpha = a; beta = b }) (laws.commutative o2.alpha o1.alpha) (laws.commutative o2.beta o1.beta) in
      (reencrypts k.key _ _ (difference E p γ) (other_is k.key k.inputs.first k.inputs.second o2 o1 p γ h (turned ∙ product) branch), reencrypts k.key _ _ γ branch)

  module _ (k : Comparison P) (W : List (EquivalenceWitness P)) (V : List (DisjunctiveWitness P)) where
    -- nothing refused: the computed conclusions are found
    pub found : first_refusal G E k W V ≡ None
        → Found E (examination E W V) (answer E (conclusion E (examination E W V).product) (examination E W V).branch.setting (conclusion E (examination E W V).branch.samples))
    found e =
        let u = unrefused G E k W V e in
        record {
          product = conclusion E (examination E W V).product;
          branch = conclusion E (examination E W V).branch.samples;
          product_shows = conclusion_holds k.key _ _ (examination E W V).product (product_samples laws exponents same k W V u);
          branch_shows = conclusion_holds k.key _ _ (examination E W V).branch.samples (branch_samples laws exponents same k W V u);
          joined = refl;
        }

    -- what the drill answers, without its code
    pub drilled_shown : (r : Result (Finding ℕ) Refusal) → Drilled G E k W V r → Shown G k r
    drilled_shown (Err f) h = tt
    drilled_shown (Ok f) h =
        let u = unrefused G E k W V h.0 in
        subst (λ f. Shown G k (Ok f)) (sym h.1.joined)
        (go h.1.product h.1.branch h.1.product_shows h.1.branch_shows (product_samples laws exponents same k W V u) (branch_samples laws exponents same k W V u))
      where
        go : (p b : Result ℕ (KeyFound ℕ)) → Concluded E (examination E W V).product p → Concluded E (examination E W V).branch.samples b
            → Three laws exponents same k.key (multiplied G k.inputs.first k.inputs.second) (multiplied G k.outputs.first k.outputs.second) (examination E W V).product
            → Three laws exponents same k.key k.inputs.first (output_of k (examination E W V).branch.setting) (examination E W V).branch.samples
            → Shown G k (Ok (answer E p (examination E W V).branch.setting b))
        go (Err found) b hp hb tp tb = concluded_key k.key _ _ _ tp found.key hp
        go (Ok p) (Err found) hp hb tp tb = concluded_key k.key _ _ _ tb found.key hb
        go (Ok p) (Ok γ) hp hb tp tb =
            let product = concluded_common k.key _ _ _ tp p hp in
            let branch = concluded_common k.key _ _ _ tb γ hb in
            keeps k (examination E W V).branch.setting p γ branch.1 product.0 branch.0

    -- a key that the drill answers is the private key
    pub drilled_key : (x : ℕ) → Drilled G E k W V (Ok (Key x)) → PrivateKey G k.key x
    drilled_key x h = drilled_shown (Ok (Key x)) h

    -- without a key the outputs are the inputs re-encrypted, in the order that is answered
    pub drilled_outputs : (o : Reencryption ℕ) → Drilled G E k W V (Ok (Outputs o)) → Keeps G k o.setting o.r1 o.r2
    drilled_outputs o h = drilled_shown (Ok (Outputs o)) h

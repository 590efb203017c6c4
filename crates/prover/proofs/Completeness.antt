-- What an honest comparator posts is taken, at the same draws.
use Rattle.std.proofs.Common.{◌≡◌, ℕ, ◌+◌, ◌^◌, ◌<◌, true, None, ap, ◌∙◌, mod-lt, arith, pow_pos, lt-ltb, eq-eqb}
use lib.Bits.{bit_xor, xor_lt, xor_assoc, xor_comm, xor_self, xor_zero_r}
use Rattle.equivalence.proofs.Judging.{none_fails, equations_left}
use Rattle.equivalence.proofs.SamePoint.{point_same}
use Rattle.equivalence.specs.Equations.{folded_key, Accepted, accepted}
use Rattle.equivalence.specs.Judgement.{branch_fits, numbers_fit, judge, draws}
use Rattle.equivalence.specs.declared.proofs.Branch.{Branch}
use Rattle.equivalence.specs.declared.proofs.Proofs.{Proofs}
use Rattle.group.specs.Exponents.{Exponents, ExponentLaws, sum}
use Rattle.group.specs.Operations.{Operations, GroupLaws}
use Rattle.plan.specs.declared.Setting.{Setting}
use Rattle.plan.specs.declared.Setting.TheVariants.{Straight, Swapped}
use Rattle.posting.specs.declared.comparison.Pair.{Pair}
use Rattle.source.specs.Words.{Words, c_of}
use Rattle.prover.proofs.Accepting.{quotient_power, product_power, product_swapped, true_accepted, sum_power, simulated_accepted}
use Rattle.prover.specs.Honest.{honest_comparison, honest_proofs, equivalence_z, disjunction_z, disjunction_challenge, first_commitment, second_commitment}
use Rattle.prover.specs.declared.secrets.Secrets.{Secrets}

-- a challenge that is split in two is put together again
xor_back : (a b : ℕ) → bit_xor (bit_xor a b) b ≡ a
xor_back a b = xor_assoc a b b ∙ ap (bit_xor a) (xor_self b) ∙ xor_zero_r a

branch_fit : {P : Type 0} (E : Exponents) (b : Branch P ℕ) → b.challenge < 2 ^ E.challenge_bits → b.answer < E.order → branch_fits E b ≡ true
branch_fit E b h k = simp (lt-ltb _ _ h, lt-ltb _ _ k)

fit : {P : Type 0} (E : Exponents) (p : Proofs P ℕ) → p.equivalence.answer < E.order → branch_fits E p.disjunction.first ≡ true → branch_fits E p.disjunction.second ≡ true → numbers_fit E p ≡ true
fit E p h a b = simp (lt-ltb _ _ h, a, b)

-- The secrets are fit: exponents below the order, the challenge below 2^l.
pub record Fit (E : Exponents) (s : Secrets ℕ) : Type 0 where
  pub answer_below : s.answer < E.order
  pub challenge_below : s.challenge < 2 ^ E.challenge_bits

module _ {P : Type 0} {G : Operations P} (laws : GroupLaws G) (E : Exponents) (exponents : ExponentLaws E) (same : G.order ≡ E.order) (S : Words) where
  some : 0 < E.order
  some = let h = laws.some_order in omega (arith, same)

  drawn_below : (w : ℕ) → c_of E w < 2 ^ E.challenge_bits
  drawn_below w = mod-lt w (pow_pos E.challenge_bits)

  -- an equation that holds passes its test
  passes : (key quotient w : P) (c s : ℕ) → Accepted G key quotient w c s → accepted G key quotient w c s ≡ true
  passes key quotient w c s h = point_same laws _ _ h

  pub honest_taken : (y : P) (inputs : Pair P) (setting : Setting) (s : Secrets ℕ) (first : ℕ) → Fit E s → first + 3 < S.reach
      → judge G E S (honest_comparison G y inputs setting s) (honest_proofs G E S (honest_comparison G y inputs setting s) setting s first) first ≡ None
  honest_taken y inputs Straight s first fits reaches =
      let k = honest_comparison G y inputs Straight s in
      let p = honest_proofs G E S k Straight s first in
      let z = equivalence_z G E S k first in
      let z' = disjunction_z G E S k first in
      let c' = disjunction_challenge G E S k (first_commitment G E S k Straight s first) (second_commitment G E S k Straight s first) first in
      let below = λ (n : ℕ). mod-lt n some in
      let split = xor_lt E.challenge_bits c' s.challenge (drawn_below _) fits.challenge_below in
      equations_left G E S k p first (fit E p (below _) (branch_fit E p.disjunction.first split (below _)) (branch_fit E p.disjunction.second fits.challenge_below fits.answer_below)) reaches
      ∙ none_fails G k p (draws G E S k p first)
      (passes _ _ _ _ _ (true_accepted laws E same (folded_key G y z) _ s.equivalence _ (sum E s.r1 s.r2) (product_power laws y inputs.first inputs.second s.r1 s.r2 z ∙ sum_power laws E same (folded_key G y z) s.r1 s.r2)))
      (eq-eqb _ _ (xor_back c' s.challenge))
      (passes _ _ _ _ _ (true_accepted laws E same (folded_key G y z') _ s.disjunction _ s.r1 (quotient_power laws y inputs.first s.r1 z')))
      (passes _ _ _ _ _ (simulated_accepted laws (folded_key G y z') _ s.challenge s.answer))
  honest_taken y inputs Swapped s first fits reaches =
      let k = honest_comparison G y inputs Swapped s in
      let p = honest_proofs G E S k Swapped s first in
      let z = equivalence_z G E S k first in
      let z' = disjunction_z G E S k first in
      let c' = disjunction_challenge G E S k (first_commitment G E S k Swapped s first) (second_commitment G E S k Swapped s first) first in
      let below = λ (n : ℕ). mod-lt n some in
      let split = xor_lt E.challenge_bits c' s.challenge (drawn_below _) fits.challenge_below in
      equations_left G E S k p first (fit E p (below _) (branch_fit E p.disjunction.first fits.challenge_below fits.answer_below) (branch_fit E p.disjunction.second split (below _))) reaches
      ∙ none_fails G k p (draws G E S k p first)
      (passes _ _ _ _ _ (true_accepted laws E same (folded_key G y z) _ s.equivalence _ (sum E s.r1 s.r2) (product_swapped laws y inputs.first inputs.second s.r1 s.r2 z ∙ sum_power laws E same (folded_key G y z) s.r1 s.r2)))
      (eq-eqb _ _ (xor_comm s.challenge (bit_xor c' s.challenge) ∙ xor_back c' s.challenge))
      (passes _ _ _ _ _ (simulated_accepted laws (folded_key G y z') _ s.challenge s.answer))
      (passes _ _ _ _ _ (true_accepted laws E same (folded_key G y z') _ s.disjunction _ s.r2 (quotient_power laws y inputs.first s.r2 z')))

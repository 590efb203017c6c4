-- Witnessed steps keep every plaintext as often as it was.
use Rattle.std.proofs.Common.{◌≡◌, ℕ, zero, suc, ◌+◌, ◌<◌, cond, List, [], ◌∷◌, length, get_or, set, sym, refl, ap, ◌∙◌, subst, ap₂, arith, length-set}
use Rattle.std.proofs.lemmas.List.{get_or-set_other}
use Rattle.board.specs.Calls.{Terms}
use Rattle.board.specs.Steps.{comparison_at}
use Rattle.drill.proofs.Soundness.{drilled_outputs}
use Rattle.drill.specs.Meaning.{Keeps}
use Rattle.elgamal.specs.Ciphertexts.{PrivateKey, plaintext}
use Rattle.elgamal.specs.declared.Ciphertext.{Ciphertext}
use Rattle.equivalence.specs.Equations.{same_point}
use Rattle.group.specs.Exponents.{ExponentLaws}
use Rattle.group.specs.Operations.{GroupLaws}
use Rattle.plan.specs.Plans.{Within}
use Rattle.plan.specs.declared.Comparator.{Comparator}
use Rattle.plan.specs.declared.Setting.{Setting}
use Rattle.plan.specs.declared.Setting.TheVariants.{Straight, Swapped}
use Rattle.posting.specs.declared.comparison.Comparison.{Comparison}
use Rattle.posting.specs.declared.comparison.Pair.{Pair}
use Rattle.prover.specs.declared.states.Message.{Message}
use Rattle.law.specs.Plaintexts.{plaintexts, often}
use Rattle.law.specs.Turns.{Ending, Turn, Account, put, written, turn_written, turns_written, present_list}
use Rattle.law.specs.Turns.Ending.{completed, expelled}
use Rattle.law.specs.Witnesses.{Witnessed, StepsWitnessed, TurnWitnessed, TurnsWitnessed, RoundWitnessed}
use Rattle.law.proofs.Accounts.{length_put, length_written}

module _ {P : Type 0} (T : Terms P) (x : ℕ) (m : P) where
  abbrev is_point : P → ℕ
  is_point p = cond (same_point T.group m p) 1 0

  -- 1 where m is the plaintext of a ciphertext
  abbrev is : Ciphertext P → ℕ
  is c = is_point (plaintext T.group x c)

  abbrev tally : List (Ciphertext P) → ℕ
  tally wires = often T.group m (plaintexts T.group x wires)

  tally_set : (wires : List (Ciphertext P)) (i : ℕ) (c d : Ciphertext P) → i < length wires → tally (set wires i c) + is (get_or wires i d) ≡ tally wires + is c
  tally_set [] i c d h = absurd (omega arith)
  tally_set (w ∷ wires) zero c d h = omega arith
  tally_set (w ∷ wires) (suc i) c d h = let e = tally_set wires i c d (omega arith) in omega arith

  tally_put : (c : Comparator) (o : Pair P) (wires : List (Ciphertext P)) (d e : Ciphertext P) → c.first < c.second → c.second < length wires
      → is o.first + is o.second ≡ is (get_or wires c.first d) + is (get_or wires c.second e)
      → tally (put c o wires) ≡ tally wires
  tally_put c o wires d e apart inside same =
      let one = tally_set wires c.first o.first d (omega arith) in
      let two = tally_set (set wires c.first o.first) c.second o.second e (simp length-set inside) in
      let other = ap is (get_or-set_other wires c.first c.second o.first e (omega arith)) in
      omega arith

  module _ (laws : GroupLaws T.group) (exponents : ExponentLaws T.exponents) (same : T.group.order ≡ T.exponents.order) (key : PrivateKey T.group T.key x) where
    -- in both orders the outputs carry the inputs' plaintexts
    pair_kept : (k : Comparison P) (s : Setting) (r1 r2 : ℕ) → PrivateKey T.group k.key x → Keeps T.group k s r1 r2
        → is k.outputs.first + is k.outputs.second ≡ is k.inputs.first + is k.inputs.second
    pair_kept k Straight r1 r2 p h = ap₂ (λ (u v : P). is_point u + is_point v) (h.0.keeps x p) (h.1.keeps x p)
    pair_kept k Swapped r1 r2 p h = ap₂ (λ (u v : P). is_point u + is_point v) (h.0.keeps x p) (h.1.keeps x p) ∙ omega arith

    witnessed_put : (c : Comparator) (o : Pair P) (wires : List (Ciphertext P)) → c.first < c.second → c.second < length wires
        → Witnessed T (comparison_at T.key wires c o) → tally (put c o wires) ≡ tally wires
    witnessed_put c o wires apart inside w =
        let k = comparison_at T.key wires c o in
        tally_put c o wires o.first o.second apart inside
        (pair_kept k w.found.setting w.found.r1 w.found.r2 key (drilled_outputs laws exponents same k w.equivalence w.disjunction w.found w.drilled))

    steps_keep : (n : ℕ) (ms : List (Message P ℕ)) (cs : List Comparator) (wires : List (Ciphertext P)) → Within n cs → length wires ≡ n
        → StepsWitnessed T ms cs wires → tally (written ms cs wires) ≡ tally wires
    steps_keep n [] cs wires within long w = refl
    steps_keep n (m ∷ ms) [] wires within long w = refl
    steps_keep n (m ∷ ms) (c ∷ cs) wires within long w =
        steps_keep n ms cs (put c m.outputs wires) within.2 (length_put c m.outputs wires ∙ long) w.1
        ∙ witnessed_put c m.outputs wires within.0 (subst (λ (i : ℕ). c.second < i) (sym long) within.1) w.0

    turn_length : (e : Ending) (ms : List (Message P ℕ)) (cs : List Comparator) (wires : List (Ciphertext P)) → length (turn_written e ms cs wires) ≡ length wires
    turn_length completed ms cs wires = length_written ms cs wires
    turn_length expelled ms cs wires = refl

    turns_length : (ts : List (Turn P)) (cs : List Comparator) (wires : List (Ciphertext P)) → length (turns_written ts cs wires) ≡ length wires
    turns_length [] cs wires = refl
    turns_length (t ∷ ts) cs wires = turns_length ts cs (turn_written t.ending t.steps cs wires) ∙ turn_length t.ending t.steps cs wires

    module _ (n : ℕ) (within : Within n T.comparators) where
      turn_keeps : (e : Ending) (ms : List (Message P ℕ)) (wires : List (Ciphertext P)) → length wires ≡ n → TurnWitnessed T e ms wires → tally (turn_written e ms T.comparators wires) ≡ tally wires
      turn_keeps completed ms wires long w = steps_keep n ms T.comparators wires within long w
      turn_keeps expelled ms wires long w = refl

      turns_keep : (ts : List (Turn P)) (wires : List (Ciphertext P)) → length wires ≡ n → TurnsWitnessed T ts wires → tally (turns_written ts T.comparators wires) ≡ tally wires
      turns_keep [] wires long w = refl
      turns_keep (t ∷ ts) wires long w =
          turns_keep ts (turn_written t.ending t.steps T.comparators wires) (turn_length t.ending t.steps T.comparators wires ∙ long) w.1
          ∙ turn_keeps t.ending t.steps wires long w.0

      pub round_keeps : (a : Account P) → length a.posted ≡ n → RoundWitnessed T a → tally (present_list T a) ≡ tally a.posted
      round_keeps a long w =
          let last = turns_written a.past T.comparators a.posted in
          steps_keep n a.present T.comparators last within (turns_length a.past T.comparators a.posted ∙ long) w.1
          ∙ turns_keep a.past a.posted long w.0

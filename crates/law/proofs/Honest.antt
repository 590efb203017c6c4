-- The honest round meets the law's premises: every call by computing, and its step by witnesses.
use Rattle.std.proofs.Common.{◌≡◌, ℕ, zero, suc, ◌<◌, [], ◌∷◌, Ok, refl, subst, arith}
use Rattle.board.specs.Rounds.{blank}
use Rattle.board.specs.Serving.{honest_steps, after_steps}
use Rattle.board.specs.States.{State, opened}
use Rattle.board.specs.Steps.{comparison_at}
use Rattle.board.specs.declared.events.Stage.TheVariants.{Gathering, Turning}
use Rattle.chain.specs.Rows.{chain_lawful}
use Rattle.chain.specs.Listing.{chain, chain_from}
use Rattle.elgamal.specs.declared.Ciphertext.{Ciphertext}
use Rattle.equivalence.specs.Equations.{same_bytes, folded_key, folded_quotient}
use Rattle.equivalence.specs.Judgement.{judge, judge_equations}
use Rattle.group.specs.Operations.{power, quotient}
use Rattle.modular.specs.Laws.{modular_laws}
use Rattle.modular.specs.ResidueLaws.{residue_laws}
use Rattle.modular.specs.Residues.{Residue}
use Rattle.plan.specs.Plans.{on, at, run, Permutation, Lawful}
use Rattle.plan.specs.declared.Setting.TheVariants.{Swapped}
use Rattle.posting.specs.declared.comparison.Comparison.{Comparison}
use Rattle.posting.specs.Posting.{codes}
use Rattle.witness.specs.Refusals.{stands, repeated, judgement, equivalence_refusal, disjunctive_refusal, first_refusal}
use Rattle.witness.specs.Samples.{gamma, chosen}
use Rattle.witness.specs.Witnesses.{EquivalenceWitness, DisjunctiveWitness}
use Rattle.law.specs.Histories.{Run}
use Rattle.law.specs.HonestRound.{group1, element, ciphertext, one_comparator, round, message, by_step, by_serve, final, HonestRound}
use Rattle.law.specs.Witnesses.{Witnessed}

-- after the first post, after the second, and after close
after_one : State (Ciphertext (Residue 23 11))
after_one = record {
  wires = ciphertext 18 9 tt tt ∷ blank group1 ∷ [];
  start = blank group1 ∷ blank group1 ∷ [];
  servers = 1;
  stage = Gathering;
  posted = 1;
  completed = 0;
  server = 0;
  next = 0;
}

after_two : State (Ciphertext (Residue 23 11))
after_two = record {
  wires = ciphertext 18 9 tt tt ∷ ciphertext 1 2 tt tt ∷ [];
  start = blank group1 ∷ blank group1 ∷ [];
  servers = 1;
  stage = Gathering;
  posted = 2;
  completed = 0;
  server = 0;
  next = 0;
}

after_close : State (Ciphertext (Residue 23 11))
after_close = record {
  wires = ciphertext 18 9 tt tt ∷ ciphertext 1 2 tt tt ∷ [];
  start = ciphertext 18 9 tt tt ∷ ciphertext 1 2 tt tt ∷ [];
  servers = 1;
  stage = Turning;
  posted = 2;
  completed = 0;
  server = 1;
  next = 0;
}

stepped : Run round 2 (opened 2 1 (blank group1)) by_step final
unfolding after_one after_two after_close power same_bytes judge judge_equations codes
stepped = (after_close, (after_two, (after_one, (opened 2 1 (blank group1), refl, (refl, refl)), (refl, refl)), (refl, refl)), ((on 0 1, refl, refl), refl))

exchange : Permutation 2 (1 ∷ 0 ∷ [])
exchange = record { long = refl; below = below; distinct = distinct }
  where
    below : (x : ℕ) → x < 2 → at (1 ∷ 0 ∷ []) x < 2
    below zero h = omega arith
    below (suc zero) h = omega arith
    below (suc (suc x)) h = absurd (omega arith)

    distinct : (x y : ℕ) → x < 2 → y < 2 → at (1 ∷ 0 ∷ []) x ≡ at (1 ∷ 0 ∷ []) y → x ≡ y
    distinct zero zero h k e = refl
    distinct zero (suc zero) h k e = absurd (omega arith)
    distinct zero (suc (suc y)) h k e = absurd (omega arith)
    distinct (suc zero) zero h k e = absurd (omega arith)
    distinct (suc zero) (suc zero) h k e = refl
    distinct (suc zero) (suc (suc y)) h k e = absurd (omega arith)
    distinct (suc (suc x)) y h k e = absurd (omega arith)

served : Run round 2 (opened 2 1 (blank group1)) by_serve final
unfolding after_one after_two after_close power same_bytes codes honest_steps after_steps run
served = (
  after_close,
  (after_two, (after_one, (opened 2 1 (blank group1), refl, (refl, refl)), (refl, refl)), (refl, refl)),
  (refl, refl, exchange, refl, refl, (Swapped ∷ [], record { count = refl; brought = refl }, refl), refl),
)

-- what the step was on
abbrev compared : Comparison (Residue 23 11)
compared = comparison_at (element 8 tt) (ciphertext 18 9 tt tt ∷ ciphertext 1 2 tt tt ∷ []) (on 0 1) message.outputs

-- Honest answers at any z: to the equivalence proof by 3, and to the swapped branch by 7, each with the exponents of the re-encryption; the straight branch is made from its answer.
equivalence_at : ℕ → EquivalenceWitness (Residue 23 11)
equivalence_at z = record {
  z = z;
  answered = record { commitment = power group1 (folded_key group1 (element 8 tt) z) 3; first = record { challenge = 1; exponent = 9 }; second = record { challenge = 2; exponent = 4 } };
}

disjunction_at : ℕ → DisjunctiveWitness (Residue 23 11)
disjunction_at z = record {
  z = z;
  answered = record {
    challenges = record { first = 6; second = 5 };
    straight = record {
      commitment = quotient group1 (power group1 (folded_key group1 (element 8 tt) z) 2) (power group1 (folded_quotient group1 compared.inputs.first compared.outputs.first z) 3);
      first = record { challenge = 3; exponent = 2 };
      second = record { challenge = 3; exponent = 2 };
    };
    swapped = record { commitment = power group1 (folded_key group1 (element 8 tt) z) 7; first = record { challenge = 5; exponent = 5 }; second = record { challenge = 6; exponent = 9 } };
  };
}

step_witnessed : Witnessed round compared
unfolding equivalence_at disjunction_at power same_bytes stands repeated judgement equivalence_refusal disjunctive_refusal first_refusal gamma chosen
step_witnessed = record {
  equivalence = equivalence_at 0 ∷ equivalence_at 1 ∷ equivalence_at 2 ∷ [];
  disjunction = disjunction_at 0 ∷ disjunction_at 1 ∷ disjunction_at 2 ∷ disjunction_at 3 ∷ disjunction_at 4 ∷ [];
  found = record { setting = Swapped; r1 = 2; r2 = 4 };
  drilled = (
    refl,
    record { product = Ok 6; branch = Ok 4; product_shows = ((refl, refl), refl); branch_shows = ((refl, refl), refl); joined = refl },
  );
}

chain_of_two : chain 2 ≡ one_comparator
unfolding chain_from
chain_of_two = refl

pub honest_round : HonestRound
unfolding power
honest_round = record {
  group_lawful = residue_laws 23 11 2 tt;
  exponents_lawful = modular_laws 11 3 tt;
  plan_lawful = subst (Lawful 2) chain_of_two (chain_lawful 2 (omega arith));
  private_key = refl;
  stepped = stepped;
  served = served;
  same_calls = refl;
  witnessed = (((step_witnessed, tt), tt), tt);
  posted = refl;
  left = refl;
}

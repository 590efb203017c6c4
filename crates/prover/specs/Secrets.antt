-- The secret words of a comparator.
use Rattle.std.specs.Prelude.{ℕ, List, slice_index}
use Rattle.group.specs.Exponents.{Exponents, remainder, lowest_bits}
use Rattle.prover.specs.declared.secrets.Secrets.{Secrets}

-- secrets of exponents, as numbers
abbrev pub secrets_meaning : {X : Type 0} → (X → ℕ) → Secrets X → Secrets ℕ
secrets_meaning value s = record {
  r1 = value s.r1;
  r2 = value s.r2;
  equivalence = value s.equivalence;
  disjunction = value s.disjunction;
  answer = value s.answer;
  challenge = s.challenge;
}

-- what six words are, in their order
abbrev pub secrets_of : Exponents → List ℕ → Secrets ℕ
secrets_of E words = record {
  r1 = remainder E (slice_index words 0);
  r2 = remainder E (slice_index words 1);
  equivalence = remainder E (slice_index words 2);
  disjunction = remainder E (slice_index words 3);
  answer = remainder E (slice_index words 4);
  challenge = lowest_bits E (slice_index words 5);
}

-- What the maker of a task knows, and the exponents by which it answers.
use Rattle.std.specs.Prelude.{ℕ, ◌+◌, ◌%◌, ◌^◌, true, false, ◌==◌}
use Rattle.group.specs.Exponents.{Exponents, remainder, sum, product}
use Rattle.drillserver.specs.declared.task.Fault.{Fault}
use Rattle.drillserver.specs.declared.task.Fault.TheVariants.{Nothing, EqualDraws, EqualChallenges, WrongAnswer, UnfitNumber}
use Rattle.drillserver.specs.declared.knowledge.Known.{Known}
use Rattle.drillserver.specs.declared.task.Outputs.{Outputs}
use Rattle.drillserver.specs.declared.task.Outputs.TheVariants.{Straight, Swapped, Forged}
use Rattle.drillserver.specs.declared.knowledge.Secrets.{Secrets}
use Rattle.drillserver.specs.declared.task.Task.{Task}

-- the 64-bit word that comes j after the seed
abbrev pub word : (seed j : ℕ) → ℕ
word seed j = (seed + j) % 2 ^ 64

abbrev pub secrets_meaning : {X : Type 0} → (X → ℕ) → Secrets X → Secrets ℕ
secrets_meaning value s = record { private = value s.private; r1 = value s.r1; r2 = value s.r2 }

abbrev pub known_meaning : {X : Type 0} → (X → ℕ) → Known X → Known ℕ
known_meaning value k = record { a = value k.a; b = value k.b }

module _ (E : Exponents) where
  -- the numbers of a task, as exponents
  abbrev pub secrets_of : Task → Secrets ℕ
  secrets_of t = record { private = remainder E t.private; r1 = remainder E t.r1; r2 = remainder E t.r2 }

  -- A ciphertext (α', β') over (α, β) is known by a and b: α'/α = g^a and β'/β = g^b. Re-encrypted by r under
  -- the key g^x, the parts are multiplied by g^(x·r) and g^r.
  abbrev pub reencryption_known : (x r : ℕ) → Known ℕ
  reencryption_known x r = record { a = product E x r; b = r }

  -- the product of the outputs over that of the inputs
  abbrev pub product_known : Outputs → Secrets ℕ → Known ℕ
  product_known Straight s = reencryption_known s.private (sum E s.r1 s.r2)
  product_known Swapped s = reencryption_known s.private (sum E s.r1 s.r2)
  product_known Forged s = record { a = s.r1; b = s.r2 }

  -- the output made from the first input, over it
  abbrev pub branch_known : Outputs → Secrets ℕ → Known ℕ
  branch_known Straight s = reencryption_known s.private s.r1
  branch_known Swapped s = reencryption_known s.private s.r2
  branch_known Forged s = record { a = s.r1; b = s.r2 }

  -- The exponent that answers at z: the folded quotient is the folded key to the power (a·z + b) / (x·z + 1).
  -- Where x·z + 1 is 0 the folded key is the one, and b is taken.
  unfoldable pub answering : (x : ℕ) → Known ℕ → (z : ℕ) → ℕ
  answering x k z =
      elim (sum E (product E x z) (remainder E 1) == remainder E 0)
      [ true ↦ k.b | false ↦ product E (sum E (product E k.a z) k.b) (E.inverse (sum E (product E x z) (remainder E 1))) ]

  -- the exponent that disjunctive answers are made from: one too many, where the fault is that
  abbrev pub claimed_exponent : Fault → ℕ → ℕ
  claimed_exponent WrongAnswer γ = sum E γ (remainder E 1)
  claimed_exponent Nothing γ = γ
  claimed_exponent EqualDraws γ = γ
  claimed_exponent EqualChallenges γ = γ
  claimed_exponent UnfitNumber γ = γ

  -- the exponent that a task's maker answers by at z, for the product and for the branch that it proves
  abbrev pub product_answering : Task → ℕ → ℕ
  product_answering t z = answering (secrets_of t).private (product_known t.kind.outputs (secrets_of t)) z

  abbrev pub branch_answering : Task → ℕ → ℕ
  branch_answering t z = claimed_exponent t.kind.fault (answering (secrets_of t).private (branch_known t.kind.outputs (secrets_of t)) z)

-- Worked examples in group 1: the residues modulo 23 of order 11 from 2, with challenges of 3 bits.
use Rattle.std.proofs.Common.{◌≡◌, ℕ, T, refl, subst, arith}
use Rattle.group.specs.Exponents.{Exponents}
use Rattle.group.specs.Operations.{Operations, power}
use Rattle.modular.specs.Laws.{modular_laws}
use Rattle.modular.specs.Modular.{modular}
use Rattle.modular.specs.ResidueLaws.{residue_laws}
use Rattle.modular.specs.Residues.{Residue, member, residues}
use Rattle.witness.specs.Samples.{gamma}
use Rattle.witness.specs.declared.samples.Samples.{Samples}
use Rattle.drill.specs.Formula.{second, formula}
use Rattle.drill.specs.Rule.{TheKey}
use Rattle.drill.proofs.Lines.{key_holds}

abbrev pub group1 : Operations (Residue 23 11)
group1 = residues 23 11 2 tt

abbrev pub exponents1 : Exponents
exponents1 = modular 11 3

abbrev element : (n : ℕ) → T (member 23 11 n) → Residue 23 11
element n t = (n, t)

-- the exponents 1, 3 and 8 at the draws 0, 1 and 2
abbrev pub samples : Samples ℕ
samples = record { first = record { z = 0; gamma = 1 }; second = record { z = 1; gamma = 3 }; third = record { z = 2; gamma = 8 } }

pub formula_is : formula exponents1 samples ≡ 3
unfolding formula second
formula_is = refl

-- With the key 8 and the quotients 1 and 2, these samples show the private key 3, and no other.
pub key_is : TheKey exponents1 samples 3
unfolding power
key_is =
    subst (TheKey exponents1 samples) formula_is
    (key_holds (residue_laws 23 11 2 tt) (modular_laws 11 3 tt) refl samples
    (record {
      z1_below = omega arith;
      z2_below = omega arith;
      z3_below = omega arith;
      c1_below = omega arith;
      c2_below = omega arith;
      c3_below = omega arith;
      apart12 = λ e. omega arith;
      apart13 = λ e. omega arith;
      apart23 = λ e. omega arith;
    })
    (element 8 tt) (element 1 tt) (element 2 tt) refl refl refl (λ e. let n = e.0 in omega arith))

-- The answers 4 to the challenge 5 and 10 to the challenge 1 give the exponent 4.
pub gamma_is : gamma exponents1 (record { challenge = 5; exponent = 4 }) (record { challenge = 1; exponent = 10 }) ≡ 4
unfolding gamma
gamma_is = refl

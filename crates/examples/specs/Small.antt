-- The two small groups, and how examples name their elements: by numbers.
use Rattle.std.specs.Prelude.{ℕ, T}
use Rattle.elgamal.specs.declared.Ciphertext.{Ciphertext}
use Rattle.group.specs.Operations.{Operations}
use Rattle.modular.specs.Residues.{Residue, member, residues}
use Rattle.polynomial.specs.Polynomials.{Nonzero, nonzero, polynomials}

-- group 1: the residues modulo 23 of order 11, from 2
abbrev pub group1 : Operations (Residue 23 11)
group1 = residues 23 11 2 tt

-- group 2: the polynomials over bits modulo t^13 + t^4 + t^3 + t + 1, from t
abbrev pub group2 : Operations Nonzero
group2 = polynomials

-- the element of group 1 that a number is
abbrev pub element : (n : ℕ) → T (member 23 11 n) → Residue 23 11
element n t = (n, t)

-- the element of group 2 that a number is
abbrev pub polynomial : (n : ℕ) → T (nonzero n) → Nonzero
polynomial n t = (n, t)

-- the two numbers of a ciphertext of group 1
abbrev pub numbers : Ciphertext (Residue 23 11) → ℕ × ℕ
numbers c = (c.alpha.0, c.beta.0)

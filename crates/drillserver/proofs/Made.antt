-- The definitions of what is made, case by case.
use Rattle.std.proofs.Common.{◌≡◌, ℕ, true, false, eqb, ap}
use Rattle.group.specs.Exponents.{Exponents, remainder, sum, product}
use Rattle.drillserver.specs.Knowledge.{answering}
use Rattle.drillserver.specs.declared.knowledge.Known.{Known}

module _ (E : Exponents) (x : ℕ) (k : Known ℕ) (z : ℕ) where
  abbrev below : ℕ
  below = sum E (product E x z) (remainder E 1)

  abbrev divided : ℕ
  divided = product E (sum E (product E k.a z) k.b) (E.inverse below)

  -- where the folded key is the one, the maker answers by b
  pub answering_by_b : eqb below (remainder E 0) ≡ true → answering E x k z ≡ k.b
  unfolding answering
  answering_by_b e = ap (λ t. elim t [ true ↦ k.b | false ↦ divided ]) e

  -- and elsewhere by the quotient
  pub answering_quotient : eqb below (remainder E 0) ≡ false → answering E x k z ≡ divided
  unfolding answering
  answering_quotient e = ap (λ t. elim t [ true ↦ k.b | false ↦ divided ]) e

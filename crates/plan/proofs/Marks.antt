-- The loop that reads a permutation and writes its inverse.
use Rattle.std.proofs.Common.{◌≡◌, ℕ, ◌<◌, List, length, replicate, sym, ap, ◌∙◌, arith}
use Rattle.std.proofs.lemmas.List.{get_or-replicate, length-replicate}
use Rattle.plan.specs.Plans.{at, Permutation, Inverse}
use Rattle.plan.proofs.Onto.{inverse_from}

-- the first x entries of p are below n and stand in the table q, and what else stands there is 64
pub record Marked (x n : ℕ) (p q : List ℕ) : Type 0 where
  pub long : length q ≡ 64
  pub below : (k : ℕ) → k < x → at p k < n
  pub told : (k : ℕ) → k < x → at q (at p k) ≡ k
  pub only : (y : ℕ) → y < 64 → (at q y ≡ 64 → ⊥) → (at q y < x) × (at p (at q y) ≡ y)

pub marked_none : (n : ℕ) (p : List ℕ) → Marked 0 n p (replicate 64 64)
marked_none n p =
    record {
      long = length-replicate {A = ℕ} 64 64;
      below = λ k h. absurd (omega arith);
      told = λ k h. absurd (omega arith);
      only = λ y h e. absurd (e (get_or-replicate 64 y 64 0 h));
    }

pub marked_permutation : (n : ℕ) (p q : List ℕ) → length p ≡ n → Marked n n p q → Permutation n p
marked_permutation n p q l m =
    record {
      long = l;
      below = m.below;
      distinct = λ x y h k e. sym (m.told x h) ∙ ap (at q) e ∙ m.told y k;
    }

pub marked_inverse : (n : ℕ) (p q : List ℕ) → length p ≡ n → Marked n n p q → Inverse n (at p) (at q)
marked_inverse n p q l m = inverse_from n p (at q) (marked_permutation n p q l m) m.told

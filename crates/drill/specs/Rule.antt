-- The rule of the drill.
use Rattle.std.specs.Prelude.{◌≡◌, ℕ, ◌+◌, ◌*◌, ◌%◌, ◌<◌, List, Some, None, Ok, Err, Result}
use Rattle.group.specs.Exponents.{Exponents}
use Rattle.group.specs.Operations.{Operations}
use Rattle.posting.specs.declared.comparison.Comparison.{Comparison}
use Rattle.refusal.specs.declared.Refusal.{Refusal}
use Rattle.witness.specs.Refusals.{first_refusal}
use Rattle.witness.specs.Samples.{examination}
use Rattle.witness.specs.Witnesses.{EquivalenceWitness, DisjunctiveWitness}
use Rattle.witness.specs.declared.samples.Examination.{Examination}
use Rattle.witness.specs.declared.samples.Sample.{Sample}
use Rattle.witness.specs.declared.samples.Samples.{Samples}
use Rattle.drill.specs.Findings.{answer}
use Rattle.drill.specs.declared.finding.KeyFound.{KeyFound}
use Rattle.drill.specs.declared.finding.Finding.{Finding}

-- the three exponents are one
abbrev pub AllEqual : Samples ℕ → Type 0
AllEqual s = (s.first.gamma ≡ s.second.gamma) × (s.second.gamma ≡ s.third.gamma)

module _ (E : Exponents) where
  -- (x·z + 1)·γ = a·z + b modulo the order
  abbrev pub OnLine : (x a b : ℕ) → Sample ℕ → Type 0
  OnLine x a b s = ((x * s.z + 1) * s.gamma) % E.order ≡ (a * s.z + b) % E.order

  -- some a and b fit x at all three samples
  pub record Fits (s : Samples ℕ) (x : ℕ) : Type 0 where
    pub a : ℕ
    pub b : ℕ
    pub first : OnLine x a b s.first
    pub second : OnLine x a b s.second
    pub third : OnLine x a b s.third

  -- x is the key: below the order it fits, and nothing else does
  pub record TheKey (s : Samples ℕ) (x : ℕ) : Type 0 where
    pub below : x < E.order
    pub fits : Fits s x
    pub only : (other : ℕ) → other < E.order → Fits s other → other ≡ x

  -- what three samples show
  abbrev pub Concluded : Samples ℕ → Result ℕ (KeyFound ℕ) → Type 0
  Concluded s (Ok γ) = AllEqual s × (γ ≡ s.first.gamma)
  Concluded s (Err found) = (AllEqual s → ⊥) × TheKey s found.key

  -- what is found: from the samples of the equivalence proof, and those of a branch of the disjunctive one
  pub record Found (e : Examination ℕ) (f : Finding ℕ) : Type 0 where
    pub product : Result ℕ (KeyFound ℕ)
    pub branch : Result ℕ (KeyFound ℕ)
    pub product_shows : Concluded e.product product
    pub branch_shows : Concluded e.branch.samples branch
    pub joined : f ≡ answer E product e.branch.setting branch

-- The drill answers the first refusal, or where there is none what is found.
abbrev pub Drilled : {Point : Type 0} → Operations Point → Exponents → Comparison Point
    → List (EquivalenceWitness Point) → List (DisjunctiveWitness Point) → Result (Finding ℕ) Refusal → Type 0
Drilled G E k W V (Ok f) = (first_refusal G E k W V ≡ None) × Found E (examination E W V) f
Drilled G E k W V (Err f) = first_refusal G E k W V ≡ Some f

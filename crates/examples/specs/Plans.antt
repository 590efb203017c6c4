-- Routes: what settings bring about, on a chain of three wires and on a butterfly of four.
use Rattle.std.specs.Prelude.{[], ◌∷◌}
use Rattle.butterfly.specs.Listing.{butterfly}
use Rattle.chain.specs.Listing.{chain}
use Rattle.plan.specs.Plans.{Brings}
use Rattle.plan.specs.declared.Setting.TheVariants.{Straight, Swapped}

pub record PlanExamples : Type 0 where
  pub chain_of_3 : Brings 3 (chain 3) (Straight ∷ Swapped ∷ Swapped ∷ []) (2 ∷ 0 ∷ 1 ∷ [])
  pub butterfly_of_4 : Brings 4 (butterfly 2) (Swapped ∷ Swapped ∷ Swapped ∷ Swapped ∷ Straight ∷ []) (3 ∷ 2 ∷ 1 ∷ 0 ∷ [])

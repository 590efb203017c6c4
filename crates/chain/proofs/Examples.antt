-- On a chain of three wires the settings 0 1 1 bring 2 0 1 about.
use Rattle.std.proofs.Common.{[], ◌∷◌, refl}
use Rattle.plan.specs.declared.Setting.TheVariants.{Straight, Swapped}
use Rattle.plan.specs.Plans.{run, Brings}
use Rattle.chain.specs.Listing.{chain_from, chain}

pub chain_of_three : Brings 3 (chain 3) (Straight ∷ Swapped ∷ Swapped ∷ []) (2 ∷ 0 ∷ 1 ∷ [])
unfolding run chain_from
chain_of_three = record { count = refl; brought = refl }

-- On a butterfly of four wires the settings 1 1 1 1 0 bring 3 2 1 0 about.
use Rattle.std.proofs.Common.{[], ◌∷◌, refl}
use Rattle.plan.specs.declared.Setting.TheVariants.{Straight, Swapped}
use Rattle.plan.specs.Plans.{run, Brings}
use Rattle.butterfly.specs.Listing.{pairs, evens, odds, butterfly_over, butterfly}

pub butterfly_of_four : Brings 4 (butterfly 2) (Swapped ∷ Swapped ∷ Swapped ∷ Swapped ∷ Straight ∷ []) (3 ∷ 2 ∷ 1 ∷ 0 ∷ [])
unfolding run pairs evens odds butterfly_over
butterfly_of_four = record { count = refl; brought = refl }

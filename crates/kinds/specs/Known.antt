-- A plan of any kind: its width and its comparators.
use Rattle.std.specs.Prelude.{◌≡◌, ℕ, ◌^◌, List}
use Rattle.butterfly.specs.Listing.{butterfly}
use Rattle.butterfly.specs.Placing.{butterfly_lawful}
use Rattle.chain.specs.Listing.{chain}
use Rattle.chain.specs.Rows.{chain_lawful}
use Rattle.plan.specs.Plans.{Lawful}
use Rattle.plan.specs.declared.Comparator.{Comparator}
use Rattle.kinds.specs.Kinds.{LaidOut}
use Rattle.kinds.specs.declared.PlanKind.{PlanKind}
use Rattle.kinds.specs.declared.PlanKind.TheVariants as Kind
use Rattle.kinds.specs.declared.known.KnownPlan.{KnownPlan}
use Rattle.kinds.specs.declared.known.KnownPlan.TheVariants.{Chain, Butterfly}

abbrev pub kind_of : KnownPlan → PlanKind
kind_of (Chain c) = Kind.Chain
kind_of (Butterfly b) = Kind.Butterfly

abbrev pub width_of : KnownPlan → ℕ
width_of (Chain c) = c.width
width_of (Butterfly b) = 2 ^ b.levels.count

abbrev pub listing_of : KnownPlan → List Comparator
listing_of (Chain c) = chain c.width
listing_of (Butterfly b) = butterfly b.levels.count

pub known_lawful : (p : KnownPlan) → Lawful (width_of p) (listing_of p)
known_lawful (Chain c) = chain_lawful c.width c.fits
known_lawful (Butterfly b) = butterfly_lawful b.levels.count b.some b.levels.few

-- the plan is of this kind, over n wires, and lists what the kind does
pub record IsOfKind (k : PlanKind) (n : ℕ) (p : KnownPlan) : Type 0 where
  pub kind : kind_of p ≡ k
  pub width : width_of p ≡ n
  pub laid : LaidOut k n (listing_of p)

-- The chain: every two wires meet once, by rising first wire and then by rising second wire.
-- `range_with_len a n` is the list of the n numbers from a on.
use Rattle.std.specs.Prelude.{◌≡◌, ℕ, zero, suc, ◌+◌, ◌≤◌, List, [], ◌++◌, map}
use Rattle.std.specs.List.{range_with_len}
use Rattle.refusal.specs.declared.Refusal.{Refusal}
use Rattle.refusal.specs.declared.Reason.TheVariants.{UnfitWires}
use Rattle.refusal.specs.Table.{refused_at}
use Rattle.plan.specs.declared.Comparator.{Comparator}
use Rattle.plan.specs.Plans.{on}

-- the chain over the m wires from wire j on
unfoldable pub chain_from : ℕ → ℕ → List Comparator
chain_from j zero = []
chain_from j (suc m) = map (on j) (range_with_len (j + 1) m) ++ chain_from (j + 1) m

-- the chain over n wires
abbrev pub chain : ℕ → List Comparator
chain n = chain_from 0 n

-- the widths that a chain can have
abbrev pub Fits : ℕ → Type 0
Fits n = (2 ≤ n) × (n ≤ 64)

-- why a width is refused
abbrev pub Unfit : ℕ → Refusal → Type 0
Unfit n e = (Fits n → ⊥) × (e ≡ refused_at UnfitWires 0)

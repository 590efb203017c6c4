-- The groups and plans that a number names, and which comparators the plan of a kind lists.
use Rattle.std.specs.Prelude.{◌≡◌, ℕ, ◌^◌, ◌≤◌, cond, List, Some, None, Option, Result, ◌==◌, MatchResult}
use Rattle.butterfly.specs.Listing.{butterfly}
use Rattle.chain.specs.Listing.{chain, Fits}
use Rattle.plan.specs.declared.Comparator.{Comparator}
use Rattle.refusal.specs.Table.{refused_at}
use Rattle.refusal.specs.declared.Reason.{Reason}
use Rattle.refusal.specs.declared.Reason.TheVariants.{UnknownGroupOrPlan, UnfitWires}
use Rattle.refusal.specs.declared.Refusal.{Refusal}
use Rattle.kinds.specs.declared.GroupKind.{GroupKind}
use Rattle.kinds.specs.declared.GroupKind.TheVariants.{ResiduesModulo23, BinaryPolynomials}
use Rattle.kinds.specs.declared.PlanKind.{PlanKind}
use Rattle.kinds.specs.declared.PlanKind.TheVariants.{Chain, Butterfly}

-- the groups and plans that an opening can name
abbrev pub group_kind : ℕ → Option GroupKind
group_kind n = cond (n == 1) (Some ResiduesModulo23) (cond (n == 2) (Some BinaryPolynomials) None)

abbrev pub plan_kind : ℕ → Option PlanKind
plan_kind n = cond (n == 1) (Some Chain) (cond (n == 2) (Some Butterfly) None)

-- the answer is the kind that the number names, or that the number is unknown
abbrev pub IsNamedGroup : ℕ → Result GroupKind Reason → Type 0
IsNamedGroup n r = MatchResult r (λ kind. group_kind n ≡ Some kind) (λ e. (group_kind n ≡ None) × (e ≡ UnknownGroupOrPlan))

abbrev pub IsNamedPlan : ℕ → Result PlanKind Reason → Type 0
IsNamedPlan n r = MatchResult r (λ kind. plan_kind n ≡ Some kind) (λ e. (plan_kind n ≡ None) × (e ≡ UnknownGroupOrPlan))

-- the plan of a kind over n wires lists these comparators
abbrev pub LaidOut : PlanKind → ℕ → List Comparator → Type 0
LaidOut Chain n cs = Fits n × (cs ≡ chain n)
LaidOut Butterfly n cs = (k : ℕ) × (1 ≤ k) × (k ≤ 6) × (2 ^ k ≡ n) × (cs ≡ butterfly k)

-- why a width is refused: no plan of the kind has it
abbrev pub Unlaid : PlanKind → ℕ → Refusal → Type 0
Unlaid kind n e = ((cs : List Comparator) → LaidOut kind n cs → ⊥) × (e ≡ refused_at UnfitWires 0)

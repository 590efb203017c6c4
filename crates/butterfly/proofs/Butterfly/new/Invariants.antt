use Rattle.std.proofs.Common.{◌≡◌, ℕ, ◌^◌, ◌<◌, ◌≤◌}
use Rattle.butterfly.proofs.Butterfly.new.Given as goal

abbrev pub invariant-loop-count : goal.invariant-loop-count
invariant-loop-count l = (k : ℕ) → 1 ≤ k → k < l.count → 2 ^ k ≡ l.wires → ⊥

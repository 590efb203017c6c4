use Rattle.std.proofs.Common.{◌≡◌, ℕ, ◌+◌, ◌*◌, ◌^◌, length, sym, ◌∙◌, subst}
use Rattle.butterfly.specs.Listing.{butterfly}
use Rattle.butterfly.specs.Placing.{butterfly_count}
use Rattle.butterfly.proofs.Butterfly.new.Goals as goal

pub returns-then-wires : goal.returns-then-wires
returns-then-wires c =
    let e : 2 ^ c.loop-count.count ≡ c.args.wires = sym c.wires.ensures.value ∙ c.if-wires.true in
    (e, subst (λ (n : ℕ). length (butterfly c.loop-count.count) + n ≡ c.loop-count.count * n + 1) e (butterfly_count c.loop-count.count))

use Rattle.std.proofs.Common.{◌≡◌, ℕ, ◌*◌, ◌/◌, ◌%◌, ◌^◌, ◌<◌, sym, ◌∙◌, subst, mod-lt, arith}
use Rattle.modular.specs.Squaring.{even_turn, odd_turn, no_turn}
use Rattle.modular.proofs.arithmetic.power_modulo.Goals as goal
use Rattle.modular.proofs.arithmetic.power_modulo.Goals.{then-left-eq1, else-left-eq1}

pub loop-left-preserved : goal.loop-left-preserved
loop-left-preserved c =
    let m = c.args.m in
    let s = c.loop-left.square in
    let d = c.loop-left.done in
    let n = c.loop-left.left in
    let t = (c.args.a ^ c.args.e) % m in
    let big = c.requires.large in
    let low : (s * s) % m < m = mod-lt (s * s) (omega arith) in
    let P : ℕ → ℕ → Type 0 = λ x y. (x < m) × (y < m) × ((x * y ^ (n / 2)) % m ≡ t) in
    let Q : ℕ → Type 0 = λ y. P c.if-left-eq1.done y in
    subst Q (sym c.multiply_modulo-square.ensures) (elim c.if-left-eq1.branch [
      | then-left-eq1 w ↦ subst (λ (x : ℕ). P x ((s * s) % m)) (sym (w.done-is ∙ w.multiply_modulo-done.ensures)) (mod-lt (d * s) (omega arith), low, odd_turn d s t n m w.if-left-eq1.true c.loop-left.invariant.2)
      | else-left-eq1 w ↦ subst (λ (x : ℕ). P x ((s * s) % m)) (sym w.done-is) (c.loop-left.invariant.0, low, even_turn d s t n m w.if-left-eq1.false c.loop-left.invariant.2)
    ])

pub returns : goal.returns
returns c = no_turn c.loop-left.done c.loop-left.square _ c.loop-left.left c.args.m (omega arith) c.loop-left.invariant.0 c.loop-left.invariant.2

use Rattle.std.proofs.Common.{◌≡◌, ℕ, suc, ◌+◌, ◌-◌, ◌*◌, ◌/◌, ◌%◌, ◌<◌, ◌≤◌, sym, ap, ◌∙◌, subst, arith}
use lib.Bits.{bit_xor, xor_assoc, xor_zero_r}
use Rattle.polynomial.specs.Linear.{product_xor}
use Rattle.polynomial.specs.Product.{times_t, product}
use Rattle.polynomial.specs.Tables.{times_t_below}
use Rattle.polynomial.proofs.multiply.Goals as goal

-- one turn: a bit of b is done, and one less is left
turn : (s x y t i : ℕ) → i < 13 → bit_xor s (product (13 - i) x y) ≡ t
    → bit_xor (bit_xor s (x * (y % 2))) (product (13 - (i + 1)) (times_t x) (y / 2)) ≡ t
unfolding product
turn s x y t i h was =
    let e : suc (13 - (i + 1)) ≡ 13 - i = omega arith in
    xor_assoc s (x * (y % 2)) (product (13 - (i + 1)) (times_t x) (y / 2)) ∙ ap (λ (n : ℕ). bit_xor s (product n x y)) e ∙ was

none_left : (s x y t i : ℕ) → 13 ≤ i → bit_xor s (product (13 - i) x y) ≡ t → s ≡ t
unfolding product
none_left s x y t i h was =
    let e : 0 ≡ 13 - i = omega arith in
    sym (xor_zero_r s) ∙ ap (λ (n : ℕ). bit_xor s (product n x y)) e ∙ was

pub loop-turn-preserved : goal.loop-turn-preserved
loop-turn-preserved c =
    let x = c.loop-turn.shifted in
    let y = c.loop-turn.bits in
    let s = c.loop-turn.sum in
    let i = c.loop-turn.turn in
    let t = product 13 c.args.a c.args.b in
    let P : ℕ → Type 0 = λ v. (v < 8192) × (bit_xor (bit_xor s (x * (y % 2))) (product (13 - (i + 1)) v (y / 2)) ≡ t) in
    subst P (sym c.multiply_by_t-shifted.ensures) (times_t_below x c.loop-turn.invariant.0, turn s x y t i (omega arith) c.loop-turn.invariant.1)

pub returns : goal.returns
returns c =
    let is : c.loop-turn.sum ≡ product 13 c.args.a c.args.b =
    none_left c.loop-turn.sum c.loop-turn.shifted c.loop-turn.bits _ c.loop-turn.turn (omega arith) c.loop-turn.invariant.1
    in
    record {
      is = is;
      linear = λ d h. product_xor 13 c.args.a d c.args.b c.requires h ∙ ap (λ (x : ℕ). bit_xor x (product 13 d c.args.b)) (sym is);
    }

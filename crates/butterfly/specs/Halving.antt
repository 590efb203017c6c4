-- A permutation on each half of the wires, once each item has its half.
use Rattle.std.specs.Prelude.{◌≡◌, ℕ, ◌+◌, ◌*◌, ◌/◌, ◌<◌, ◌≤◌, ◌≢◌}
use Rattle.std.proofs.Common.{sym, ◌∙◌, ap, arith}
use Rattle.std.proofs.lemmas.Bool.{cases_eq}
use Rattle.std.proofs.lemmas.Bool.Decides.{nat_tests}
use Rattle.plan.specs.Plans.{Inverse}
use Rattle.butterfly.specs.Halves.{Halved, member, half_of}
use Rattle.butterfly.specs.Colours.{Matching, Coloured, neighbour, partner}

neighbour_below : (m y : ℕ) → y < 2 * m → neighbour y < 2 * m
neighbour_below m y h = omega arith

neighbour_twice : (y : ℕ) → neighbour (neighbour y) ≡ y
neighbour_twice y = omega arith

neighbour_apart : (y : ℕ) → neighbour y ≢ y
neighbour_apart y e = omega arith

pub partner_is : (m : ℕ) (p q : ℕ → ℕ) → Inverse (2 * m) p q → Matching m (partner p q)
partner_is m p q v =
    record {
      within = λ x h. v.fro (neighbour (p x)) (neighbour_below m (p x) (v.to x h));
      apart = λ x h e. neighbour_apart (p x) (sym (v.forth (neighbour (p x)) (neighbour_below m (p x) (v.to x h))) ∙ ap p e);
      twice = λ x h.
          ap (λ y. q (neighbour y)) (v.forth (neighbour (p x)) (neighbour_below m (p x) (v.to x h)))
          ∙ ap q (neighbour_twice (p x)) ∙ v.back x h;
    }

pub halved : (m : ℕ) (p q c : ℕ → ℕ) → Inverse (2 * m) p q → Coloured m (partner p q) c → Halved m p q c (λ y. c (q y))
halved m p q c v k =
    record {
      inverse = v;
      agree = λ x h. ap c (sym (v.back x h));
      ends = k.neighbours;
      starts = λ i h.
          let w = v.fro (2 * i) (omega arith) in
          let f = v.forth (2 * i) (omega arith) in
          let n : neighbour (p (q (2 * i))) ≡ 2 * i + 1 = omega arith in
          sym (ap (λ z. c (q (2 * i)) + c (q z)) n) ∙ k.partners (q (2 * i)) w;
    }

flipped : (m : ℕ) (p q c d : ℕ → ℕ) → Halved m p q c d → Halved m q p d c
flipped m p q c d v =
    record {
      inverse = record { to = v.inverse.fro; fro = v.inverse.to; back = v.inverse.forth; forth = v.inverse.back };
      agree = λ x h. ap d (sym (v.inverse.forth x h)) ∙ sym (v.agree (q x) (v.inverse.fro x h));
      ends = v.starts;
      starts = v.ends;
    }

-- the wire of a pair that is in half s, and the pair of such a wire
member_side : (c : ℕ → ℕ) (s i : ℕ) → s ≤ 1 → c (2 * i) + c (2 * i + 1) ≡ 1 → c (member c s i) ≡ s
member_side c s i l e = let z = cases_eq (c (2 * i)) s in grind (arith, nat_tests)

member_pair : (c : ℕ → ℕ) (s i : ℕ) → member c s i / 2 ≡ i
member_pair c s i = let z = cases_eq (c (2 * i)) s in grind (arith, nat_tests)

member_below : (c : ℕ → ℕ) (s i m : ℕ) → i < m → member c s i < 2 * m
member_below c s i m h = let z = cases_eq (c (2 * i)) s in grind (arith, nat_tests)

pub member_of : (c : ℕ → ℕ) (s x : ℕ) → c (2 * (x / 2)) + c (2 * (x / 2) + 1) ≡ 1 → c x ≡ s → member c s (x / 2) ≡ x
member_of c s x e z = let w = cases_eq x (2 * (x / 2)) in let u = cases_eq (c (2 * (x / 2))) s in grind (arith, nat_tests)

pub half_to : (m : ℕ) (p q c d : ℕ → ℕ) → Halved m p q c d → (s i : ℕ) → i < m → half_of p c s i < m
half_to m p q c d v s i h = let w = v.inverse.to (member c s i) (member_below c s i m h) in omega arith

-- where the item of an end starts
from_half : (m : ℕ) (p q c d : ℕ → ℕ) → Halved m p q c d → (s x : ℕ) → x < 2 * m → c x ≡ s → p x ≡ member d s (p x / 2)
from_half m p q c d v s x h z =
    let w = v.inverse.to x h in
    sym (member_of d s (p x) (v.starts (p x / 2) (omega arith)) (sym (v.agree x h) ∙ z))

half_back : (m : ℕ) (p q c d : ℕ → ℕ) → Halved m p q c d → (s : ℕ) → s ≤ 1 → (i : ℕ) → i < m → half_of q d s (half_of p c s i) ≡ i
half_back m p q c d v s l i h =
    let b = member_below c s i m h in
    let f = from_half m p q c d v s (member c s i) b (member_side c s i l (v.ends i h)) in
    ap (λ y. q y / 2) (sym f) ∙ ap (λ y. y / 2) (v.inverse.back (member c s i) b) ∙ member_pair c s i

pub half_inverse : (m : ℕ) (p q c d : ℕ → ℕ) → Halved m p q c d → (s : ℕ) → s ≤ 1 → Inverse m (half_of p c s) (half_of q d s)
half_inverse m p q c d v s l =
    record {
      to = half_to m p q c d v s;
      fro = half_to m q p d c (flipped m p q c d v) s;
      back = half_back m p q c d v s l;
      forth = half_back m q p d c (flipped m p q c d v) s l;
    }

-- p by its halves
pub by_half : (m : ℕ) (p q c d : ℕ → ℕ) → Halved m p q c d → (s x : ℕ) → x < 2 * m → c x ≡ s → p x ≡ member d s (half_of p c s (x / 2))
by_half m p q c d v s x h z =
    let a = member_of c s x (v.ends (x / 2) (omega arith)) z in
    from_half m p q c d v s x h z ∙ ap (λ y. member d s (p y / 2)) (sym a)

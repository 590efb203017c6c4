-- The challenges that a task's maker picks: they fit, they differ, and they are split in two.
use Rattle.std.proofs.Common.{◌≡◌, ℕ, ◌+◌, ◌-◌, ◌%◌, ◌^◌, ◌<◌, ◌≤◌, ◌⊎◌, sym, ap, ◌∙◌, inl, inr, mod-lt, mod-eq_of_lt, arith, pow_pos, pow_mono}
use native.Mathlib.Nat.{mod_self, add-mod}
use lib.Bits.{bit_xor, xor_lt, xor_assoc, xor_comm, xor_self, xor_zero_r}
use lib.Pow.{mod-mod-pow}
use Rattle.std.proofs.lemmas.Bool.{cases_lt}
use Rattle.group.specs.Exponents.{Exponents, ExponentLaws, remainder, lowest_bits}
use Rattle.drillserver.specs.Answering.{next_challenges, parts_beside}
use Rattle.drillserver.specs.Knowledge.{word}
use Rattle.witness.specs.declared.posted.Challenges.{Challenges}

-- a number and the next have different remainders by what is above 1
next_apart : (m n : ℕ) → 2 ≤ m → n % m ≡ (n + 1) % m → ⊥
next_apart m n h e = go (cases_lt (n % m + 1) m)
  where
    one : 1 % m ≡ 1
    one = mod-eq_of_lt (let l : 1 < m = omega arith in l)

    after : (n + 1) % m ≡ (n % m + 1) % m
    after = add-mod n 1 m ∙ ap (λ (k : ℕ). (n % m + k) % m) one

    below : n % m < m
    below = mod-lt n (let l : 0 < m = omega arith in l)

    go : (n % m + 1 < m) ⊎ (m ≤ n % m + 1) → ⊥
    go (inl l) = let same : n % m ≡ n % m + 1 = e ∙ after ∙ mod-eq_of_lt l in omega arith
    go (inr l) =
        let b = below in
        let whole : n % m + 1 ≡ m = omega arith in
        let none : n % m ≡ 0 = e ∙ after ∙ ap (λ (k : ℕ). k % m) whole ∙ mod_self m in
        omega arith

-- a challenge that is split in two is put together again
pub xor_back : (a b : ℕ) → bit_xor (bit_xor a b) b ≡ a
xor_back a b = xor_assoc a b b ∙ ap (bit_xor a) (xor_self b) ∙ xor_zero_r a

pub xor_front : (a b : ℕ) → bit_xor b (bit_xor a b) ≡ a
xor_front a b = xor_comm b (bit_xor a b) ∙ xor_back a b

module _ {E : Exponents} (exponents : ExponentLaws E) where
  -- both are fit, and they differ
  pub record Fair (h : Challenges) : Type 0 where
    pub first_below : h.first < 2 ^ E.challenge_bits
    pub second_below : h.second < 2 ^ E.challenge_bits
    pub apart : h.first ≡ h.second → ⊥

  pub bits_below : (n : ℕ) → lowest_bits E n < 2 ^ E.challenge_bits
  bits_below n = mod-lt n (pow_pos E.challenge_bits)

  -- those of a word and of the next
  pub next_fair : (n : ℕ) → Fair (next_challenges E n)
  next_fair n =
      let l = E.challenge_bits in
      let some = exponents.some_bits in
      let few = exponents.few_bits in
      let all : (64 - l) + l ≡ 64 = omega arith in
      let two : 2 ≤ 2 ^ l = pow_mono some in
      let wrapped : lowest_bits E (word n 1) ≡ (n + 1) % 2 ^ l = ap (λ (k : ℕ). (n + 1) % 2 ^ k % 2 ^ l) (sym all) ∙ mod-mod-pow (n + 1) (64 - l) l in
      record {
        first_below = bits_below n;
        second_below = bits_below (word n 1);
        apart = λ e. next_apart (2 ^ l) n two (e ∙ wrapped);
      }

  -- and their parts beside c
  pub parts_fair : (c : ℕ) (h : Challenges) → c < 2 ^ E.challenge_bits → Fair h → Fair (parts_beside c h)
  parts_fair c h below fair = record {
    first_below = xor_lt E.challenge_bits h.first c fair.first_below below;
    second_below = xor_lt E.challenge_bits h.second c fair.second_below below;
    apart = λ e. fair.apart (sym (xor_back h.first c) ∙ ap (λ x. bit_xor x c) e ∙ xor_back h.second c);
  }

  -- a challenge is an exponent, by itself
  own : (c : ℕ) → c < 2 ^ E.challenge_bits → remainder E c ≡ c
  own c h = let r = exponents.room in mod-eq_of_lt (let l : c < E.order = omega arith in l)

  pub fair_exponents : (h : Challenges) → Fair h → remainder E h.first ≡ remainder E h.second → ⊥
  fair_exponents h fair e = fair.apart (sym (own h.first fair.first_below) ∙ e ∙ own h.second fair.second_below)

-- The loops of the chain: finding a comparator, and setting the rows.
use Rattle.std.proofs.Common.{◌≡◌, ℕ, suc, ◌+◌, ◌-◌, ◌<◌, ◌≤◌, List, [], ◌++◌, map, length, take, Some, None, sym, refl, ap, ◌∙◌, subst, arith}
use Rattle.std.specs.List.{range_with_len}
use Rattle.std.specs.Option.{option_map}
use Rattle.std.proofs.lemmas.List.{length-append, append_assoc, append-nil, get_or-take}
use Rattle.std.proofs.lemmas.List.FromFn.{length-map-range_with_len}
use Rattle.plan.specs.declared.Setting.{Setting}
use Rattle.plan.specs.Plans.{on, at, nth, source, Permutation, Tabled, Brings}
use Rattle.plan.proofs.Running.{brings_from}
use Rattle.plan.proofs.Places.{nth_left, nth_right, nth_map, nth_counting}
use Rattle.chain.specs.Listing.{chain_from, chain, Fits}
use Rattle.chain.specs.Stages.{row_setting, Permutes, BringsFrom}
use Rattle.chain.specs.Rows.{settled, permutes_rest, chain_more, chain_lawful}

chain_row : (j m : ℕ) → chain_from j (suc m) ≡ map (on j) (range_with_len (j + 1) m) ++ chain_from (j + 1) m
unfolding chain_from
chain_row j m = refl

chain_step : (j n : ℕ) → j < n → chain_from j (n - j) ≡ map (on j) (range_with_len (j + 1) (n - 1 - j)) ++ chain_from (j + 1) (n - (j + 1))
chain_step j n h =
    let e : n - j ≡ suc (n - (j + 1)) = omega arith in
    let f : n - (j + 1) ≡ n - 1 - j = omega arith in
    ap (chain_from j) e ∙ chain_row j (n - (j + 1)) ∙ ap (λ m. map (on j) (range_with_len (j + 1) m) ++ chain_from (j + 1) (n - (j + 1))) f

chain_none : (j n : ℕ) → n ≤ j → chain_from j (n - j) ≡ []
chain_none j n h = let e : n - j ≡ 0 = omega arith in ap (chain_from j) e ∙ unfold chain_from in refl

pub found : (j n k : ℕ) → j < n → k < n - 1 - j → Some (on j (j + 1 + k)) ≡ nth (chain_from j (n - j)) k
found j n k h l =
    let m = length-map-range_with_len (on j) (j + 1) (n - 1 - j) in
    sym (ap (λ cs. nth cs k) (chain_step j n h) ∙ nth_left (map (on j) (range_with_len (j + 1) (n - 1 - j))) (chain_from (j + 1) (n - (j + 1))) k (omega arith)
    ∙ nth_map (on j) (range_with_len (j + 1) (n - 1 - j)) k ∙ ap (option_map (on j)) (nth_counting (j + 1) (n - 1 - j) k l))

pub further : (j n k : ℕ) → j < n → n - 1 - j ≤ k → nth (chain_from (j + 1) (n - (j + 1))) (k - (n - 1 - j)) ≡ nth (chain_from j (n - j)) k
further j n k h l =
    sym (ap (λ cs. nth cs k) (chain_step j n h)
    ∙ nth_right (map (on j) (range_with_len (j + 1) (n - 1 - j))) (chain_from (j + 1) (n - (j + 1))) (n - 1 - j) k (length-map-range_with_len (on j) (j + 1) (n - 1 - j)) l)

pub exhausted : (j n k : ℕ) → n ≤ j → nth (chain_from j (n - j)) k ≡ None
exhausted j n k h = ap (λ cs. nth cs k) (chain_none j n h)

pub chain_left : (j n : ℕ) → j < n → length (chain_from j (n - j)) ≡ (n - 1 - j) + length (chain_from (j + 1) (n - (j + 1)))
chain_left j n h = ap length (chain_step j n h) ∙ simp (length-append, length-map-range_with_len)

pub none_left : (j n : ℕ) → n ≤ j → length (chain_from j (n - j)) ≡ 0
none_left j n h = ap length (chain_none j n h)

-- what stands in the first places, and any settings that do for the rest of the chain, bring o about
abbrev pub Goes : ℕ → ℕ → (ℕ → ℕ) → List Setting → (ℕ → ℕ) → Type 0
Goes j n p out o = (ss : List Setting) → ((x : ℕ) → j ≤ x → x < n → source (chain_from j (n - j)) ss x ≡ p x) → (x : ℕ) → x < n → source (chain n) (out ++ ss) x ≡ o x

permutes_like : (j n : ℕ) (p q : ℕ → ℕ) → ((x : ℕ) → x < n → q x ≡ p x) → Permutes j n p → Permutes j n q
permutes_like j n p q e s =
    record {
      low = λ x h l. let a = e x l in let b = s.low x h l in omega arith;
      high = λ x h l. let a = e x l in let b = s.high x h l in omega arith;
      distinct = λ x y hx lx hy ly f. s.distinct x y hx lx hy ly (sym (e x lx) ∙ f ∙ e y ly);
    }

pub permutes_more : (j n : ℕ) (p q : ℕ → ℕ) → j < n → Permutes j n p → ((x : ℕ) → x < n → q x ≡ settled j p x) → Permutes (j + 1) n q
permutes_more j n p q h s e =
    let m = n - (j + 1) in
    let a : n ≡ j + suc m = omega arith in
    let b : j + 1 + m ≡ n = omega arith in
    let s' : Permutes j (j + suc m) p = subst (λ (z : ℕ). Permutes j z p) a s in
    let r : Permutes (j + 1) n (settled j p) = subst (λ (z : ℕ). Permutes (j + 1) z (settled j p)) b (permutes_rest j m p s') in
    permutes_like (j + 1) n (settled j p) q e r

pub goes_more : (j n : ℕ) (p q o : ℕ → ℕ) (out ext : List Setting) → j < n → Permutes j n p → ((x : ℕ) → x < n → q x ≡ settled j p x) →
    ext ≡ out ++ map (row_setting (p j)) (range_with_len (j + 1) (n - 1 - j)) → Goes j n p out o → Goes (j + 1) n q ext o
goes_more j n p q o out ext h s e f g ss k x l =
    let m = n - (j + 1) in
    let a : n ≡ j + suc m = omega arith in
    let b : n - 1 - j ≡ m = omega arith in
    let c : suc m ≡ n - j = omega arith in
    let s' : Permutes j (j + suc m) p = subst (λ (z : ℕ). Permutes j z p) a s in
    let f' : ext ≡ out ++ map (row_setting (p j)) (range_with_len (j + 1) m) = f ∙ ap (λ z. out ++ map (row_setting (p j)) (range_with_len (j + 1) z)) b in
    ap (λ z. source (chain n) z x) (ap (λ z. z ++ ss) f' ∙ append_assoc out (map (row_setting (p j)) (range_with_len (j + 1) m)) ss)
    ∙ g (map (row_setting (p j)) (range_with_len (j + 1) m) ++ ss)
    (λ y hy ly. ap (λ z. source (chain_from j z) (map (row_setting (p j)) (range_with_len (j + 1) m) ++ ss) y) (sym c)
    ∙ chain_more j m p ss s' (λ w hw lw. k w hw (omega arith) ∙ e w (omega arith)) y hy (omega arith))
    x l

pub goes_all : (j n : ℕ) (p o : ℕ → ℕ) (out : List Setting) → n ≤ j → Goes j n p out o → BringsFrom 0 n out o
goes_all j n p o out h g x z l = ap (λ ss. source (chain n) ss x) (sym (append-nil out)) ∙ g [] (λ y hy ly. absurd (omega arith)) x (omega arith)

-- the whole route
pub routed : (n w : ℕ) (p es is t : List ℕ) (ss : List Setting) → w ≡ n → Fits n → Tabled w p es is → t ≡ take w es → length t ≡ w → length ss ≡ length (chain n) →
    BringsFrom 0 (length t) ss (at t) → Permutation n p × Brings n (chain n) ss p
routed n w p es is t ss e f v g m l b =
    let v' : Permutation n p = subst (λ (z : ℕ). Permutation z p) e v.permutation in
    let b' : BringsFrom 0 n ss (at t) = subst (λ (z : ℕ). BringsFrom 0 z ss (at t)) (m ∙ e) b in (
      v',
      brings_from n (chain n) ss p (chain_lawful n f).within l v'.long
          (λ x h. b' x (omega arith) (omega arith) ∙ ap (λ z. at z x) g ∙ get_or-take w es x 0 (omega arith) ∙ v.same x (omega arith)),
    )

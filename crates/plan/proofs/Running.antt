-- What a plan leaves on each wire: the item of the wire that `source` names.
use Rattle.std.proofs.Common.{◌≡◌, ℕ, zero, suc, ◌+◌, ◌<◌, ◌≤◌, List, [], ◌∷◌, ◌++◌, length, get_or, drop, Some, None, sym, refl, ap, ◌∙◌, subst, ap₂, arith}
use Rattle.std.specs.List.{range_with_len, swap}
use Rattle.std.proofs.lemmas.Bool.Decides.{nat_tests}
use Rattle.std.proofs.lemmas.List.Edits.{length-swap, swapped_from_swap}
use Rattle.std.proofs.lemmas.List.{ext_get_or, drop_more, drop_all}
use Rattle.std.proofs.lemmas.List.FromFn.{length-range_with_len, get_or-range_with_len}
use Rattle.plan.specs.declared.Setting.{Setting}
use Rattle.plan.specs.declared.Setting.TheVariants.{Straight, Swapped}
use Rattle.plan.specs.declared.Comparator.{Comparator}
use Rattle.plan.specs.Plans.{applied, run, Brings, at, Within, nth, crossed, came_from, source}

get_or_exchanged : {X : Type 0} (xs : List X) (c : Comparator) (x : ℕ) (d : X) → c.first < length xs → c.second < length xs →
    get_or (swap xs c.first c.second) x d ≡ get_or xs (crossed c x) d
get_or_exchanged xs c x d h l =
    let s = swapped_from_swap xs (swap xs c.first c.second) c.first c.second d h l refl in
    let s0 = s.0 in
    let s1 = s.1 in
    let s2 = s.2 x in
    grind (arith, nat_tests)

get_or_applied : {X : Type 0} (xs : List X) (c : Comparator) (s : Setting) (x : ℕ) (d : X) → c.first < length xs → c.second < length xs →
    get_or (applied c s xs) x d ≡ get_or xs (came_from c s x) d
get_or_applied xs c Straight x d h l = refl
get_or_applied xs c Swapped x d h l = get_or_exchanged xs c x d h l

length_applied : {X : Type 0} (c : Comparator) (s : Setting) (xs : List X) → length (applied c s xs) ≡ length xs
length_applied c Straight xs = refl
length_applied c Swapped xs = length-swap xs c.first c.second

pub length_run : {X : Type 0} (cs : List Comparator) (ss : List Setting) (xs : List X) → length (run cs ss xs) ≡ length xs
unfolding run
length_run [] ss xs = refl
length_run (c ∷ cs) [] xs = refl
length_run (c ∷ cs) (s ∷ ss) xs = length_run cs ss (applied c s xs) ∙ length_applied c s xs

pub get_or_run : {X : Type 0} (n : ℕ) (cs : List Comparator) (ss : List Setting) (xs : List X) (x : ℕ) (d : X) → Within n cs → length xs ≡ n →
    get_or (run cs ss xs) x d ≡ get_or xs (source cs ss x) d
unfolding run source
get_or_run n [] ss xs x d w h = refl
get_or_run n (c ∷ cs) [] xs x d w h = refl
get_or_run n (c ∷ cs) (s ∷ ss) xs x d w h =
    let w0 = w.0 in
    let w1 = w.1 in
    get_or_run n cs ss (applied c s xs) x d w.2 (length_applied c s xs ∙ h)
    ∙ get_or_applied xs c s (source cs ss x) d (omega arith) (omega arith)

came_from_below : (n : ℕ) (c : Comparator) (s : Setting) (x : ℕ) → c.first < c.second → c.second < n → x < n → came_from c s x < n
came_from_below n c Straight x h l b = b
came_from_below n c Swapped x h l b = grind (arith, nat_tests)

pub source_below : (n : ℕ) (cs : List Comparator) (ss : List Setting) (x : ℕ) → Within n cs → x < n → source cs ss x < n
unfolding source
source_below n [] ss x w h = h
source_below n (c ∷ cs) [] x w h = h
source_below n (c ∷ cs) (s ∷ ss) x w h = came_from_below n c s (source cs ss x) w.0 w.1 (source_below n cs ss x w.2 h)

-- the plan run on the numbers of the wires
on_wires : (n : ℕ) (cs : List Comparator) (ss : List Setting) (x : ℕ) → Within n cs → x < n → at (run cs ss (range_with_len 0 n)) x ≡ source cs ss x
on_wires n cs ss x w h =
    get_or_run n cs ss (range_with_len 0 n) x 0 w (length-range_with_len 0 n) ∙ get_or-range_with_len 0 n (source cs ss x) 0 (source_below n cs ss x w h) ∙ omega arith

-- settings that bring p about, by sources
pub source_brought : (n : ℕ) (cs : List Comparator) (ss : List Setting) (p : List ℕ) (x : ℕ) → Within n cs → Brings n cs ss p → x < n → source cs ss x ≡ at p x
source_brought n cs ss p x w b h = sym (on_wires n cs ss x w h) ∙ ap (λ q. at q x) b.brought

pub brings_from : (n : ℕ) (cs : List Comparator) (ss : List Setting) (p : List ℕ) → Within n cs → length ss ≡ length cs → length p ≡ n →
    ((x : ℕ) → x < n → source cs ss x ≡ at p x) → Brings n cs ss p
brings_from n cs ss p w l h e =
    let lr = length_run cs ss (range_with_len 0 n) in
    let lc = length-range_with_len 0 n in
    record {
      count = l;
      brought = ext_get_or 0 (run cs ss (range_with_len 0 n)) p (lr ∙ lc ∙ sym h) (λ i b. on_wires n cs ss i w (omega arith) ∙ e i (omega arith));
    }

-- so items of any kind end where p says
pub moved : {X : Type 0} (n : ℕ) (cs : List Comparator) (ss : List Setting) (p : List ℕ) (xs : List X) (j : ℕ) (d : X) → Within n cs → Brings n cs ss p →
    length xs ≡ n → j < n → get_or (run cs ss xs) j d ≡ get_or xs (at p j) d
moved n cs ss p xs j d w b h l = get_or_run n cs ss xs j d w h ∙ ap (λ y. get_or xs y d) (source_brought n cs ss p j w b l)

pub source_append : (cs ds : List Comparator) (ss ts : List Setting) (x : ℕ) → length ss ≡ length cs →
    source (cs ++ ds) (ss ++ ts) x ≡ source cs ss (source ds ts x)
unfolding source
source_append [] ds [] ts x h = refl
source_append [] ds (s ∷ ss) ts x h = absurd (omega arith)
source_append (c ∷ cs) ds [] ts x h = absurd (omega arith)
source_append (c ∷ cs) ds (s ∷ ss) ts x h = ap (came_from c s) (source_append cs ds ss ts x (omega arith))

pub within_append : (n : ℕ) (cs ds : List Comparator) → Within n cs → Within n ds → Within n (cs ++ ds)
within_append n [] ds w v = v
within_append n (c ∷ cs) ds w v = (w.0, w.1, within_append n cs ds w.2 v)

-- what the k-th comparator says of the list
pub nth_drop : {X : Type 0} (xs : List X) (k : ℕ) (x : X) → nth xs k ≡ Some x → drop k xs ≡ x ∷ drop (k + 1) xs
nth_drop [] k x e = absurd (let z : ◌≡◌ {A = ℕ} 0 1 = cc in omega arith)
nth_drop (y ∷ xs) zero x e = let z : y ≡ x = cc in ap (λ v. v ∷ xs) z
nth_drop (y ∷ xs) (suc k) x e =
    let z : suc (k + 1) ≡ suc k + 1 = omega arith in
    nth_drop xs k x e ∙ ap (λ i. x ∷ drop i (y ∷ xs)) z

pub nth_none : {X : Type 0} (xs : List X) (k : ℕ) → nth xs k ≡ None → length xs ≤ k
nth_none [] k e = omega arith
nth_none (y ∷ xs) zero e = absurd (let z : ◌≡◌ {A = ℕ} 0 1 = cc in omega arith)
nth_none (y ∷ xs) (suc k) e = let h = nth_none xs k e in omega arith

pub nth_within : (n : ℕ) (cs : List Comparator) (k : ℕ) (c : Comparator) → Within n cs → nth cs k ≡ Some c → (c.first < c.second) × (c.second < n)
nth_within n [] k c w e = absurd (let z : ◌≡◌ {A = ℕ} 0 1 = cc in omega arith)
nth_within n (b ∷ cs) zero c w e = let z : b ≡ c = cc in subst (λ (v : Comparator). (v.first < v.second) × (v.second < n)) z (w.0, w.1)
nth_within n (b ∷ cs) (suc k) c w e = nth_within n cs k c w.2 e

-- one turn of the loop that runs a plan
pub run_more : {X : Type 0} (cs : List Comparator) (ss : List Setting) (xs ys zs : List X) (k : ℕ) (c : Comparator) (s : Setting) → nth cs k ≡ Some c →
    k < length ss → ys ≡ applied c (get_or ss k s) xs → run (drop k cs) (drop k ss) xs ≡ zs → run (drop (k + 1) cs) (drop (k + 1) ss) ys ≡ zs
unfolding run
run_more cs ss xs ys zs k c s e h g i =
    ap (run (drop (k + 1) cs) (drop (k + 1) ss)) g ∙ ap₂ (λ t u. run t u xs) (sym (nth_drop cs k c e)) (sym (drop_more ss k s h)) ∙ i

pub run_all : {X : Type 0} (cs : List Comparator) (ss : List Setting) (xs : List X) (k : ℕ) → length cs ≤ k → run (drop k cs) (drop k ss) xs ≡ xs
unfolding run
run_all cs ss xs k h = rw (drop_all k cs)

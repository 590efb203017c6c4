-- How the chain routes: stage j brings the item that is wanted on wire j there, by one comparator of its row.
use Rattle.std.specs.Prelude.{◌≡◌, ℕ, ◌+◌, ◌<◌, ◌≤◌, cond, List, ◌==◌}
use Rattle.plan.specs.declared.Setting.{Setting}
use Rattle.plan.specs.declared.Setting.TheVariants.{Straight, Swapped}
use Rattle.plan.specs.Plans.{source}
use Rattle.chain.specs.Listing.{chain_from}

-- the setting of the comparator with wire k where the item wanted stands on wire w
abbrev pub row_setting : ℕ → ℕ → Setting
row_setting w k = cond (k == w) Swapped Straight

-- p takes the wires from j up to n to each other
pub record Permutes (j n : ℕ) (p : ℕ → ℕ) : Type 0 where
  pub low : (x : ℕ) → j ≤ x → x < n → j ≤ p x
  pub high : (x : ℕ) → j ≤ x → x < n → p x < n
  pub distinct : (x y : ℕ) → j ≤ x → x < n → j ≤ y → y < n → p x ≡ p y → x ≡ y

-- the settings bring p about on the wires from j up to n
abbrev pub BringsFrom : ℕ → ℕ → List Setting → (ℕ → ℕ) → Type 0
BringsFrom j m ss p = (x : ℕ) → j ≤ x → x < j + m → source (chain_from j m) ss x ≡ p x

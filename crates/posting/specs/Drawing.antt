-- A draw over a comparison and its commitments.
use Rattle.std.specs.Prelude.{◌≡◌, ℕ, ◌*◌, Bool, true, false, List, Ok, Err, Result, nat_le}
use Rattle.group.specs.Operations.{Operations}
use Rattle.refusal.specs.Table.{refused_at}
use Rattle.refusal.specs.declared.Reason.TheVariants.{UnfitLength}
use Rattle.refusal.specs.declared.Refusal.{Refusal}
use Rattle.source.specs.Words.{Words, Drawn}
use Rattle.posting.specs.Comparison.{posted}
use Rattle.posting.specs.Posting.{codes}
use Rattle.posting.specs.declared.comparison.Comparison.{Comparison}

-- a posting buffer has room for eleven codes
abbrev pub buffer_fits : {Point : Type 0} → Operations Point → ℕ → Bool
buffer_fits G bytes = nat_le (11 * G.width) bytes

-- the answer within a buffer that fits, and the refusal of a shorter one
abbrev pub Within : Bool → ℕ → (Result ℕ Refusal → Type 0) → Result ℕ Refusal → Type 0
Within true place D r = D r
Within false place D (Ok w) = ⊥
Within false place D (Err f) = f ≡ refused_at UnfitLength place

abbrev pub DrawnOver : {Point : Type 0} → Operations Point → Words → Comparison Point → List Point → ℕ → ℕ → ℕ → Result ℕ Refusal → Type 0
DrawnOver G S k commitments question bytes place r = Within (buffer_fits G bytes) place (Drawn S question (codes G (posted k commitments)) place) r

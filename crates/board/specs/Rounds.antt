-- How a board is opened, and how a finished round is judged.
use Rattle.std.specs.Prelude.{ℕ, ◌+◌, ◌*◌, ◌/◌, Bool, cond, not, None, Option, ◌==◌, nat_le}
use Rattle.elgamal.specs.declared.Ciphertext.{Ciphertext}
use Rattle.equivalence.specs.Equations.{same_point}
use Rattle.equivalence.specs.Judgement.{both, unless}
use Rattle.group.specs.Operations.{Operations}
use Rattle.refusal.specs.declared.Reason.{Reason}
use Rattle.refusal.specs.declared.Reason.TheVariants.{UnfitServers, KeyIsOne, UnfitLength}
use Rattle.board.specs.States.{State}
use Rattle.board.specs.declared.events.Stage.TheVariants.{Gathering, Turning, Finished}
use Rattle.board.specs.declared.events.Stage.{Stage}
use Rattle.board.specs.declared.verdict.Standing.{Standing}
use Rattle.board.specs.declared.verdict.Verdict.{Verdict}
use Rattle.board.specs.declared.verdict.Verdict.TheVariants.{Stands, Void, Unfinished}

abbrev pub servers_fit : ℕ → Bool
servers_fit servers = both (nat_le 1 servers) (nat_le servers 8)

-- why a board over n wires is not opened: its servers, its key, and then its two lists
abbrev pub judge_open : {Point : Type 0} → Operations Point → (n servers : ℕ) → Point → (wires start : ℕ) → Option Reason
judge_open G n servers y wires start =
    unless (servers_fit servers) UnfitServers
    (unless (not (same_point G y G.one)) KeyIsOne
    (unless (both (wires == n) (start == n)) UnfitLength None))

-- what stands on each wire at first
abbrev pub blank : {Point : Type 0} → Operations Point → Ciphertext Point
blank G = record { alpha = G.one; beta = G.one }

-- How many of the servers have to be completed: three quarters, to the nearest whole, a half downward.
abbrev pub needed : ℕ → ℕ
needed servers = (3 * servers + 1) / 4

-- a finished round stands or is void
abbrev pub verdict_by : Stage → (completed servers : ℕ) → Verdict
verdict_by Gathering completed servers = Unfinished
verdict_by Turning completed servers = Unfinished
verdict_by Finished completed servers = cond (nat_le (needed servers) completed) Stands Void

abbrev pub verdict_of : {X : Type 0} → State X → Verdict
verdict_of s = verdict_by s.stage s.completed s.servers

-- the verdict with its counts
abbrev pub standing_of : {X : Type 0} → State X → Standing
standing_of s = record { verdict = verdict_of s; completed = s.completed; servers = s.servers }

use Rattle.std.proofs.Common.{◌≡◌, ℕ, ◌+◌, ◌≤◌, List, length, Bor, MatchResult, IsErrAnd, Ok, Err, Result, sym, subst}
use Rattle.refusal.specs.declared.Reason.{Reason}
use Rattle.refusal.specs.declared.Refusal.{Refusal}
use Rattle.roundfile.proofs.Parses.{three_or_more}
use Rattle.roundfile.specs.Records.{taken, parse}
use Rattle.roundfile.specs.declared.record.Record.{Record}
use Rattle.roundfile.proofs.reader.Reader.next_record.Goals as goal

-- the record that the code went on with came off the front
came_off : (bytes : List ℕ) (read : Result (Record × Bor (List ℕ)) Reason) (told : Result (Record × Bor (List ℕ)) Refusal) (t : Record × Bor (List ℕ)) (P : Reason → Refusal → Type 0)
    → taken read ≡ parse bytes → MatchResult read (λ x. told ≡ Ok x) (λ e. IsErrAnd told (P e)) → told ≡ Ok t → length t.1.now + 3 ≤ length bytes
came_off bytes (Ok x) told t P is passes went =
    let same : x ≡ t = cc in
    subst (λ (u : Record × Bor (List ℕ)). length u.1.now + 3 ≤ length bytes) same (three_or_more bytes _ (sym is))
came_off bytes (Err e) told t P is passes went = absurd (subst (λ r. IsErrAnd r (P e)) went passes)

pub returns-clause-ends : goal.returns-clause-ends
returns-clause-ends c = came_off c.args.self.now.rest.now c.read_record.result c.map_err.result (c.in_ok-record.record, c.in_ok-record.rest) _ c.read_record.ensures c.map_err.ensures.cases c.in_ok-record.was

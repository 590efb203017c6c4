use Rattle.std.proofs.Common.{◌≡◌, ℕ, sym, subst, rules}
use Rattle.prover.specs.States.{message_meaning}
use Rattle.prover.specs.declared.states.Message.{Message}
use Rattle.roundfile.specs.Writing.{comparator_bytes}
use Rattle.mixfile.specs.Turns.{MessageRead}
use Rattle.mixfile.proofs.turn.step_record.Goals as goal

pub returns-clause-posts : goal.returns-clause-posts
returns-clause-posts g c =
    let number = g.G.Exponent.Exponent.number in
    let m = message_meaning g.G.Group.point number c.in_ok-message.message in
    let made : c.write.new.buffer ≡ comparator_bytes c.in_ok-record.record = search rules in
    let read = subst (λ (x : Message ℕ ℕ). MessageRead g.G.Group.operations number x m) (sym c.in_ok-record.ensures) c.in_ok-codes.ensures in
    (c.in_ok-record.record, made, (m, read, c.in_ok-message.ensures.taken))

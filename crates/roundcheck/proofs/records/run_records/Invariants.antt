use Rattle.std.proofs.Common.{◌≡◌, length, vec_items}
use Rattle.board.specs.Calls.{terms}
use Rattle.board.specs.States.{view, state_map}
use Rattle.elgamal.specs.Ciphertexts.{meaning}
use Rattle.roundfile.specs.Reading.{place}
use Rattle.roundcheck.proofs.Judging.{SoFar}
use Rattle.roundcheck.proofs.records.run_records.Given as goal

abbrev pub invariant-loop-entry : goal.invariant-loop-entry
invariant-loop-entry g l =
    let point = g.G.Group.point in
    let T = terms g.G.Group.operations g.G.Exponent.Exponent.exponents (g.S.Source.words l.setup.source.now) (point l.initial.board.key) (g.P.Plan.listing l.setup.plan.now) in
    (l.board.key ≡ l.initial.board.key)
    × SoFar T g.G.Exponent.Exponent.number (place l.initial.reader) (state_map (meaning point) (view l.initial.board)) (vec_items l.initial.lines) (place l.reader) (state_map (meaning point) (view l.board)) (vec_items l.lines)

abbrev pub decreases-loop-entry : goal.decreases-loop-entry
decreases-loop-entry g l = length l.reader.rest.now

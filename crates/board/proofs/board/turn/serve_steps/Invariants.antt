use Rattle.std.proofs.Common.{◌≡◌}
use Rattle.elgamal.specs.Ciphertexts.{meaning}
use Rattle.board.proofs.Turning.{SoFar}
use Rattle.board.specs.Calls.{terms}
use Rattle.board.specs.States.{view, state_map}
use Rattle.board.proofs.board.turn.serve_steps.Given as goal

abbrev pub invariant-loop-k : goal.invariant-loop-k
invariant-loop-k g l =
    let point = g.G.Group.point in
    let T = terms g.G.Group.operations g.G.Exponent.Exponent.exponents (g.S.Source.words l.setup.source.now) (point l.initial.board.key) (g.P.Plan.listing l.setup.plan.now) in
    (l.board.key ≡ l.initial.board.key) × SoFar T l.settings l.words (state_map (meaning point) (view l.initial.board)) l.k (state_map (meaning point) (view l.board))

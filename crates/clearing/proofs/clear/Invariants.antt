use Rattle.std.proofs.Common.{◌≡◌, take, replicate}
use Rattle.clearing.proofs.clear.Given as goal

-- the places so far are zeros
abbrev pub invariant-loop-place : goal.invariant-loop-place
invariant-loop-place g l = take l.place-index l.places ≡ replicate l.place-index g.T.Zero.zero

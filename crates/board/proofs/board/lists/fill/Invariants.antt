use Rattle.std.proofs.Common.{◌≡◌, take, replicate}
use Rattle.board.proofs.board.lists.fill.Given as goal

abbrev pub invariant-loop-place : goal.invariant-loop-place
invariant-loop-place g l = take l.place-index l.list ≡ replicate l.place-index l.item

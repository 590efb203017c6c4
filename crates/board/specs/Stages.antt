-- Whether a server's turn is under way: 1 or 0.
use Rattle.std.specs.Prelude.{ℕ}
use Rattle.board.specs.declared.events.Stage.{Stage}
use Rattle.board.specs.declared.events.Stage.TheVariants.{Gathering, Turning, Finished}

abbrev pub turning : Stage → ℕ
turning Gathering = 0
turning Turning = 1
turning Finished = 0

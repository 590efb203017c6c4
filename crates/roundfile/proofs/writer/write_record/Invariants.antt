use Rattle.std.proofs.Common.{◌≡◌, ◌+◌, ◌*◌, ◌++◌, take, drop}
use Rattle.std.specs.List.{flat_map}
use Rattle.roundfile.specs.Number.{four_bytes}
use Rattle.roundfile.proofs.writer.write_record.Given as goal

-- the head and the numbers so far stand in front, and behind them what stood there
abbrev pub invariant-loop-index : goal.invariant-loop-index
invariant-loop-index l =
    l.buffer ≡ (take 3 l.initial.buffer ++ flat_map four_bytes (take l.index l.numbers)) ++ drop (3 + 4 * l.index) l.initial.buffer

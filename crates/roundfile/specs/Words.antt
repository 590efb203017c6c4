-- The words of draws that an iterator over them has still to give.
use Rattle.std.specs.Prelude.{ℕ, ◌-◌, List, map}
use Rattle.std.specs.List.{range_with_len}
use Rattle.std.specs.Option.{unwrap_or}
use Rattle.roundfile.specs.Fields.{word}
use Rattle.roundfile.specs.declared.parts.Words.{Words}

abbrev pub words_left : Words → List ℕ
words_left w = map (λ i. unwrap_or (word w.draws.fields.bytes.now i) 0) (range_with_len w.indices.start (w.indices.end - w.indices.start))

use Rattle.std.proofs.Common.{◌≡◌, ℕ, List, ◌++◌}
use Rattle.std.specs.Fmt.{HasWritten, IsPlainFormatter}
use Rattle.roundfile.specs.Fields.{words_in}
use Rattle.roundfile.specs.Words.{words_left}
use Rattle.listround.specs.Lines.{words_text}
use Rattle.listround.proofs.line.ShownPartDrawsDisplay.fmt.Given as goal

-- the words that were written, with those that are left behind them, are all
abbrev pub invariant-loop-word : goal.invariant-loop-word
invariant-loop-word g l =
    IsPlainFormatter l.initial.f → (done : List ℕ) × HasWritten g.W.Write.write_str_gives l.initial.f done l.f
    × (done ++ words_text (words_left l.word-iterator) ≡ words_text (words_in l.self.0.fields.map l.self.0.fields.bytes.now))

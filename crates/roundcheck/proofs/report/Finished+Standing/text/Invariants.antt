use Rattle.std.proofs.Common.{◌≡◌, take, vec_items, string_bytes}
use Rattle.roundcheck.specs.Texts.{lines_text}
use Rattle.roundcheck.proofs.report.Finished+Standing.text.Given as goal

abbrev pub invariant-loop-line : goal.invariant-loop-line
invariant-loop-line l = string_bytes l.text ≡ lines_text (take l.line-index (vec_items l.self.lines))

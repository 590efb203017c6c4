use Rattle.std.proofs.Common.{sym, subst}
use Rattle.std.specs.Fmt.{HasWritten}
use Rattle.roundfile.specs.Records.{content}
use Rattle.roundfile.specs.declared.parts.Comparator.{Comparator}
use Rattle.roundfile.specs.declared.record.Record.{Record}
use Rattle.listround.specs.Lines.{comparator_text, record_text}
use Rattle.listround.proofs.line.ShownRecordDisplay.fmt.Goals as goal

pub returns-in-Comparator-clause-writes : goal.returns-in-Comparator-clause-writes
returns-in-Comparator-clause-writes g c = λ plain ok.
    subst (λ (held : Record). HasWritten g.W.Write.write_str_gives c.args.f.now (record_text (content held)) c.fmt-in-Comparator.new.f) (sym c.in-Comparator.is)
    (subst (λ (m : Comparator). HasWritten g.W.Write.write_str_gives c.args.f.now (comparator_text m) c.fmt-in-Comparator.new.f) c.values-in-Comparator.ensures (c.fmt-in-Comparator.ensures.writes plain ok))

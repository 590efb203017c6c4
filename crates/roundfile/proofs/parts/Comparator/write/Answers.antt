use Rattle.std.proofs.Common.{ℕ, ◌+◌, ◌*◌, ◌^◌, ◌<◌, length, get_or, drop, ap, ◌∙◌, subst, le-ltb}
use Rattle.std.proofs.lemmas.Bool.{cond-false}
use Rattle.std.specs.List.{flat_map}
use Rattle.roundfile.specs.Number.{four_bytes}
use Rattle.roundfile.specs.Records.{parse}
use Rattle.roundfile.specs.Writing.{record_bytes, numbers_of, all_fields, written, write_answer}
use Rattle.roundfile.specs.declared.kind.Kind.TheVariants.{Comparator}
use Rattle.roundfile.proofs.Rewrites.{reads_back, values_back, writes_what_was_read}
use Rattle.roundfile.proofs.parts.Comparator.write.Goals as goal

pub returns : goal.returns
returns c =
    let buffer = c.args.buffer.now in
    let after = c.write_record.ensures.after ∙ ap (λ n. written (3 + 4 * length n) (record_bytes Comparator all_fields n) buffer) c.numbers-numbers.ensures in
    record {
      after = after;
      answer = c.write_record.ensures.answer ∙ ap (λ n. write_answer (3 + 4 * length n) buffer) c.numbers-numbers.ensures;
      back = λ long. (
        flat_map four_bytes (numbers_of c.args.self.now),
        ap parse (after ∙ cond-false _ _ _ (le-ltb _ _ long)) ∙ reads_back c.args.self.now (drop 51 buffer),
        values_back c.args.self.now (subst (λ n. (i : ℕ) → get_or n i 0 < 2 ^ 32) c.numbers-numbers.ensures c.write_record.ensures.fitting),
      );
      same = writes_what_was_read;
    }

use Rattle.std.proofs.Common.{◌≡◌, ℕ, ◌+◌, ◌*◌, List, length, sym, refl, ap, ◌∙◌, arith, le-ltb}
use Rattle.std.proofs.lemmas.Bool.{cond-false}
use Rattle.roundfile.proofs.Writes.{after_numbers, one_more, all_numbers}
use Rattle.roundfile.proofs.writer.write_record.Goals as goal

pub loop-index-preserved : goal.loop-index-preserved
loop-index-preserved c =
    c.write_number.ensures
    ∙ one_more c.write_head.new.buffer c.args.numbers.now c.loop-index.buffer c.loop-index.index _ c.loop-index-test.true (omega arith) refl c.loop-index.invariant

pub returns : goal.returns
returns c =
    let numbers : List ℕ = c.args.numbers.now in
    let start : List ℕ = c.write_head.new.buffer in
    let long = le-ltb (length c.args.buffer.now) (3 + 4 * length numbers) (omega arith) in
    let done : c.loop-index.index ≡ length numbers = omega arith in
    record {
      after =
          c.loop-index.invariant
          ∙ ap (after_numbers start numbers) done
          ∙ all_numbers c.args.kind c.args.map numbers c.args.buffer.now start c.write_head.ensures
          ∙ sym (cond-false _ _ _ long);
      answer = sym (cond-false _ _ _ long);
      fitting = λ i. omega (arith, c.type_inv.numbers i);
    }

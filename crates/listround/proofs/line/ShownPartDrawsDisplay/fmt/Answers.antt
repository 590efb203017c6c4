use Rattle.std.proofs.Common.{◌≡◌, ℕ, List, ◌++◌, codes, decimal, sym, refl, ap, ◌∙◌, append_assoc, rules}
use Rattle.std.proofs.lemmas.Grind.{put_two}
use Rattle.std.proofs.lemmas.List.{append-nil}
use Rattle.std.specs.Fmt.{HasWritten}
use Rattle.roundfile.specs.Fields.{words_in}
use Rattle.roundfile.specs.Words.{words_left}
use Rattle.listround.specs.Lines.{words_text}
use Rattle.listround.proofs.line.ShownPartDrawsDisplay.fmt.Goals as goal

pub loop-word-preserved : goal.loop-word-preserved
loop-word-preserved g c = λ plain.
    let so_far = c.loop-word.invariant plain in
    let piece : List ℕ = codes " " ++ decimal c.in-Some.word in
    let more : HasWritten g.W.Write.write_str_gives c.loop-word.f piece c.write-in-loop-word.new.self = search rules in (
      so_far.0 ++ piece,
      put_two _ _ _ _ so_far.0 piece _ so_far.1 more refl,
      append_assoc so_far.0 piece (words_text (words_left c.next.new.self)) ∙ ap (λ (xs : List ℕ). so_far.0 ++ words_text xs) (sym c.in-Some.ensures.steps) ∙ so_far.2,
    )

pub returns-clause-writes : goal.returns-clause-writes
returns-clause-writes g c = λ plain ok.
    let fields = c.args.self.now.0.fields in
    let head : List ℕ = codes "draws count " ++ (decimal c.count-count.result ++ codes " words") in
    let first : HasWritten g.W.Write.write_str_gives c.args.f.now head c.write.new.self = search rules in
    let words = c.loop-word.invariant first.plain in
    let all : words.0 ≡ words_text (words_in fields.map fields.bytes.now) =
    sym (append-nil words.0) ∙ ap (λ (xs : List ℕ). words.0 ++ words_text xs) (sym c.in-None.ensures.steps.0) ∙ words.2 in
    put_two _ _ _ _ head words.0 _ first words.1
    (ap (λ (xs : List ℕ). head ++ xs) all
    ∙ ap (λ (n : ℕ). (codes "draws count " ++ (decimal n ++ codes " words")) ++ words_text (words_in fields.map fields.bytes.now)) c.count-count.ensures)

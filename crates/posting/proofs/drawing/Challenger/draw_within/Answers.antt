use Rattle.std.proofs.Common.{ℕ, List, ◌∙◌, subst}
use Rattle.posting.proofs.Appending.{appended_both, front}
use Rattle.source.specs.Words.{Drawn}
use Rattle.posting.proofs.drawing.Challenger.draw_within.Goals as goal

pub returns : goal.returns
returns g c =
    let all = front (appended_both c.comparison.ensures.codes c.commitments.ensures) c.new-writer.ensures.0 in
    let P : List ℕ → Type 0 = λ bytes. Drawn (g.S.Source.words c.args.self.now.source.now) c.args.question bytes c.args.self.now.place c.draw.result in
    subst P (c.written.ensures ∙ all) c.draw.ensures

use Rattle.std.proofs.Common.{sym, subst}
use Rattle.posting.proofs.Appending.{appended_both, appended_none}
use Rattle.posting.proofs.codes.CodeWriter.commitments.Goals as goal
use Rattle.posting.specs.Commitments.{commitment_points}
use Rattle.posting.specs.Posting.{Appended}

pub returns-in-None : goal.returns-in-None
returns-in-None g c =
    let G = g.G.Group.operations in
    let self = c.args.self.now in
    let P : _ → Type 0 = λ k. Appended G (commitment_points g.G.Group.point k) self.end self.end self.buffer.now self.buffer.now in
    subst P (sym c.in-None.is) (appended_none G self.end self.buffer.now)

pub returns-in-Two : goal.returns-in-Two
returns-in-Two g c =
    let self = c.args.self.now in
    let done = c.element-in-Two-2.new.self in
    let P : _ → Type 0 = λ k. Appended g.G.Group.operations (commitment_points g.G.Group.point k) self.end done.end self.buffer.now done.buffer.now in
    subst P (sym c.in-Two.is) (appended_both c.element-in-Two.ensures.codes c.element-in-Two-2.ensures.codes)

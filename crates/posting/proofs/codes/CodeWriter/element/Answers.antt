use Rattle.std.proofs.Common.{◌≡◌, ◌+◌, ◌++◌, length, take, sym, ap, ◌∙◌, arith}
use Rattle.std.proofs.lemmas.Slice.{take-put_mid}
use Rattle.posting.proofs.Appending.{codes_one, written_fits}
use Rattle.posting.proofs.codes.CodeWriter.element.Goals as goal

pub returns-clause-codes : goal.returns-clause-codes
returns-clause-codes g c =
    let G = g.G.Group.operations in
    let x = g.G.Group.point c.args.element in
    let self = c.args.self.now in
    let width = c.WIDTH.ensures ∙ g.met.G.Group.wide in
    let is : c.write.new.out ≡ G.code x = written_fits G.width _ _ _ c.write.result c.write.ensures (omega (arith, c.requires)) in
    let long : length c.write.new.out ≡ G.width = ap length is ∙ g.G.Group.laws.code_length x in
    record {
      ends = omega arith;
      bytes =
          take-put_mid self.end _ self.buffer.now c.write.new.out (self.end + c.WIDTH.result) (omega arith) (omega (arith, c.requires))
          ∙ ap (λ ys. take self.end self.buffer.now ++ ys) (is ∙ sym (codes_one G x));
    }

use Rattle.std.proofs.Common.{Some, vec_items, sym, ap, ◌∙◌}
use Rattle.roundfile.specs.Reading.{place}
use Rattle.kinds.specs.declared.GroupKind.TheVariants.{ResiduesModulo23, BinaryPolynomials}
use Rattle.roundcheck.proofs.Failing.{mapped_ok}
use Rattle.roundcheck.proofs.Openings.{finished_whole}
use Rattle.roundcheck.proofs.round.finish_behind.Goals as goal

pub returns-in-ResiduesModulo23 : goal.returns-in-ResiduesModulo23
returns-in-ResiduesModulo23 g c =
    let named = rw (mapped_ok c.try_from.result c.map_err.result _ _ c.map_err.ensures.cases c.in_ok-map_err.was) at c.try_from.ensures in
    finished_whole c.args.file.now (place c.in_ok-reader.reader) c.in_ok-offset.offset c.in_ok-offset.opening (place c.next_opening.new.reader) ResiduesModulo23
    (vec_items c.args.lines.now) (vec_items c.finish_in.new.lines) (g.F.Finish.answers c.args.end) (g.F.Finish.refuses c.args.end)
    (sym c.in_ok-reader.ensures.opens) c.in_ok-offset.ensures (named ∙ ap Some c.in-ResiduesModulo23.is) c.finish_in.result c.finish_in.ensures

pub returns-in-BinaryPolynomials : goal.returns-in-BinaryPolynomials
returns-in-BinaryPolynomials g c =
    let named = rw (mapped_ok c.try_from.result c.map_err.result _ _ c.map_err.ensures.cases c.in_ok-map_err.was) at c.try_from.ensures in
    finished_whole c.args.file.now (place c.in_ok-reader.reader) c.in_ok-offset.offset c.in_ok-offset.opening (place c.next_opening.new.reader) BinaryPolynomials
    (vec_items c.args.lines.now) (vec_items c.finish_in-in-BinaryPolynomials.new.lines) (g.F.Finish.answers c.args.end) (g.F.Finish.refuses c.args.end)
    (sym c.in_ok-reader.ensures.opens) c.in_ok-offset.ensures (named ∙ ap Some c.in-BinaryPolynomials.is) c.finish_in-in-BinaryPolynomials.result c.finish_in-in-BinaryPolynomials.ensures

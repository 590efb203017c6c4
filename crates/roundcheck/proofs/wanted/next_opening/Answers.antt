use Rattle.std.proofs.lemmas.Result.{err_from_is_err_and}
use Rattle.roundcheck.proofs.Reading.{none_for_opening}
use Rattle.roundcheck.proofs.wanted.next_opening.Goals as goal

pub returns-in_err-offset : goal.returns-in_err-offset
returns-in_err-offset c =
    let e = err_from_is_err_and c.from_residual.result c.from_residual.ensures.1 in
    rw (e.1, e.2) (none_for_opening _ _ c.in_err-offset.ensures)

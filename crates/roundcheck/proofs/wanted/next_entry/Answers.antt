use Rattle.std.proofs.lemmas.Result.{err_from_is_err_and}
use Rattle.roundcheck.proofs.Reading.{none_refused, one_wanted}
use Rattle.roundcheck.proofs.wanted.next_entry.Goals as goal

pub returns-in_err-next_record : goal.returns-in_err-next_record
returns-in_err-next_record c =
    let e = err_from_is_err_and c.from_residual.result c.from_residual.ensures.1 in
    rw (e.1, e.2) (none_refused _ _ c.in_err-next_record.ensures.gives)

pub returns : goal.returns
returns c =
    rw c.ok_or.ensures.value (one_wanted _ _ _ _ _ c.in_ok-next_record.ensures.gives c.in_ok-next_record.ensures.leaves c.at.ensures)

use Rattle.std.proofs.Common.{refl}
use Rattle.std.proofs.lemmas.Result.{err_from_is_err_and}
use Rattle.ucl_io.proofs.Turns.{answered_one, stopped_one, stopped_short}
use Rattle.ucl_io.proofs.lines.LineBuffer.end_line.Goals as goal

pub returns-in-Ok-clause-answered : goal.returns-in-Ok-clause-answered
returns-in-Ok-clause-answered g c =
    answered_one _ _ _ _ c.put.result refl (rw c.whole_line-line.ensures at c.in-Ok.ensures.answers) (rw c.text.ensures at c.put.ensures)

pub returns-in_err-flush-in-Err-clause-answered : goal.returns-in_err-flush-in-Err-clause-answered
returns-in_err-flush-in-Err-clause-answered g c =
    let p = err_from_is_err_and c.from_residual.result c.from_residual.ensures.1 in
    rw (p.1, p.2) (stopped_short _ _ _ _ _ (rw c.whole_line-line.ensures at c.in-Err.ensures.stops) c.in_err-flush-in-Err.ensures.put)

pub returns-in_ok-flush-in-Err-clause-answered : goal.returns-in_ok-flush-in-Err-clause-answered
returns-in_ok-flush-in-Err-clause-answered g c =
    stopped_one _ _ _ _ (rw c.whole_line-line.ensures at c.in-Err.ensures.stops) c.in_ok-flush-in-Err.ensures.put c.in_ok-flush-in-Err.ensures.empty

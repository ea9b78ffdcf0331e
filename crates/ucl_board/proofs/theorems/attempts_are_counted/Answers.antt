use Rattle.ucl_board.proofs.HistoryTheorems.{attempts_counted}
use Rattle.ucl_board.proofs.theorems.attempts_are_counted.Goals as goal

pub returns : goal.returns
returns c = attempts_counted

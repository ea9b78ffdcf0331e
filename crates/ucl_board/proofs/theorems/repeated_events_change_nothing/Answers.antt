use Rattle.ucl_board.proofs.HistoryTheorems.{repeats}
use Rattle.ucl_board.proofs.theorems.repeated_events_change_nothing.Goals as goal

pub returns : goal.returns
returns c = repeats

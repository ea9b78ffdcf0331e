use Rattle.ucl_board.proofs.HistoryTheorems.{go_stale}
use Rattle.ucl_board.proofs.theorems.accepted_events_go_stale.Goals as goal

pub returns : goal.returns
returns c = go_stale

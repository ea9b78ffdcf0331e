use Rattle.ucl_board.proofs.HistoryTheorems.{go_on}
use Rattle.ucl_board.proofs.theorems.boards_go_on.Goals as goal

pub returns : goal.returns
returns c = go_on

use Rattle.ucl_board.proofs.HistoryTheorems.{versions}
use Rattle.ucl_board.proofs.theorems.versions_are_lengths.Goals as goal

pub returns : goal.returns
returns c = versions

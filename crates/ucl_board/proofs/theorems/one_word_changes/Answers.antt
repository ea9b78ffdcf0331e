use Rattle.ucl_board.proofs.HistoryTheorems.{one_word}
use Rattle.ucl_board.proofs.theorems.one_word_changes.Goals as goal

pub returns : goal.returns
returns c = one_word

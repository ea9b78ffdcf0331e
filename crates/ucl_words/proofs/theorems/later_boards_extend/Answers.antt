use Rattle.ucl_words.proofs.Boards.{later_go_on}
use Rattle.ucl_words.proofs.theorems.later_boards_extend.Goals as goal

pub returns : goal.returns
returns c = later_go_on

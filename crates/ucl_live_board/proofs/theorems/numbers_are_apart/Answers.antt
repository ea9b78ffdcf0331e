use Rattle.ucl_live_board.proofs.LogFacts.{board_facts}
use Rattle.ucl_live_board.proofs.theorems.numbers_are_apart.Goals as goal

pub returns : goal.returns
returns g c = board_facts g.B.BoardRule.words_after g.B.BoardRule.may

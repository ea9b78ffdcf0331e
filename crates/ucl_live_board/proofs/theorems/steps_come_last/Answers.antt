use Rattle.ucl_live_board.proofs.LogFacts.{steps_last}
use Rattle.ucl_live_board.proofs.theorems.steps_come_last.Goals as goal

pub returns : goal.returns
returns g c = steps_last g.B.BoardRule.words_after g.B.BoardRule.may

use Rattle.ucl_live_board.proofs.LogFacts.{last_sees_all}
use Rattle.ucl_live_board.proofs.theorems.last_steps_see_all.Goals as goal

pub returns : goal.returns
returns g c = last_sees_all g.B.BoardRule.words_after g.B.BoardRule.may

use Rattle.ucl_live_board.proofs.Alone.{whole_is_alone}
use Rattle.ucl_live_board.proofs.theorems.whole_is_alone.Goals as goal

pub returns : goal.returns
returns g c = whole_is_alone g.B.BoardRule.words_after g.B.BoardRule.may

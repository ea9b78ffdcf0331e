use Rattle.ucl_live_board.proofs.LogFacts.{did_all}
use Rattle.ucl_live_board.proofs.theorems.holders_did_all.Goals as goal

pub returns : goal.returns
returns g c = did_all g.B.BoardRule.words_after g.B.BoardRule.may

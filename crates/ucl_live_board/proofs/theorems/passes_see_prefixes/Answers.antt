use Rattle.ucl_live_board.proofs.LogFacts.{see_prefixes}
use Rattle.ucl_live_board.proofs.theorems.passes_see_prefixes.Goals as goal

pub returns : goal.returns
returns g c = see_prefixes g.B.BoardRule.words_after g.B.BoardRule.may

use Rattle.ucl_live_board.proofs.LogFacts.{count_reporters}
use Rattle.ucl_live_board.proofs.theorems.words_count_reporters.Goals as goal

pub returns : goal.returns
returns g c = count_reporters g.B.BoardRule.words_after g.B.BoardRule.may

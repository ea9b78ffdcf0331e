use Rattle.ucl_words.proofs.Boards.{counts_find, enlists_find}
use Rattle.ucl_words.proofs.theorems.numbers_are_there.Goals as goal

pub returns-clause-counts : goal.returns-clause-counts
returns-clause-counts g c = counts_find g.K.Asking.seat

pub returns-clause-enlists : goal.returns-clause-enlists
returns-clause-enlists g c = enlists_find g.K.Asking.seat

use Rattle.ucl_words.proofs.Boards.{numbers_rise}
use Rattle.ucl_words.proofs.theorems.numbers_rise_in_time.Goals as goal

pub returns : goal.returns
returns c = numbers_rise

use Rattle.ucl_word.proofs.FirstWords.{first_tested, read_valid, word_tested}
use Rattle.ucl_word.proofs.theorems.words_are_tested.Goals as goal

pub returns : goal.returns
returns c = record { present = word_tested; first = first_tested; read = read_valid }

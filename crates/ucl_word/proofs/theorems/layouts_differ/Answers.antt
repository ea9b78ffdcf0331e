use Rattle.ucl_word.proofs.FirstWords.{layouts_apart}
use Rattle.ucl_word.proofs.theorems.layouts_differ.Goals as goal

pub returns : goal.returns
returns c = layouts_apart

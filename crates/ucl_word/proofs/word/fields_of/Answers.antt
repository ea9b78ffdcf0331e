use Rattle.ucl_word.proofs.Common.{record_at}
use Rattle.ucl_word.proofs.word.fields_of.Goals as goal

pub returns : goal.returns
unfolding record_at
returns c = cc

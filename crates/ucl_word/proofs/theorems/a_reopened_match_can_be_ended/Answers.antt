use Rattle.ucl_word.proofs.AcceptedEvents.{ends_again}
use Rattle.ucl_word.proofs.theorems.a_reopened_match_can_be_ended.Goals as goal

pub returns : goal.returns
returns c = ends_again

use Rattle.ucl_words.proofs.Common.{words_after, IsNextOfProtocol}
use Rattle.ucl_live_board.proofs.StepFacts.{one_more}
use Rattle.ucl_words.proofs.theorems.each_step_is_logged.Goals as goal

pub returns : goal.returns
returns g c = record {
  looks = λ st m n m' s. one_more words_after IsNextOfProtocol _ _ m.0 m'.0 s;
  first = λ st m n m' s. one_more words_after IsNextOfProtocol s.0 _ m.0 m'.0 s.1;
  second = λ st m n m' s. one_more words_after IsNextOfProtocol _ _ m.0 m'.0 s;
  swaps = λ st m n m' s. one_more words_after IsNextOfProtocol _ _ m.0 m'.0 s;
  counts = λ st m n m' s. one_more words_after IsNextOfProtocol _ _ m.0 m'.0 s.1;
  enlists = λ st m n m' s. one_more words_after IsNextOfProtocol _ _ m.0 m'.0 s.1;
}

use Rattle.ucl_words.proofs.OwnPasses.{split_own}
use Rattle.ucl_words.proofs.live_words.WordBoardLiveBoard.split.Goals as goal

pub returns-clause-own : goal.returns-clause-own
returns-clause-own g c = split_own c.args.self.now _ _ _ c.requires c.split_now.ensures

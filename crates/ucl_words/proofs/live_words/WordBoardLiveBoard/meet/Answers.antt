use Rattle.ucl_words.proofs.OwnPasses.{met_own}
use Rattle.ucl_words.proofs.live_words.WordBoardLiveBoard.meet.Goals as goal

pub returns-clause-own : goal.returns-clause-own
returns-clause-own g c = met_own c.args.self.now _ _ _ _ c.requires c.meet_now.ensures

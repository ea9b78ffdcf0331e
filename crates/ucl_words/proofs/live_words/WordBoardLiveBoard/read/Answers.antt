use Rattle.ucl_words.proofs.OwnPasses.{own_after}
use Rattle.ucl_words.proofs.live_words.WordBoardLiveBoard.read.Goals as goal

pub returns-clause-own : goal.returns-clause-own
returns-clause-own g c = own_after c.args.self.now c.args.pass.now c.read_now.new.pass c.requires c.read_now.ensures.own c.read_now.ensures.occurs

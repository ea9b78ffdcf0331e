use Rattle.std.proofs.lemmas.Result.{MatchResult-weaker}
use Rattle.ucl_live_board.specs.declared.errors.TooManyReporters.{TooManyReporters}
use Rattle.ucl_words.specs.WordViews.{WordPass}
use Rattle.ucl_words.specs.WordRecords.{WordEnlisted, WordFull}
use Rattle.ucl_words.proofs.OwnPasses.{own_after}
use Rattle.ucl_words.proofs.live_words.WordBoardLiveBoard.enlist.Goals as goal

pub returns-clause-own : goal.returns-clause-own
returns-clause-own g c = MatchResult-weaker _ c.enlist_now.ensures
    (λ enlisted (is : WordEnlisted c.args.pass enlisted). own_after c.args.self.now c.args.pass enlisted c.requires is.own is.occurs)
    (λ (full : TooManyReporters WordPass) (is : WordFull c.args.pass full.0). own_after c.args.self.now c.args.pass full.0 c.requires is.own is.occurs)

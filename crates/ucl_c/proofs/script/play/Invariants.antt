use Rattle.std.proofs.Common.{◌≡◌, ◌+◌, [], ◌∷◌, take}
use Rattle.ucl_screen.proofs.EventsInTurn.{AreEntered}
use Rattle.ucl_c.specs.Replies.{reply_after}
use Rattle.ucl_c.proofs.script.play.Given as goal

abbrev pub invariant-loop-i : goal.invariant-loop-i
invariant-loop-i l = record {
  row_is : l.row ≡ 5 + l.i;
  so_far : AreEntered (λ row history event. reply_after row history event ∷ []) l.events l.i l.row l.board l.version (take l.i l.replies);
}

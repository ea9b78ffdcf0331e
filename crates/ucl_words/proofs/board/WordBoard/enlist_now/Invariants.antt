use Rattle.ucl_words.proofs.Common.{◌≡◌, ◌-◌, ◌≤◌, ◌⊎◌, Occurs, DoneAsBefore}
use Rattle.ucl_words.proofs.Boards.{Missed}
use Rattle.ucl_live_board.specs.Steps.{no_call}
use Rattle.ucl_words.proofs.board.WordBoard.enlist_now.Given as goal

abbrev pub invariant-tries : goal.invariant-tries
invariant-tries l = record {
  same : l.seat.table_id ≡ l.initial.seat.table_id;
  place : l.seat.id ≡ l.initial.seat.id;
  bound : l.known ≤ 255;
  missed : Missed l.initial.seat.me.0 l.seat.me.0 l.known;
  does : DoneAsBefore l.initial.seat.me.0 l.seat.me.0;
  occurs : (l.known ≡ 0) ⊎ Occurs l.seat.id l.seat.me.0;
}

abbrev pub decreases-tries : goal.decreases-tries
decreases-tries l = 255 - l.known

abbrev pub ghosts-add_reporter : goal.ghosts-add_reporter
ghosts-add_reporter a = record { call = no_call; seat = a.seat.now.id }

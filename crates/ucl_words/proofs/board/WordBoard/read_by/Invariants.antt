use Rattle.ucl_words.proofs.Common.{history_of, ◌≡◌, ◌-◌, length, max_tries}
use Rattle.ucl_words.proofs.LocalStates.{Tries}
use Rattle.ucl_words.proofs.Readings.{Tried}
use Rattle.ucl_words.proofs.board.WordBoard.read_by.Given as goal

abbrev pub invariant-tries : goal.invariant-tries
invariant-tries l = record {
  same : l.seat.table_id ≡ l.fn.seat.table_id;
  place : l.seat.id ≡ l.fn.seat.id;
  tried : Tried l.fn.seat.me.0 l.seat.me.0;
  does : Tries l.fn.seat.me.0 l.seat.me.0;
}

-- each try that is not clean has seen a longer history, and no history is longer than this
abbrev pub decreases-tries : goal.decreases-tries
decreases-tries l = max_tries - length (history_of l.seat.me.0.log)

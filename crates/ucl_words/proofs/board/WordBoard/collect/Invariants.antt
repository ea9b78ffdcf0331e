use Rattle.ucl_words.proofs.Common.{◌≡◌, length, First}
use Rattle.ucl_words.proofs.LocalStates.{Firsts}
use Rattle.ucl_words.proofs.Readings.{Collected}
use Rattle.ucl_words.proofs.board.WordBoard.collect.Given as goal

abbrev pub invariant-loop-i : goal.invariant-loop-i
invariant-loop-i l = record {
  same : l.seat.table_id ≡ l.fn.seat.table_id;
  place : l.seat.id ≡ l.fn.seat.id;
  long : length l.words ≡ 12;
  collected : Collected First l.fn.seat.me.0 l.words l.i l.seat.me.0;
  does : Firsts l.fn.seat.me.0 l.words l.i l.seat.me.0;
}

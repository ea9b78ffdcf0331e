use Rattle.ucl_screen.proofs.Common.{length, take, words_from, ◌-◌, ◌≡◌}
use Rattle.ucl_screen.specs.RowsAhead.{IsOpen, rows_ahead}
use Rattle.ucl_screen.proofs.RowFacts.{with_front}
use Rattle.ucl_screen.proofs.reading.words_at.Given as goal

abbrev pub invariant-games : goal.invariant-games
invariant-games l = record {
  open_rows : IsOpen l.rows;
  twelve : length l.words ≡ 12;
  so_far : with_front (take (l.game - 1) l.words) (words_from (13 - l.game) l.game (rows_ahead l.rows)) ≡ words_from 12 1 (rows_ahead l.initial.rows);
}

use Rattle.ucl_screen.proofs.Common.{events_from, length, ◌+◌, ◌≡◌, ◌≤◌}
use Rattle.ucl_screen.specs.RowsAhead.{IsOpen, rows_ahead}
use Rattle.ucl_screen.proofs.RowFacts.{with_front}
use Rattle.ucl_screen.proofs.reading.events_at.Given as goal

abbrev pub invariant-rows : goal.invariant-rows
invariant-rows l = record {
  open_rows : IsOpen l.rows;
  counted : l.number ≡ 5 + length l.events.items;
  few : l.number + length (rows_ahead l.rows) ≤ 4194309;
  so_far : with_front l.events.items (events_from l.number (rows_ahead l.rows)) ≡ events_from 5 (rows_ahead l.initial.rows);
}

abbrev pub decreases-rows : goal.decreases-rows
decreases-rows l = length (rows_ahead l.rows)

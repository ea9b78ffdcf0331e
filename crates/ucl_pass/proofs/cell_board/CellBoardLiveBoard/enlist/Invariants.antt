use Rattle.ucl_pass.proofs.Common.{◌≡◌, cell_view}
use Rattle.ucl_pass.specs.CellCalls.{HasNumberLeft}
use Rattle.ucl_pass.proofs.CallsBySteps.{Tried}
use Rattle.ucl_pass.proofs.cell_board.CellBoardLiveBoard.enlist.Given as goal

abbrev pub invariant-retry : goal.invariant-retry
invariant-retry g l = record {
  can : (goal.iterator-retry g).can_next l.iterator';
  ends : (goal.iterator-retry g).is_finite l.iterator';
  own : l.seat.table_id ≡ l.initial.seat.table_id;
  tried : Tried HasNumberLeft (cell_view l.initial.seat) (cell_view l.seat);
}

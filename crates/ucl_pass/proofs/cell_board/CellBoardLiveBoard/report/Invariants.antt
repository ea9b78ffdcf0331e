use Rattle.ucl_pass.proofs.Common.{◌≡◌, cell_view}
use Rattle.ucl_pass.specs.CellCalls.{Accepts}
use Rattle.ucl_pass.proofs.CallsBySteps.{Tried}
use Rattle.ucl_pass.proofs.cell_board.CellBoardLiveBoard.report.Given as goal

abbrev pub invariant-retry : goal.invariant-retry
invariant-retry g l = record {
  can : (goal.iterator-retry g).can_next l.iterator';
  ends : (goal.iterator-retry g).is_finite l.iterator';
  own : l.pass-inside.seat.table_id ≡ l.initial.pass-inside.seat.table_id;
  number : l.pass-inside.number ≡ l.initial.pass-inside.number;
  accepted : l.pass-inside.accepted ≡ l.initial.pass-inside.accepted;
  tried : Tried (Accepts l.call) (cell_view l.initial.pass-inside.seat) (cell_view l.pass-inside.seat);
}

abbrev pub ghosts-store_event : goal.ghosts-store_event
ghosts-store_event g a = record { call = a.call.now; seat = 0 }

use Rattle.ucl_runs.proofs.Common.{HasReported, calls_of, drop}
use Rattle.ucl_runs.proofs.workers.enter_rows.Given as goal

abbrev pub invariant-loop-row : goal.invariant-loop-row
invariant-loop-row g l =
    let live = g.B.LiveBoard in
    record {
      own : live.is_reporter l.board l.pass;
      entered : (end : g.row.B-ReporterPass.Denot) → HasReported live (calls_of l.reporter (drop l.row-index l.rows)) l.pass end
          → HasReported live (calls_of l.reporter l.rows) l.initial.pass end;
    }

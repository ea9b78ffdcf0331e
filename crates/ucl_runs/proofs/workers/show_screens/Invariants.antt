use Rattle.ucl_runs.proofs.Common.{HasShown, option_map, string_bytes, styled}
use Rattle.ucl_runs.proofs.workers.show_screens.Given as goal

abbrev pub invariant-loop-call : goal.invariant-loop-call
invariant-loop-call g l =
    let style = styled l.profile l.night.roster l.group in
    let known = g.B.LiveBoard.reader l.pass in
    record {
      own : g.B.LiveBoard.is_reader l.board l.pass;
      shown : HasShown style (g.B.LiveBoard.reader l.initial.pass) known l.call (option_map string_bytes l.last);
    }

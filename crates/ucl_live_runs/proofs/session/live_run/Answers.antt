use Rattle.ucl_live_runs.proofs.Common.{err_from_is_err_and}
use Rattle.ucl_live_runs.proofs.Runs.{ends, fails, session_drives}
use Rattle.ucl_live_runs.proofs.session.live_run.Goals as goal

pub returns-in_err-serve_lines : goal.returns-in_err-serve_lines
returns-in_err-serve_lines g c =
    let p = err_from_is_err_and c.from_residual.result c.from_residual.ensures.1 in
    rw (p.1, p.2, ← c.new-session.ensures)
    (fails (session_drives c.new-session.result) g.S.Source g.W.Sink c.args.logged_io.now c.serve_lines.new.logged_io c.serve_lines.new.handler c.in_err-serve_lines.field-0.0
    c.in_err-serve_lines.ensures.served c.in_err-serve_lines.ensures.read_failed)

pub returns : goal.returns
returns g c =
    rw (← c.new-session.ensures)
    (ends (session_drives c.new-session.result) g.S.Source g.W.Sink c.args.logged_io.now c.serve_lines.new.logged_io c.serve_lines.new.handler _
    c.in_ok-serve_lines.ensures.served c.in_ok-serve_lines.ensures.read_failed)

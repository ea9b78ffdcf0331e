use Rattle.ucl_live_runs.proofs.Common.{err_from_is_err_and}
use Rattle.ucl_live_runs.proofs.Runs.{ends, fails, follow_drives}
use Rattle.ucl_live_runs.proofs.follower.follow_run.Goals as goal

pub returns-in_err-serve_lines : goal.returns-in_err-serve_lines
returns-in_err-serve_lines g c =
    let fresh = c.new-follower.ensures in
    let p = err_from_is_err_and c.from_residual.result c.from_residual.ensures.1 in
    rw (p.1, p.2)
    (fails (follow_drives _ g.T.Sink c.args.args c.new-follower.result fresh.follow_state fresh.shape) g.S.Source g.W.Sink c.args.logged_io.now c.serve_lines.new.logged_io
    c.serve_lines.new.handler c.in_err-serve_lines.field-0.0 c.in_err-serve_lines.ensures.served c.in_err-serve_lines.ensures.read_failed)

pub returns : goal.returns
returns g c =
    let fresh = c.new-follower.ensures in
    ends (follow_drives _ g.T.Sink c.args.args c.new-follower.result fresh.follow_state fresh.shape) g.S.Source g.W.Sink c.args.logged_io.now c.serve_lines.new.logged_io
    c.serve_lines.new.handler _ c.in_ok-serve_lines.ensures.served c.in_ok-serve_lines.ensures.read_failed

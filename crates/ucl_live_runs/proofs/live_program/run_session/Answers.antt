-- Each goal is found by search. They are written down so that a mutant is refused at the arm that it breaks.
use Rattle.ucl_live_runs.proofs.Common.{rules}
use Rattle.ucl_live_runs.proofs.live_program.run_session.Goals as goal

pub returns-in-Ok : goal.returns-in-Ok
returns-in-Ok g c = search rules

pub returns-in-Err : goal.returns-in-Err
returns-in-Err g c = search rules

use Rattle.ucl_steps.proofs.RunLinear.{run_linear, run_whole}
use Rattle.ucl_steps.proofs.theorems.runs_are_linearizable.Goals as goal

pub returns : goal.returns
returns c = record { linearizable = run_linear; whole = run_whole }

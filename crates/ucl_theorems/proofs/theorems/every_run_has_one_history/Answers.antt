use Rattle.ucl_steps.proofs.RunLinear.{run_linear}
use Rattle.ucl_theorems.proofs.Screens.{screens_show}
use Rattle.ucl_theorems.proofs.theorems.every_run_has_one_history.Goals as goal

pub returns : goal.returns
returns c = record { history = run_linear; screens = screens_show }

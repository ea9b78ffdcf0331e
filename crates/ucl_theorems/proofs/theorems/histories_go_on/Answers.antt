use Rattle.ucl_theorems.proofs.Screens.{histories_go}
use Rattle.ucl_theorems.proofs.theorems.histories_go_on.Goals as goal

pub returns : goal.returns
returns c = histories_go

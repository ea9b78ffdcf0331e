use Rattle.ucl_theorems.proofs.Screens.{boards_have, screens_show}
use Rattle.ucl_theorems.proofs.theorems.boards_have_one_history.Goals as goal

pub returns : goal.returns
returns c = record { history = boards_have; screens = screens_show }

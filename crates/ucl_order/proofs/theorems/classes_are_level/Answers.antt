use Rattle.ucl_order.proofs.Classes.{split_are}
use Rattle.ucl_order.proofs.theorems.classes_are_level.Goals as goal

pub returns : goal.returns
returns c = split_are

use Rattle.ucl_order.proofs.TieBreaks.{order_unique}
use Rattle.ucl_order.proofs.theorems.order_is_unique.Goals as goal

pub returns : goal.returns
returns c = order_unique

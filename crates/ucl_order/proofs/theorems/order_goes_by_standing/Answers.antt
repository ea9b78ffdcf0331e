use Rattle.ucl_order.proofs.TieBreaks.{by_standing}
use Rattle.ucl_order.proofs.theorems.order_goes_by_standing.Goals as goal

pub returns : goal.returns
returns c = by_standing

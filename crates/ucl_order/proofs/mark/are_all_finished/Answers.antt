use Rattle.ucl_order.proofs.Common.{totals}
use Rattle.ucl_order.proofs.States.{all_six}
use Rattle.ucl_order.proofs.mark.are_all_finished.Goals as goal

pub returns : goal.returns
unfolding totals
returns c ms pairs six is = rw is (all_six ms pairs six)

use Rattle.ucl_order.proofs.Coefficients.{table-same}
use Rattle.ucl_order.proofs.theorems.table_goes_by_coefficients.Goals as goal

pub returns : goal.returns
returns c = table-same

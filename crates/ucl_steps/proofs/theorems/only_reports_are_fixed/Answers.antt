use Rattle.ucl_steps.proofs.BoardObject.{write_strong}
use Rattle.ucl_steps.proofs.Strong.{not_strong}
use Rattle.ucl_steps.proofs.theorems.only_reports_are_fixed.Goals as goal

pub returns : goal.returns
returns c = record { reports = write_strong; readings = not_strong }

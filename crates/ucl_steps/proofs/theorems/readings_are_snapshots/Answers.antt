use Rattle.ucl_steps.proofs.Accesses.{reading_whole}
use Rattle.ucl_steps.proofs.theorems.readings_are_snapshots.Goals as goal

pub returns : goal.returns
returns c = reading_whole

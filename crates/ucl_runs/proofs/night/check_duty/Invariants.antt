use Rattle.ucl_runs.proofs.Common.{All, IsOnDuty, take}
use Rattle.ucl_runs.proofs.night.check_duty.Given as goal

abbrev pub invariant-loop-index : goal.invariant-loop-index
invariant-loop-index l = All IsOnDuty (take l.index l.rows)

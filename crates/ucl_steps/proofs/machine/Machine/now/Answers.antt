use Rattle.ucl_steps.proofs.Common.{arith, state_of}
use Rattle.ucl_steps.proofs.Reachable.{reached_short}
use Rattle.ucl_steps.proofs.machine.Machine.now.Goals as goal

pub overflow_cast-result : goal.overflow_cast-result
overflow_cast-result c = let short = reached_short (state_of c.args.self.now) c.requires in let is = c.len.ensures in omega arith

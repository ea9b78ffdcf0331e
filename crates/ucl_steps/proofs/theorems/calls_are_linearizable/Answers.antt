use Rattle.ucl_steps.proofs.BoardObject.{calls_linearizable}
use Rattle.ucl_steps.proofs.theorems.calls_are_linearizable.Goals as goal

pub returns : goal.returns
returns c = calls_linearizable

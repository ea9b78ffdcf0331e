use Rattle.std.proofs.Common.{arith}
use Rattle.ucl_steps.proofs.Reachable.{held_reporter, held_reader, held_at, held_past}
use Rattle.ucl_steps.proofs.machine.Machine.held.Goals.{else-reader-gt0-via-then-reader-gt0+else-from-len, else-reader-gt0-via-else-reader-gt0}
use Rattle.ucl_steps.proofs.machine.Machine.held.Goals as goal

pub returns-then-at-len : goal.returns-then-at-len
returns-then-at-len c = search (arith, held_at, held_reporter)

pub returns-else-at-len : goal.returns-else-at-len
returns-else-at-len c = search (arith, held_past, held_reporter)

pub returns-then-from-len : goal.returns-then-from-len
returns-then-from-len c = search (arith, held_at, held_reader)

pub returns-else-reader-gt0 : goal.returns-else-reader-gt0
returns-else-reader-gt0 c =
    search (arith, else-reader-gt0-via-then-reader-gt0+else-from-len, held_past, held_reader, else-reader-gt0-via-else-reader-gt0)

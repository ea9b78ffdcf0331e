use Rattle.std.proofs.Common.{◌≡◌}
use Rattle.ucl_example.proofs.enter.Given as goal

abbrev pub invariant-loop-row : goal.invariant-loop-row
invariant-loop-row l = l.pass.board ≡ l.fn.board

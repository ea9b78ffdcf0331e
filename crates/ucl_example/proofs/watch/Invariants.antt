use Rattle.std.proofs.Common.{◌≡◌}
use Rattle.ucl_example.proofs.watch.Given as goal

abbrev pub invariant-loop : goal.invariant-loop
invariant-loop g l = l.pass.board ≡ l.fn.board

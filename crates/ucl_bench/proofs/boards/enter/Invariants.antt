use Rattle.ucl_bench.proofs.boards.enter.Given as goal

abbrev pub invariant-loop-call : goal.invariant-loop-call
invariant-loop-call g l = g.B.LiveBoard.is_reporter l.fn.board l.pass

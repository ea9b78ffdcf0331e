use Rattle.ucl_bench.proofs.nights.enter_own.Given as goal

abbrev pub invariant-loop-call : goal.invariant-loop-call
invariant-loop-call g l = g.B.LiveBoard.is_reporter l.fn.board l.pass

use Rattle.ucl_tests.proofs.boards.enter_all.Given as goal

abbrev pub invariant-loop-expected : goal.invariant-loop-expected
invariant-loop-expected g l = g.B.LiveBoard.is_reporter l.fn.board l.pass

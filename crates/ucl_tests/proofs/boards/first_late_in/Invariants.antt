use Rattle.ucl_tests.proofs.boards.first_late_in.Given as goal

abbrev pub invariant-loop-code : goal.invariant-loop-code
invariant-loop-code g l = g.B.LiveBoard.is_reporter l.fn.board l.pass

use Rattle.ucl_tests.proofs.boards.first_other.Given as goal

abbrev pub invariant-loop-expected : goal.invariant-loop-expected
invariant-loop-expected g l = g.B.LiveBoard.is_reporter l.fn.board l.pass

use Rattle.ucl_tests.proofs.boards.enter_round.Given as goal

abbrev pub invariant-loop-number : goal.invariant-loop-number
invariant-loop-number g l = g.B.LiveBoard.is_reporter l.fn.board l.pass

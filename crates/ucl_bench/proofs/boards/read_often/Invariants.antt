use Rattle.ucl_bench.proofs.boards.read_often.Given as goal

abbrev pub invariant-loop-turn : goal.invariant-loop-turn
invariant-loop-turn g l = g.B.LiveBoard.is_reader l.fn.board l.pass

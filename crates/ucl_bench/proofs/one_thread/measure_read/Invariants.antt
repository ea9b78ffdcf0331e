use Rattle.ucl_bench.proofs.one_thread.measure_read.Given as goal

abbrev pub invariant-loop-round : goal.invariant-loop-round
invariant-loop-round g l = g.B.LiveBoard.is_reader l.board l.pass

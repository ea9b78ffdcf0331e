use Rattle.ucl_bench.proofs.one_thread.time_events.Given as goal

abbrev pub invariant-loop-chunk : goal.invariant-loop-chunk
invariant-loop-chunk g l = g.B.LiveBoard.is_reporter l.board l.reporter

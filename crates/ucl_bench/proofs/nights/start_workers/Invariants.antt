use Rattle.ucl_bench.proofs.nights.start_workers.Given as goal

abbrev pub invariant-loop-index : goal.invariant-loop-index
invariant-loop-index g l = g.B.LiveBoard.is_reader l.fn.board l.first

abbrev pub invariant-loop-reader : goal.invariant-loop-reader
invariant-loop-reader g l = g.B.LiveBoard.is_reader l.fn.board l.first

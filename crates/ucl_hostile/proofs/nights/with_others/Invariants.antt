use Rattle.ucl_hostile.proofs.nights.with_others.Given as goal

abbrev pub invariant-loop-other : goal.invariant-loop-other
invariant-loop-other g l = g.B.LiveBoard.is_reader l.fn.board l.pass

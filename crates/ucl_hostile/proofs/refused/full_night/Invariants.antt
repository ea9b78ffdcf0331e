use Rattle.ucl_hostile.proofs.refused.full_night.Given as goal

abbrev pub invariant-loop-number : goal.invariant-loop-number
invariant-loop-number g l = g.B.LiveBoard.is_reader l.fn.board l.pass

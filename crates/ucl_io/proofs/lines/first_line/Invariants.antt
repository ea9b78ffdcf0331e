use Rattle.ucl_io.proofs.Cuts.{NoFeedIn}
use Rattle.ucl_io.proofs.lines.first_line.Given as goal

abbrev pub invariant-loop-at : goal.invariant-loop-at
invariant-loop-at l = record { none : NoFeedIn l.text l.at }

use Rattle.ucl_screen.specs.PlainRows.{is_line_end}
use Rattle.ucl_screen.proofs.Common.{list_all, take, true, ◌≡◌}
use Rattle.ucl_screen.proofs.plain.ends_length.Given as goal

abbrev pub invariant-loop-at : goal.invariant-loop-at
invariant-loop-at l = record { ends : list_all is_line_end (take l.at l.text) ≡ true }

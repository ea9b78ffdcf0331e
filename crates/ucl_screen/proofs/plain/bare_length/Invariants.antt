use Rattle.ucl_screen.proofs.Common.{list_all, take, true, ◌≡◌}
use Rattle.ucl_screen.specs.PlainRows.{is_joining}
use Rattle.ucl_screen.proofs.plain.bare_length.Given as goal

abbrev pub invariant-loop-at : goal.invariant-loop-at
invariant-loop-at l = record { joining : list_all is_joining (take l.at l.text) ≡ true }

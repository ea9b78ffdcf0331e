use Rattle.ucl_screen.proofs.Common.{list_all, take, true, ◌≡◌}
use Rattle.ucl_screen.specs.PlainRows.{is_quotable}
use Rattle.ucl_screen.proofs.plain.quoted_length.Given as goal

abbrev pub invariant-loop-at : goal.invariant-loop-at
invariant-loop-at l = record { quotable : list_all is_quotable (take l.at l.text) ≡ true }

use Rattle.ucl_rows.proofs.Common.{is_printed, list_all, take, true, ◌≡◌, ◌≤◌}
use Rattle.ucl_rows.proofs.bad_row.shown_length.Given as goal

abbrev pub invariant-loop-at : goal.invariant-loop-at
invariant-loop-at l = record { few : l.at ≤ 64; printed : list_all is_printed (take l.at l.text) ≡ true }

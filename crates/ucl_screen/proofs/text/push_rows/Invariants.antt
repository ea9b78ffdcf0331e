use Rattle.ucl_screen.proofs.Common.{flat_map, row_line, string_bytes, take, ◌++◌, ◌≡◌}
use Rattle.ucl_screen.proofs.text.push_rows.Given as goal

abbrev pub invariant-loop-row : goal.invariant-loop-row
invariant-loop-row l = string_bytes l.out ≡ string_bytes l.initial.out ++ flat_map (row_line l.roster) (take l.row-index l.rows)

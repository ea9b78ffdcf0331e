use Rattle.ucl_screen.proofs.Common.{flat_map, match_line, match_numbers, string_bytes, take, ◌-◌, ◌≡◌}
use Rattle.ucl_screen.proofs.games.matches.Given as goal

abbrev pub invariant-loop-number : goal.invariant-loop-number
invariant-loop-number l = string_bytes l.text ≡ flat_map (match_line l.board l.roster) (take (l.number - 1) match_numbers)

use Rattle.ucl_order.proofs.Common.{All, HasScore, IsWithin, filter, is_level, map, match_at, match_numbers, results_of_clubs, take, ◌-◌}
use Rattle.ucl_order.proofs.Common.{◌≡◌}
use Rattle.ucl_order.proofs.results.Results.of_level.Given as goal

abbrev pub invariant-loop-number : goal.invariant-loop-number
invariant-loop-number l = record {
  are : l.results ≡ results_of_clubs (filter (is_level l.keys) (map (match_at l.board) (take (l.number - 1) match_numbers)));
  valid : All HasScore (map (match_at l.board) (take (l.number - 1) match_numbers));
  within : All (IsWithin (l.number - 1)) l.results;
}

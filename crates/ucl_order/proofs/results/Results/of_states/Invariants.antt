use Rattle.ucl_order.proofs.Common.{All, HasScore, IsWithin, counted, map, match_at, match_numbers, take, ◌-◌, ◌≡◌}
use Rattle.ucl_order.proofs.results.Results.of_states.Given as goal

abbrev pub invariant-loop-number : goal.invariant-loop-number
invariant-loop-number l = record {
  are : l.states ≡ counted (map (match_at l.board) (take (l.number - 1) match_numbers));
  valid : All HasScore (map (match_at l.board) (take (l.number - 1) match_numbers));
  within : All (All (IsWithin (l.number - 1))) l.states;
}

use Rattle.ucl_json.proofs.Common.{items_view, match_items, match_numbers, take, ◌-◌, ◌≡◌}
use Rattle.ucl_json.proofs.answer_parts.match_values.Given as goal

abbrev pub invariant-loop-number : goal.invariant-loop-number
invariant-loop-number l = items_view l.values.items ≡ match_items l.board (take (l.number - 1) match_numbers)

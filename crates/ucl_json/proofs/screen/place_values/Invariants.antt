use Rattle.ucl_json.proofs.Common.{items_view, place_items, take, ◌≡◌}
use Rattle.ucl_json.proofs.screen.place_values.Given as goal

abbrev pub invariant-loop-row : goal.invariant-loop-row
invariant-loop-row l = items_view l.values.items ≡ place_items l.roster (take l.row-index l.rows)

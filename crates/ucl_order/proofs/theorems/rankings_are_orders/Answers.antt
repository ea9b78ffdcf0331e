use Rattle.ucl_order.proofs.Classes.{by_points_total, head_to_head_total, overall_total}
use Rattle.ucl_order.proofs.TieBreaks.{overall_same}
use Rattle.ucl_order.proofs.theorems.rankings_are_orders.Goals as goal

pub returns : goal.returns
returns c profile ms roster = record {
  points = by_points_total ms;
  among_some = λ clubs. head_to_head_total profile ms clubs;
  by_all = overall_total ms roster;
  decided = λ a b h. overall_same ms roster a b h;
}

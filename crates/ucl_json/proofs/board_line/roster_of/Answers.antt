use Rattle.ucl_json.proofs.Common.{List, Value, ap, map, parse_roster, view, ◌∙◌}
use Rattle.ucl_json.proofs.Members.{just-four}
use Rattle.ucl_json.proofs.board_line.roster_of.Goals as goal

pub returns-in-len4 : goal.returns-in-len4
returns-in-len4 c =
    c.roster_of_four.ensures ∙ ap (λ (values : List Value). parse_roster (map view values))
    (just-four c.args.values.now c.first-item.result c.second-item.result c.third-item.result c.fourth-item.result c.in-len4.len_at_least c.in-len4.len_below
    c.first-item.is c.second-item.is c.third-item.is c.fourth-item.is)

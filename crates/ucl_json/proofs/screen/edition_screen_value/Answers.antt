use Rattle.ucl_json.proofs.Common.{array, codes, edition_screen_value, match_items, match_numbers, rules, the_lemmas, view, ◌≡◌}
use Rattle.serde_json.specs.declared.value.Value.TheVariants.{Array}
use Rattle.ucl_json.proofs.Places.{both_members}
use Rattle.ucl_json.proofs.screen.edition_screen_value.Goals as goal

pub returns : goal.returns
unfolding edition_screen_value
returns c =
    let matches : view (Array c.in_ok-match_values.field-0) ≡ array (match_items c.args.board.now match_numbers) = search (rules, the_lemmas) in
    both_members (codes "matches") (codes "edition") c.in_ok-with_member.ensures matches c.in_ok-dated.ensures (search rules) c.in_ok-screen.ensures

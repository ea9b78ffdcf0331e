use Rattle.ucl_json.proofs.Common.{codes, found_of, game_at, match_value, rules, view, ◌≡◌}
use Rattle.std.proofs.Common.{Some}
use Rattle.ucl_json.proofs.Places.{both_members}
use Rattle.ucl_json.proofs.reply.refused_value.Goals as goal

pub returns-in_ok-with_member-in-Some : goal.returns-in_ok-with_member-in-Some
returns-in_ok-with_member-in-Some c =
    let r = c.args.reply.now in
    let found : found_of c.args.refusal ≡ Some c.in-Some.found = search rules in
    let stands : view c.in_ok-stands-in-Some.stands ≡ match_value r.event.now.call.game (game_at r.board.now r.event.now.call.game) = search rules in
    rw found (both_members (codes "stands") (codes "number") c.in_ok-with_member-in-Some.ensures stands c.in_ok-numbered-in-Some.ensures (search rules) c.in_ok-coded.ensures)

use Rattle.ucl_json.proofs.Places.{screen_flat}
use Rattle.ucl_json.proofs.screen.screen_json.Goals as goal

pub format_line-requires : goal.format_line-requires
format_line-requires c = rw c.in_ok-value.ensures (screen_flat c.args.row c.args.profile c.args.board.now c.args.roster.now c.args.group)

use Rattle.ucl_json.proofs.Places.{edition_flat}
use Rattle.ucl_json.proofs.screen.edition_screen_json.Goals as goal

pub format_line-requires : goal.format_line-requires
format_line-requires c = rw c.in_ok-value.ensures (edition_flat c.args.row c.args.header c.args.board.now c.args.roster.now)

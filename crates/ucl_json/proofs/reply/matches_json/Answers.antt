use Rattle.ucl_json.proofs.Places.{matches_flat}
use Rattle.ucl_json.proofs.reply.matches_json.Goals as goal

pub format_line-requires : goal.format_line-requires
format_line-requires c = rw c.in_ok-value.ensures (matches_flat c.args.row c.args.board.now c.args.roster.now)

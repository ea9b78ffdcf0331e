use Rattle.ucl_json.proofs.Places.{words_value_flat}
use Rattle.ucl_json.proofs.reply.words_json.Goals as goal

pub format_line-requires : goal.format_line-requires
format_line-requires c = rw c.in_ok-value.ensures (words_value_flat c.args.row c.args.board.now)

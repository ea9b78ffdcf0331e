use Rattle.ucl_json.proofs.Common.{Err, Ok}
use Rattle.ucl_json.proofs.Places.{reply_flat}
use Rattle.ucl_json.proofs.reply.reply_json.Goals as goal
use Rattle.ucl_json.proofs.reply.reply_json.Goals.{in-Ok+in_ok-value-in-Ok, in-Err+in_ok-value-in-Err}

pub format_line-requires : goal.format_line-requires
format_line-requires c =
    let r = c.args.reply.now in elim c.match-outcome.branch [
      | in-Ok+in_ok-value-in-Ok w ↦ rw (w.value-is, w.in_ok-value-in-Ok.ensures) (reply_flat r.row r.event.now (Ok w.in-Ok.accepted) r.edition r.board.now)
      | in-Err+in_ok-value-in-Err w ↦ rw (w.value-is, w.in_ok-value-in-Err.ensures) (reply_flat r.row r.event.now (Err w.in-Err.refusal) r.edition r.board.now)
    ]

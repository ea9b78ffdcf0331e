use Rattle.ucl_command.proofs.Parses.{arg_added}
use Rattle.std.proofs.lemmas.Result.{IfOk-weaker}
use Rattle.ucl_command.proofs.live.command.Goals as goal

pub returns : goal.returns
returns c =
    let letters = c.group_option.ensures in
    let orders = c.order_option.ensures in
    let formats = c.format_option.ensures in
    let first = arg_added c.program.ensures letters.1 c.in_ok-arg.ensures in
    let second = arg_added first orders.1 c.in_ok-arg-2.ensures in
    let third = arg_added second c.flag_option.ensures c.in_ok-arg-3.ensures in
    IfOk-weaker c.arg-4.result _ _ (λ command adds. (letters.0, orders.0, formats.0, arg_added third formats.1 adds)) c.arg-4.ensures

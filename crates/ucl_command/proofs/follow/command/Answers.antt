use Rattle.ucl_command.proofs.Parses.{arg_added, set_apart}
use Rattle.std.proofs.lemmas.Result.{IfOk-weaker}
use Rattle.ucl_command.proofs.follow.command.Goals as goal

pub returns : goal.returns
returns c =
    let letters = c.group_option.ensures in
    let orders = c.order_option.ensures in
    let formats = c.format_option.ensures in
    let first = arg_added c.program.ensures letters.1 c.in_ok-arg.ensures in
    let second = arg_added first orders.1 c.in_ok-arg-2.ensures in
    let third = arg_added second formats.1 c.in_ok-arg-3.ensures in
    let apart = set_apart c.flag_option.result c.in_ok-conflicts_with.field-0 _ c.flag_option.ensures c.in_ok-conflicts_with.ensures in
    IfOk-weaker c.arg-4.result _ _ (λ command adds. (letters.0, orders.0, formats.0, arg_added third apart adds)) c.arg-4.ensures

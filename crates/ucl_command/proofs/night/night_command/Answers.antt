use Rattle.std.proofs.Common.{codes, refl, rules}
use Rattle.clap.specs.Simple.{new_app}
use Rattle.ucl_command.proofs.Parses.{arg_added, defaulted}
use Rattle.ucl_command.specs.Commands.{HasApp}
use Rattle.std.proofs.lemmas.Result.{IfOk-weaker}
use Rattle.ucl_command.proofs.night.night_command.Goals as goal

pub returns : goal.returns
returns c =
    let letters = c.group_option.ensures in
    let orders = c.order_option.ensures in
    let start : HasApp (new_app (codes "night")) c.after_help.result = search rules in
    let first = arg_added start (defaulted c.group_option.result c.default_value.result (codes "A") refl letters.1 c.default_value.ensures) c.in_ok-arg.ensures in
    let second = arg_added first c.readings_option.ensures c.in_ok-arg-2.ensures in
    let order = defaulted c.order_option.result c.default_value-2.result (codes "uefa") c.name.ensures orders.1 c.default_value-2.ensures in
    IfOk-weaker c.arg-3.result _ _ (λ command adds. (letters.0, orders.0, arg_added second order adds)) c.arg-3.ensures

use Rattle.std.proofs.Common.{codes, ap, ◌∙◌}
use Rattle.clap.specs.Matches.{found_of}
use Rattle.ucl_order.specs.Names.{profile_named}
use Rattle.ucl_command.proofs.Parses.{none_named, text_named}
use Rattle.ucl_command.proofs.options.order_of.Goals as goal

pub returns-in_err-get_str : goal.returns-in_err-get_str
returns-in_err-get_str c = c.from_residual.ensures ∙ none_named profile_named (found_of c.args.matches.now) (codes "order") c.get_str.result c.get_str.ensures c.in_err-get_str.was

pub returns : goal.returns
returns c =
    c.from_name.ensures
    ∙ (ap profile_named c.as_bytes.ensures.value
    ∙ text_named profile_named (found_of c.args.matches.now) (codes "order") c.get_str.result c.in_ok-get_str.field-0 c.get_str.ensures c.in_ok-get_str.was)

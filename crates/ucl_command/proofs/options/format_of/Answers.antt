use Rattle.std.proofs.Common.{codes, ap, sym, ◌∙◌}
use Rattle.clap.specs.Matches.{found_of}
use Rattle.ucl_command.specs.Commands.{format_named}
use Rattle.ucl_command.proofs.Parses.{neither_named, none_named, text_named}
use Rattle.ucl_command.proofs.options.format_of.Goals as goal

pub returns-in_err-get_str : goal.returns-in_err-get_str
returns-in_err-get_str c = c.from_residual.ensures ∙ none_named format_named (found_of c.args.matches.now) (codes "format") c.get_str.result c.get_str.ensures c.in_err-get_str.was

pub returns-in-text : goal.returns-in-text
returns-in-text c =
    sym (ap format_named c.in-text.is)
    ∙ text_named format_named (found_of c.args.matches.now) (codes "format") c.get_str.result c.in_ok-get_str.field-0 c.get_str.ensures c.in_ok-get_str.was

pub returns-in-json : goal.returns-in-json
returns-in-json c =
    sym (ap format_named c.in-json.is)
    ∙ text_named format_named (found_of c.args.matches.now) (codes "format") c.get_str.result c.in_ok-get_str.field-0 c.get_str.ensures c.in_ok-get_str.was

pub returns-in_default : goal.returns-in_default
returns-in_default c =
    sym (neither_named _ c.in_default.not-text c.in_default.not-json)
    ∙ text_named format_named (found_of c.args.matches.now) (codes "format") c.get_str.result c.in_ok-get_str.field-0 c.get_str.ensures c.in_ok-get_str.was

use Rattle.std.proofs.Common.{codes, ap, ◌∙◌}
use Rattle.clap.specs.Matches.{found_of}
use Rattle.ucl_screen.specs.Screen.{letter_in}
use Rattle.ucl_command.proofs.Parses.{none_named, text_named}
use Rattle.ucl_command.proofs.options.group_of.Goals as goal

pub returns-in_err-get_str-clause-named : goal.returns-in_err-get_str-clause-named
returns-in_err-get_str-clause-named c =
    c.from_residual.ensures
    ∙ none_named letter_in (found_of c.args.matches.now) (codes "group") c.get_str.result c.get_str.ensures c.in_err-get_str.was

pub returns-clause-named : goal.returns-clause-named
returns-clause-named c =
    c.letter_in.ensures.told
    ∙ (ap letter_in c.as_bytes.ensures.value
    ∙ text_named letter_in (found_of c.args.matches.now) (codes "group") c.get_str.result c.in_ok-get_str.field-0 c.get_str.ensures c.in_ok-get_str.was)

use Rattle.std.proofs.Common.{map, string_bytes, subst}
use Rattle.ucl_command.specs.Commands.{IsAsked}
use Rattle.ucl_command.proofs.Parses.{just_read, night_is_simple, subcommand_found}
use Rattle.ucl_command.proofs.night.line_of.Goals as goal

pub returns-clause-asked : goal.returns-clause-asked
returns-clause-asked c =
    let command = c.in_ok-command.ensures in
    let words = map string_bytes c.args.words.now in
    let simple = night_is_simple command.0 command.1 command.2 command.3 in
    let found = subcommand_found c.in_ok-command.field-0 words c.in_ok-matches.matches command.4 simple c.in_ok-matches.ensures in
    just_read c.line_in.result c.read.result (λ line is. (command.0, command.1, command.2, command.3, subst (λ s. IsAsked s line) found is)) c.line_in.ensures.asked c.read.ensures

use Rattle.std.proofs.Common.{map, string_bytes, subst}
use Rattle.ucl_command.specs.Commands.{IsLiveAsked}
use Rattle.ucl_command.proofs.Parses.{just_read, live_is_simple, matches_found}
use Rattle.ucl_command.proofs.live.live_args.Goals as goal

pub returns : goal.returns
returns c =
    let command = c.in_ok-command.ensures in
    let words = map string_bytes c.args.words.now in
    let found = matches_found c.in_ok-command.field-0 words c.in_ok-matches.matches command.3 (live_is_simple command.0 command.1 command.2) c.in_ok-matches.ensures in
    just_read c.args_in.result c.read.result (λ args is. (command.0, command.1, command.2, subst (λ rows. IsLiveAsked rows args.group args.profile args.screens args.format) found is))
    c.args_in.ensures c.read.ensures

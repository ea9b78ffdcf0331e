use Rattle.std.proofs.Common.{map, string_bytes, subst}
use Rattle.ucl_command.specs.Commands.{IsFollowAsked}
use Rattle.ucl_command.proofs.Parses.{follow_is_simple, just_read, matches_found}
use Rattle.ucl_command.proofs.follow.follow_args.Goals as goal

pub returns : goal.returns
returns c =
    let command = c.in_ok-command.ensures in
    let words = map string_bytes c.args.words.now in
    let found = matches_found c.in_ok-command.field-0 words c.in_ok-matches.matches command.3 (follow_is_simple command.0 command.1 command.2) c.in_ok-matches.ensures in
    just_read c.args_in.result c.read.result (λ args is. (command.0, command.1, command.2, subst (λ rows. IsFollowAsked rows args) found is)) c.args_in.ensures c.read.ensures

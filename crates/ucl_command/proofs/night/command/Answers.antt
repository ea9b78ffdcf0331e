use Rattle.ucl_command.proofs.Parses.{subcommand_added, subcommand_wanted}
use Rattle.std.proofs.lemmas.Result.{IfOk-weaker}
use Rattle.ucl_command.proofs.night.command.Goals as goal

pub returns : goal.returns
returns c =
    let show = c.in_ok-show_command.ensures in
    let night = c.in_ok-night_command.ensures in
    let start = subcommand_wanted c.program.result c.subcommand_required.result c.program.ensures c.subcommand_required.ensures in
    let first = subcommand_added start c.feed_command.ensures c.in_ok-subcommand.ensures in
    let second = subcommand_added first show.2 c.in_ok-subcommand-2.ensures in
    IfOk-weaker c.subcommand-3.result _ _ (λ command adds. (show.0, show.1, night.0, night.1, subcommand_added second night.2 adds)) c.subcommand-3.ensures

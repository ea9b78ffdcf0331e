use Rattle.std.proofs.Common.{Some, ap, codes, option_map, sym, ◌∙◌}
use Rattle.clap.specs.Matches.{found_of}
use Rattle.clap.proofs.WalkLemmas.{one_text-rows}
use Rattle.ucl_command.specs.Commands.{shape_for}
use Rattle.ucl_command.proofs.follow.args_in.Goals as goal

pub returns : goal.returns
returns c =
    let read = one_text-rows (found_of c.args.matches.now) (codes "matches") in
    record {
      group_is = c.group_of.ensures.named;
      profile_is = c.order_of.ensures;
      matches = c.get_flag.result;
      matches_are = (λ yes. c.get_flag.ensures.value (read ∙ yes), λ no. c.get_flag.ensures.other (read ∙ no));
      shape_is = ap (option_map (λ format. shape_for format c.get_flag.result)) (sym c.format_of.ensures ∙ c.in_ok-format_of.was) ∙ ap Some (sym c.shape_for.ensures);
    }

use Rattle.std.proofs.Common.{codes, sym, ◌∙◌}
use Rattle.clap.specs.Matches.{found_of}
use Rattle.clap.proofs.WalkLemmas.{one_text-rows}
use Rattle.ucl_command.proofs.live.args_in.Goals as goal

pub returns : goal.returns
returns c =
    let read = one_text-rows (found_of c.args.matches.now) (codes "screens") in
    record {
      group_is = c.group_of.ensures.named;
      profile_is = c.order_of.ensures;
      screens_are = (λ yes. c.get_flag.ensures.value (read ∙ yes), λ no. c.get_flag.ensures.other (read ∙ no));
      format_is = sym c.format_of.ensures ∙ c.in_ok-format_of.was;
    }

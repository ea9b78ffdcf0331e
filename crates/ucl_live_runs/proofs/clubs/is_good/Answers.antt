use Rattle.ucl_live_runs.proofs.Common.{club_lent, ◌∙◌}
use Rattle.ucl_live_runs.proofs.Boards.{by-four}
use Rattle.ucl_live_runs.proofs.clubs.is_good.Goals as goal

pub returns : goal.returns
returns c = c.is_ok.ensures.value ∙ by-four c.of_lent.result (club_lent c.args.club.now) (λ bad. bad.slot) c.of_lent.ensures.taken c.of_lent.ensures.refused

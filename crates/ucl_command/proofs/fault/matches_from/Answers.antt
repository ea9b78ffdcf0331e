use Rattle.ucl_command.proofs.Parses.{kept_by_map_err}
use Rattle.ucl_command.proofs.fault.matches_from.Goals as goal

pub returns : goal.returns
returns c = kept_by_map_err _ _ c.try_get_matches_from.result c.map_err.result c.try_get_matches_from.ensures.matches c.map_err.ensures.cases c.map_err.ensures.variant

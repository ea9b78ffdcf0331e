use Rattle.ucl_runs.proofs.Merges.{all_merges_agree}
use Rattle.ucl_runs.proofs.night_theorems.schedule_does_not_matter.Goals as goal

pub returns : goal.returns
returns c = all_merges_agree

-- The proofs of the theorems.
use Rattle.ucl_live_runs.proofs.AnswerValues.{answered, told-lines}
use Rattle.ucl_live_runs.proofs.Boards.{boards, replies, sequential, silence}
use Rattle.ucl_live_runs.proofs.FollowShown.{latest, others, versions}
use Rattle.ucl_live_runs.proofs.Lines.{beginnings, json-lines, mends-done, read-whole}
use Rattle.ucl_live_runs.proofs.Moments.{one-moment, runs-show}
use Rattle.ucl_live_runs.proofs.NoMoments.{no-mixture, no-older}
use Rattle.ucl_live_runs.proofs.OwnScreens.{shows-own}
use Rattle.ucl_live_runs.proofs.RecordEnds.{ends-with-the-board, lines-fit, never-fall}
use Rattle.ucl_live_runs.proofs.Repeats.{repeated}

pub ruleset live_theorems = (beginnings, boards, json-lines, mends-done, read-whole, replies, sequential, shows-own, silence)

pub ruleset follow_theorems = (answered, ends-with-the-board, latest, lines-fit, never-fall, no-mixture, no-older, one-moment, others, repeated, runs-show, told-lines, versions)

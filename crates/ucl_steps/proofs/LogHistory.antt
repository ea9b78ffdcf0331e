-- The history of a log explains its calls: their replies are those of its run of the machine.
use Rattle.ucl_steps.proofs.Common.{ℕ, ◌+◌, arith, CompletedCall}
use Rattle.ucl_log.specs.Log.{IsConsistentLog, Log, history_of}
use Rattle.ucl_steps.proofs.Calls.{explained_by}
use Rattle.ucl_steps.proofs.LocalStates.{all_in_turn, entries_low, entries_rise, last_below}
use Rattle.ucl_steps.proofs.LogRuns.{run_of}
use Rattle.ucl_steps.proofs.Points.{HasPoints, IsExplained, pointed}
use Rattle.ucl_steps.specs.LocalState.{FollowsProtocol, IsCompletedCall}

-- each log of steps that the protocol lets come one after another has points
pub logs_have_points : (log : Log) → IsConsistentLog log → FollowsProtocol log → HasPoints log
logs_have_points log is follows = record {
  explained = explained;
  timely = λ seat k c at. let t = (all_in_turn log is follows seat).timed k c at in (last_below log seat c t, t.within.1);
}
  where
    explained : (seat k : ℕ) (c : CompletedCall) → IsCompletedCall log seat k c → IsExplained (history_of log) (pointed log seat c)
    explained seat k c at =
        let t = (all_in_turn log is follows seat).timed k c at in
        let rise = entries_rise log c.last_index (c.last_index + 1) (omega arith) in
        let low = t.within.0 in
        let high = t.within.1 in
        let all = entries_low log (c.last_index + 1) in
        explained_by (history_of log) (pointed log seat c) ((run_of log is follows).settled seat k c at).1 t.first (omega arith, omega arith, omega arith)
        (λ made. let at = (t.by_end made).0 in let grows = (t.by_end made).1 in omega arith)

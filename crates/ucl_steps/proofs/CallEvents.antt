-- A completed call of a log as an operation of the log's history of calls.
use Rattle.ucl_steps.proofs.Common.{ℕ, ◌+◌, ◌-◌, length, take, Reply, Call, CompletedCall}
use Rattle.ucl_log.specs.Log.{Log}
use Rattle.ucl_steps.specs.BoardObject.{operation_at}
use Rattle.ucl_steps.specs.CallEvents.{call_events}
use Rattle.ucl_steps.specs.Linearizability.{Operation}

-- how many events there were before the step at a place of the log
abbrev pub events_before : Log → ℕ → ℕ
events_before log place = length (call_events (take place log))

-- the place of the response to a completed call among the events
abbrev pub answered_at : Log → CompletedCall → ℕ
answered_at log c = events_before log (c.last_index + 1) - 1

-- a completed call of the pass at a seat, as an operation of the history of calls
abbrev pub operation_of : Log → ℕ → CompletedCall → Operation (ℕ × Call) Reply
operation_of log seat c = operation_at seat c (events_before log c.first_index)

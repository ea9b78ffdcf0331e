-- Strong linearizability of logs (Linearizability.antt): when a log grows longer, reports keep their order, but readings may move among them.
-- If only the writes are fixed, here the reports, it is write strong-linearizability (Hadzilacos, Hu and Toueg 2021).
use Rattle.std.specs.Prelude.{ℕ, Bool, true, false, List}
use Rattle.ucl_log.specs.Log.{Log, IsConsistentLog}
use Rattle.ucl_steps.specs.declared.step.Call.{Call}
use Rattle.ucl_steps.specs.declared.step.Call.TheVariants.{Event, Reading}
use Rattle.ucl_steps.specs.declared.trace.Reply.{Reply}
use Rattle.ucl_steps.specs.BoardObject.{board_object}
use Rattle.ucl_steps.specs.CallEvents.{call_events}
use Rattle.ucl_steps.specs.LocalState.{FollowsProtocol}
use Rattle.ucl_steps.specs.Linearizability.{Operation, IsPrefixPreserving}

-- whether a call is a report, which enters an event
abbrev pub is_report : Call → Bool
is_report (Event event) = true
is_report Reading = false

-- `linearize` gives each consistent log that follows the protocol a linearization of its calls, and a longer log one that leaves the calls
-- that pass the test `fixed` as they are, and in their order, and has its own after them
abbrev pub IsPrefixPreservingOnLogs : (Call → Bool) → (Log → List (Operation (ℕ × Call) Reply)) → Type 0
IsPrefixPreservingOnLogs fixed linearize =
    IsPrefixPreserving (λ (log : Log). IsConsistentLog log × FollowsProtocol log) call_events board_object (λ (asked : ℕ × Call). fixed asked.1) linearize

-- the protocol is write strongly-linearizable: of some linearizations all reports, accepted or refused, stay as they are
abbrev pub LogsAreWriteStronglyLinearizable : Type 0
LogsAreWriteStronglyLinearizable = (linearize : Log → List (Operation (ℕ × Call) Reply)) × IsPrefixPreservingOnLogs is_report linearize

-- the protocol is not strongly linearizable: of no linearizations all calls stay as they are. When a report has ended, whether a reading
-- that is under way comes before it may still depend on later steps
abbrev pub LogsAreNotStronglyLinearizable : Type 0
LogsAreNotStronglyLinearizable = (linearize : Log → List (Operation (ℕ × Call) Reply))
    → IsPrefixPreservingOnLogs (λ (call : Call). true) linearize → ⊥

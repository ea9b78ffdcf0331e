-- A log as a run of the machine (Machine.antt), whose callers also take steps to begin and to end a call.
use Rattle.std.specs.Prelude.{◌≡◌, ℕ, zero, suc, ◌+◌, ◌<◌, List, [], ◌∷◌, ◌++◌, All, Option, Some}
use mathlib.Core.List.{IsPrefix}
use Rattle.ucl_board.specs.History.{board_of}
use Rattle.ucl_steps.specs.declared.step.Call.{Call}
use Rattle.ucl_steps.specs.declared.step.Caller.{Caller}
use Rattle.ucl_steps.specs.declared.step.Caller.TheVariants.{Reporter, Reader}
use Rattle.ucl_steps.specs.declared.step.Cast.{Cast}
use Rattle.ucl_steps.specs.declared.step.Step.{Step}
use Rattle.ucl_steps.specs.declared.step.Step.TheVariants as machine
use Rattle.ucl_steps.specs.Protocol.{Pending, NoCall, Outcome, GoesOn, Answers}
use Rattle.ucl_steps.specs.Machine.{CallerState, MachineState, Idle, Within, initial_state, held_by, after_steps}
use Rattle.ucl_log.specs.Log.{AccessKind, Look, Swap, First, Second, Action, Match, LoggedStep, Log, history_of, IsConsistentLog}
use Rattle.ucl_steps.specs.LocalState.{local_at, call_asked, outcome, FollowsProtocol}

-- the caller of the machine that stands for the pass with this seat and number: the reader of its seat until the pass is enlisted, then the
-- reporter of its number
abbrev pub caller_for : ℕ → ℕ → Caller
caller_for seat zero = Reader (seat + 1)
caller_for seat (suc number) = Reporter (suc number)

-- the cast (the machine's numbers of reporters and readers) for so many seats: all reporters that there can be, and a reader for each seat
abbrev pub cast_for : ℕ → Cast
cast_for readers = record { reporters = 255; readers = readers }

-- the machine's step of this kind by this caller
abbrev pub step_by_kind : AccessKind → Caller → Step
step_by_kind (Look event) caller = machine.Look caller
step_by_kind Swap caller = machine.Swap caller
step_by_kind First caller = machine.First caller
step_by_kind Second caller = machine.Second caller

-- the machine's Begin of this call before a step of it, as a list: there is one if the pass held no call before the step, else none
abbrev pub begins_by : Pending → Caller → Call → List Step
begins_by NoCall caller call = machine.Begin caller call ∷ []
begins_by held caller call = []

-- the machine's End of a call after a step of it, as a list: there is one if the step brought the reply, none if the call goes on
abbrev pub ends_by : Outcome → Caller → List Step
ends_by (Answers reply) caller = machine.End caller ∷ []
ends_by (GoesOn held) caller = []

-- the machine's steps for this action of a pass with this caller and number, which held this, when the history had this length: the same
-- step, after the Begin of its call if it is the call's first, before the End if it is the last; none if the action is no access
abbrev pub steps_on : Caller → ℕ → Pending → Action → ℕ → List Step
steps_on caller number held (Match kind game found) length =
    begins_by held caller (call_asked held (Match kind game found))
    ++ step_by_kind kind caller ∷ ends_by (outcome number held (Match kind game found) length) caller
steps_on caller number held action length = []

-- the machine's steps for the second part of a log, if `before` is the first part
abbrev pub steps_after : Log → Log → List Step
steps_after before [] = []
steps_after before (logged ∷ log) =
    let local = local_at logged.seat before in
    steps_on (caller_for logged.seat local.number) local.number local.held logged.step.action logged.step.length
    ++ steps_after (before ++ logged ∷ []) log

-- the machine's steps for a whole log
abbrev pub machine_steps : Log → List Step
machine_steps log = steps_after [] log

-- if a log is a prefix of a later one, the machine's steps for it are a prefix of those for the later one
abbrev pub LongerLogsAreLongerRuns : Type 0
LongerLogsAreLongerRuns = (log later : Log) → IsPrefix log later → IsPrefix (machine_steps log) (machine_steps later)

-- what a caller holds, `holds`, matches what a pass holds: it is idle if the pass has no call, else within a call, and holds the same
abbrev pub HoldsAs : Pending → Option CallerState → Type 0
HoldsAs NoCall holds = holds ≡ Some Idle
HoldsAs held holds = (call : ℕ) × (holds ≡ Some (Within call held))

-- the machine's steps for a log are enabled, and lead to the history of the log and the words of its board; the caller of each pass then
-- holds what the pass holds
pub record LeadsToLog (readers : ℕ) (log : Log) : Type 0 where
  pub state : MachineState
  pub run : after_steps (machine_steps log) (initial_state (cast_for readers)) ≡ Some state
  pub history_is : state.history ≡ history_of log
  pub words_are : state.words ≡ board_of (history_of log)
  pub each : (seat : ℕ) → seat < readers
      → HoldsAs (local_at seat log).held (held_by state.callers (caller_for seat (local_at seat log).number))

-- each consistent log that follows the protocol, with seats below `readers`, is a run of the machine with so many readers
abbrev pub LogsAreRuns : Type 0
LogsAreRuns = (readers : ℕ) (log : Log) → IsConsistentLog log → FollowsProtocol log
    → All (λ (logged : LoggedStep). logged.seat < readers) log → LeadsToLog readers log

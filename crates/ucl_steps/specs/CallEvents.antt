-- The history of calls of a log: each call is invoked just before its first step, and has its response just after its last.
use Rattle.std.specs.Prelude.{ℕ, List, [], ◌∷◌, ◌++◌}
use Rattle.ucl_log.specs.Log.{Action, Match, Log}
use Rattle.ucl_steps.specs.declared.step.Call.{Call}
use Rattle.ucl_steps.specs.BoardObject.{BoardEvent}
use Rattle.ucl_steps.specs.LocalState.{LocalState, call_asked, local_at, outcome}
use Rattle.ucl_steps.specs.Linearizability.{Invocation, Response}
use Rattle.ucl_steps.specs.Protocol.{Pending, NoCall, Outcome, GoesOn, Answers}

-- the invocation of this call by a pass, just before a step of it, as a list: there is one if the pass held no call before the step
abbrev pub invocation_by : Pending → ℕ → ℕ → Call → List BoardEvent
invocation_by NoCall seat number call = Invocation seat (number, call) ∷ []
invocation_by held seat number call = []

-- the response to a call of the pass at a seat, just after a step of it, as a list: there is one if the step brought the reply
abbrev pub response_by : Outcome → ℕ → List BoardEvent
response_by (Answers reply) seat = Response seat reply ∷ []
response_by (GoesOn held) seat = []

-- the events that this action of the pass at a seat brings, by its local state before: none if the action is no access
abbrev pub events_on : ℕ → LocalState → Action → ℕ → List BoardEvent
events_on seat local (Match kind game found) length =
    invocation_by local.held seat local.number (call_asked local.held (Match kind game found))
    ++ response_by (outcome local.number local.held (Match kind game found) length) seat
events_on seat local action length = []

-- the events of the second part of a log, if `before` is the first part
abbrev pub call_events_after : Log → Log → List BoardEvent
call_events_after before [] = []
call_events_after before (logged ∷ log) =
    events_on logged.seat (local_at logged.seat before) logged.step.action logged.step.length ++ call_events_after (before ++ logged ∷ []) log

-- the history of calls of a log: each call is invoked just before its first step, and has its response just after its last
abbrev pub call_events : Log → List BoardEvent
call_events log = call_events_after [] log

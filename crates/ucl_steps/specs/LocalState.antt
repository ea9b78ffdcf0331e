-- The protocol as seen from one process, which is a pass, known by its seat: its local state, and which of its steps may come next.
-- There are two clocks: an index is a place in the log, and `length` is the length of the history just before a step.
use Rattle.std.specs.Prelude.{◌≡◌, ℕ, ◌+◌, ◌==◌, if◌then◌else◌, List, [], ◌∷◌, ◌++◌, length, Option, Some, None, slice_get}
use Rattle.std.specs.List.{fold}
use Rattle.ucl_word.specs.Record.{IsReporter}
use Rattle.ucl_word.specs.Counts.{EachMay}
use Rattle.ucl_board.specs.declared.entry.Entry.{Entry}
use Rattle.ucl_board.specs.History.{entry_of}
use Rattle.ucl_steps.specs.declared.step.Call.{Call}
use Rattle.ucl_steps.specs.declared.step.Call.TheVariants.{Event, Reading}
use Rattle.ucl_steps.specs.declared.trace.Reply.{Reply}
use Rattle.ucl_steps.specs.Protocol.{Pending, NoCall, Holding, Collecting, Checking, Outcome, GoesOn, Answers, look_outcome, swap_outcome}
use Rattle.ucl_steps.specs.Protocol.{first_outcome, second_outcome}
use Rattle.ucl_log.specs.Log.{AccessKind, Look, Swap, First, Second, Action, Match, CountRaised, Whole, TakenStep, LoggedStep, Log}
use Rattle.ucl_log.specs.Log.{taken_by}

-- a completed call: the number of its pass (0 for a reader), what it asked, the reply, and the indices in the log of its first step and of
-- its last
pub record CompletedCall : Type 0 where
  pub number : ℕ
  pub call : Call
  pub reply : Reply
  pub first_index : ℕ
  pub last_index : ℕ

-- the local state of a pass: its number (0 for a reader), its completed calls, oldest first, what it holds of its pending call (NoCall if
-- there is none), and, if a call is pending, the index in the log of its first step
pub record LocalState : Type 0 where
  pub number : ℕ
  pub calls : List CompletedCall
  pub held : Pending
  pub first_index : ℕ

-- the local state of a pass that has taken no step: a reader's, without a call
abbrev pub initial_local : LocalState
initial_local = record { number = 0; calls = []; held = NoCall; first_index = 0 }

-- the call of a step with this action, by what its pass held before: the entering of an event for a Look or a Swap, else a reading
abbrev pub call_asked : Pending → Action → Call
call_asked held (Match (Look event) game found) = Event event
call_asked (Holding event old new) action = Event event
call_asked held action = Reading

-- the outcome of this action of a pass with this number that holds this, if the history has this length: the call goes on, and what the
-- pass then holds (GoesOn), or the reply to the call (Answers). Any other step but a Look leaves what is held
abbrev pub outcome : ℕ → Pending → Action → ℕ → Outcome
outcome number held (Match (Look event) game found) length = look_outcome number event found
outcome number (Holding event old new) (Match Swap game found) length = swap_outcome old new found
outcome number NoCall (Match First game found) length = first_outcome [] found length
outcome number (Collecting words) (Match First game found) length = first_outcome words found length
outcome number (Checking words checked point) (Match Second game found) length = second_outcome words checked point found
outcome number held action length = GoesOn held

-- the index of the first step of a step's call: `index`, that of the step itself, if its pass had no pending call before it; else `first`,
-- which was kept
abbrev pub begun_index : Pending → ℕ → ℕ → ℕ
begun_index NoCall first index = index
begun_index held first index = first

-- the completed call that a pass in this state has after a step that brings this reply
abbrev pub call_answered : Reply → TakenStep → LocalState → CompletedCall
call_answered reply step local = record {
  number = local.number;
  call = call_asked local.held step.action;
  reply = reply;
  first_index = begun_index local.held local.first_index step.index;
  last_index = step.index;
}

-- the state of a pass after a step with this outcome, by its state `old` before: its call goes on, or is added to the completed calls
abbrev pub with_outcome : Outcome → TakenStep → LocalState → LocalState
with_outcome (GoesOn held) step old = record old { held = held; first_index = begun_index old.held old.first_index step.index }
with_outcome (Answers reply) step old = record old { calls = old.calls ++ call_answered reply step old ∷ []; held = NoCall }

-- the state of a pass after a step with this action: an enlistment that found n reporters gives it number n + 1; any other step has the
-- outcome that the protocol gives it
abbrev pub with_action : Action → TakenStep → LocalState → LocalState
with_action (CountRaised found) step old = record old { number = found + 1 }
with_action action step old = with_outcome (outcome old.number old.held action step.length) step old

-- the state of a pass after a step, by its state `old` before
abbrev pub with_step : LocalState → TakenStep → LocalState
with_step old step = with_action step.action step old

-- the local state of a pass that took these steps, oldest first
abbrev pub local_of : List TakenStep → LocalState
local_of steps = fold with_step initial_local steps

-- the local state of the pass at this seat after all steps of the log
abbrev pub local_at : ℕ → Log → LocalState
local_at seat log = local_of (taken_by seat log)

-- among the calls that the pass at this seat has completed by the end of the log, this one is number k, counted from 0
abbrev pub IsCompletedCall : Log → ℕ → ℕ → CompletedCall → Type 0
IsCompletedCall log seat k call = slice_get (local_at seat log).calls k ≡ Some call

-- for a step of this kind, the match that is next for a pass that holds this; 0 if no such step is next, and for a Look
abbrev pub next_match : AccessKind → Pending → ℕ
next_match Swap (Holding event old new) = event.game
next_match First NoCall = 1
next_match First (Collecting words) = length words + 1
next_match Second (Checking words checked point) = checked + 1
next_match _ _ = 0

-- a pass in this state may take a step with this action next: only a reporter enters events, matches come in the order of the protocol,
-- only a reader without a call is enlisted, no step looks at the whole board, and the number of enlisted reporters may always be loaded
abbrev pub IsNextFor : LocalState → Action → Type 0
IsNextFor local (Match (Look event) game found) = (local.held ≡ NoCall) × (game ≡ event.game) × IsReporter local.number
IsNextFor local (Match kind game found) = game ≡ next_match kind local.held
IsNextFor local (CountRaised found) = (local.held ≡ NoCall) × (local.number ≡ 0)
IsNextFor local (Whole shown) = ⊥
IsNextFor local action = Unit {0}

-- the entry that a step with this action adds, by its pass's number and what that held: only a compare-and-exchange that finds the loaded
-- word adds one
abbrev pub entry_by : ℕ → Pending → Action → Option Entry
entry_by number (Holding event old new) (Match Swap game found) = if found == old then Some (entry_of number event) else None
entry_by number held action = None

-- the protocol lets a step come next after a log: the pass of its seat may take it then, and it adds the entry that it should, or none
pub record IsNextOfProtocol (log : Log) (logged : LoggedStep) : Type 0 where
  pub next : IsNextFor (local_at logged.seat log) logged.step.action
  pub entry : logged.step.entry ≡ entry_by (local_at logged.seat log).number (local_at logged.seat log).held logged.step.action

-- a log follows the protocol: the protocol lets each of its steps come next after the steps before it
abbrev pub FollowsProtocol : Log → Type 0
FollowsProtocol log = EachMay IsNextOfProtocol log

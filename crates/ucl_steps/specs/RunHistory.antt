-- The history of calls of a list of steps of the machine: a Begin invokes a call, and its End is the response, with the reply that the call
-- has got. A call whose End is not among the steps is pending. And what it is that the calls that a run records are linearizable.
use Rattle.std.specs.Prelude.{◌≡◌, ◌↔◌, ℕ, ◌+◌, ◌*◌, ◌<◌, ◌≤◌, true, List, [], ◌∷◌, ◌++◌, length, take, Option, Some, None, IsSome, IfSome}
use Rattle.std.specs.Prelude.{slice_get}
use Rattle.std.specs.Option.{option_and_then}
use Rattle.ucl_board.specs.History.{IsLegal}
use Rattle.ucl_board.specs.declared.entry.Entry.{Entry}
use Rattle.ucl_steps.specs.declared.step.Call.{Call}
use Rattle.ucl_steps.specs.declared.step.Caller.{Caller}
use Rattle.ucl_steps.specs.declared.step.Caller.TheVariants.{Reporter, Reader}
use Rattle.ucl_steps.specs.declared.step.Cast.{Cast}
use Rattle.ucl_steps.specs.declared.step.Step.{Step}
use Rattle.ucl_steps.specs.declared.step.Step.TheVariants.{Begin, End}
use Rattle.ucl_steps.specs.declared.trace.CallRecord.{CallRecord}
use Rattle.ucl_steps.specs.declared.trace.Reply.{Reply}
use Rattle.ucl_steps.specs.BoardObject.{BoardEvent, IsLinearizableTo, board_object}
use Rattle.ucl_steps.specs.Linearizability.{Invocation, Response, Operation, IsOperation, state_after}
use Rattle.ucl_steps.specs.Machine.{CallerState, Answered, MachineState, initial_state, held_by, caller_of, after_steps}
use Rattle.ucl_steps.specs.Seen.{accepts}

-- the number of a reporter, 0 for a reader
abbrev pub caller_number : Caller → ℕ
caller_number (Reporter number) = number
caller_number (Reader number) = 0

-- a caller as a process: reporters have the even numbers, readers the odd ones
abbrev pub process_for : Caller → ℕ
process_for (Reporter number) = 2 * number
process_for (Reader number) = 2 * number + 1

-- the response of a process with this reply, as a list: none if there is no reply
abbrev pub response_with : ℕ → Option Reply → List BoardEvent
response_with process None = []
response_with process (Some reply) = Response process reply ∷ []

-- the event that a step brings in this state, as a list, if its caller holds this: a Begin or an End brings one, other steps none
abbrev pub event_at : MachineState → Step → Option CallerState → List BoardEvent
event_at state (Begin caller call) holds = Invocation (process_for caller) (caller_number caller, call) ∷ []
event_at state (End caller) (Some (Answered call)) =
    response_with (process_for caller) (option_and_then (λ (asked : CallRecord). asked.reply) (slice_get state.calls call))
event_at state step holds = []

-- the event that a step brings in this state, if there is one
abbrev pub event_in : Option MachineState → Step → List BoardEvent
event_in None step = []
event_in (Some state) step = event_at state step (held_by state.callers (caller_of step))

-- the events of the second part of a list of steps, if `before` is the first part
abbrev pub run_events_after : Cast → List Step → List Step → List BoardEvent
run_events_after cast before [] = []
run_events_after cast before (step ∷ steps) =
    event_in (after_steps before (initial_state cast)) step ++ run_events_after cast (before ++ step ∷ []) steps

-- the history of calls of a list of steps by the callers of this cast
abbrev pub run_events : Cast → List Step → List BoardEvent
run_events cast steps = run_events_after cast [] steps

-- a recorded call as an operation, invoked at this place, with this reply
abbrev pub operation_by : CallRecord → ℕ → Reply → Operation (ℕ × Call) Reply
operation_by c place reply = record { process = process_for c.caller; call = (caller_number c.caller, c.call); invoked = place; reply = reply }

-- a recorded call takes effect at its point: it is this operation of a sequence, and those before it leave the first `point` entries of the
-- history. The point lies between the lengths of the history at the call's Begin and at its End; the entry of an accepted call is there by
-- then
pub record TakesEffect (sequence : List (Operation (ℕ × Call) Reply)) (history : List Entry) (c : CallRecord) (o : Operation (ℕ × Call) Reply) : Type 0 where
  pub point : ℕ
  pub recorded : c.point ≡ Some point
  pub within : (c.begun ≤ point) × (point ≤ length history)
  pub by_end : IfSome c.ended (λ ended. (point ≤ ended) × (accepts o.reply ≡ true → point < ended))
  pub place : ℕ
  pub is : slice_get sequence place ≡ Some o
  pub before : state_after board_object [] (take place sequence) ≡ take point history

-- the calls that a run records are those that its history of calls invokes, in their order. That history is linearizable, and leaves the
-- history of the run, which is legal. A call has its reply if it has ended, and its point just if it has its reply: it takes effect there.
-- And it has ended just if it has its response
pub record IsLinearizableRun (cast : Cast) (steps : List Step) (history : List Entry) (calls : List CallRecord) : Type 0 where
  pub linearizable : IsLinearizableTo history (run_events cast steps)
  pub legal : IsLegal history
  pub invoked : ℕ → ℕ
  pub begun : (i : ℕ) (c : CallRecord) → slice_get calls i ≡ Some c
      → slice_get (run_events cast steps) (invoked i) ≡ Some (Invocation (process_for c.caller) (caller_number c.caller, c.call))
  pub only : (place process : ℕ) (asked : ℕ × Call) → slice_get (run_events cast steps) place ≡ Some (Invocation process asked)
      → (i : ℕ) × (i < length calls) × (invoked i ≡ place)
  pub in_order : (i j : ℕ) → i < j → j < length calls → invoked i < invoked j
  pub replied : (i : ℕ) (c : CallRecord) → slice_get calls i ≡ Some c
      → (IsSome c.ended → IsSome c.reply) × (IsSome c.point ↔ IsSome c.reply)
  pub effect : (i : ℕ) (c : CallRecord) (reply : Reply) → slice_get calls i ≡ Some c → c.reply ≡ Some reply
      → TakesEffect linearizable.linearizable.0 history c (operation_by c (invoked i) reply)
  pub ended : (i : ℕ) (c : CallRecord) (reply : Reply) → slice_get calls i ≡ Some c → c.reply ≡ Some reply
      → IsSome c.ended ↔ IsOperation (run_events cast steps) (operation_by c (invoked i) reply)

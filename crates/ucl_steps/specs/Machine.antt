-- The snapshot protocol as a state machine: the board, the callers, the calls; which step is enabled when, and what it does.
-- Protocol.antt says what comes of a step on a match word. A call's linearization point is a length of the history.
use Rattle.std.specs.Prelude.{ℕ, zero, suc, ◌-◌, ◌==◌, ◌&&◌, nat_le, Bool, true, false, if◌then◌else◌, List, [], ◌∷◌, ◌++◌, length}
use Rattle.std.specs.Prelude.{replicate, Option, Some}
use Rattle.std.specs.Prelude.{None}
use Rattle.std.specs.Prelude.{IsSome, slice_get, slice_set, slice_index}
use Rattle.std.specs.Option.{option_and_then}
use Rattle.ucl_word.specs.declared.event.EventCall.{EventCall}
use Rattle.ucl_word.specs.Record.{scheduled}
use Rattle.ucl_word.specs.Layout.{word_of}
use Rattle.ucl_board.specs.declared.entry.Entry.{Entry}
use Rattle.ucl_board.specs.Words.{word_at}
use Rattle.ucl_board.specs.History.{followed_by, entry_of}
use Rattle.ucl_steps.specs.declared.step.Cast.{Cast}
use Rattle.ucl_steps.specs.declared.step.Caller.{Caller}
use Rattle.ucl_steps.specs.declared.step.Caller.TheVariants.{Reporter, Reader}
use Rattle.ucl_steps.specs.declared.step.Call.{Call}
use Rattle.ucl_steps.specs.declared.step.Call.TheVariants.{Event, Reading}
use Rattle.ucl_steps.specs.declared.step.Step.{Step}
use Rattle.ucl_steps.specs.declared.step.Step.TheVariants.{Begin, Look, Swap, First, Second, End}
use Rattle.ucl_steps.specs.declared.trace.Reply.{Reply}
use Rattle.ucl_steps.specs.declared.trace.CallRecord.{CallRecord}
use Rattle.ucl_steps.specs.Protocol.{Pending, Holding, Collecting, Checking, Outcome, GoesOn, Answers, look_outcome, swap_outcome}
use Rattle.ucl_steps.specs.Protocol.{first_outcome, second_outcome}

-- What a caller of the machine holds between two of its steps; `call` is the place of its call in the list of all calls. Idle: no call.
-- Wanting: an event to enter. Within: what a call under way keeps (Protocol.antt). Answered: a call that has its reply and has not ended.
pub data CallerState : Type 0 where
  Idle : CallerState
  Wanting : (call : ℕ) (event : EventCall) → CallerState
  Within : (call : ℕ) (held : Pending) → CallerState
  Answered : (call : ℕ) → CallerState

-- what each reporter and each reader holds, in the order of their numbers
pub record Callers : Type 0 where
  pub reporters : List CallerState
  pub readers : List CallerState

-- the machine between two steps: the twelve match words, the entries of the accepted events, oldest first, the
-- calls in the order of their beginnings, and what each caller holds
pub record MachineState : Type 0 where
  pub words : List ℕ
  pub history : List Entry
  pub calls : List CallRecord
  pub callers : Callers

-- the machine before any step, with the callers of this cast: twelve scheduled matches, no entry, no call, and idle callers
abbrev pub initial_state : Cast → MachineState
initial_state cast = record {
  words = replicate 12 (word_of scheduled);
  history = [];
  calls = [];
  callers = record { reporters = replicate cast.reporters Idle; readers = replicate cast.readers Idle };
}

-- what a caller holds, None for a caller outside the cast; callers are numbered from 1
abbrev pub held_by : Callers → Caller → Option CallerState
held_by callers (Reporter zero) = None
held_by callers (Reporter (suc k)) = slice_get callers.reporters k
held_by callers (Reader zero) = None
held_by callers (Reader (suc k)) = slice_get callers.readers k

-- what all callers hold after this one has been set to hold this; what the others hold stays
abbrev pub set_held : CallerState → Caller → Callers → Callers
set_held holds (Reporter number) callers = record callers { reporters = slice_set callers.reporters (number - 1) holds }
set_held holds (Reader number) callers = record callers { readers = slice_set callers.readers (number - 1) holds }

-- the state after this caller has been set to hold this; all else stays
abbrev pub with_held : CallerState → Caller → MachineState → MachineState
with_held holds caller state = record state { callers = set_held holds caller state.callers }

-- the list with its element at place k changed by f, if it has one
abbrev pub change_at : {X : Type 0} → ℕ → (X → X) → List X → List X
change_at k f [] = []
change_at zero f (x ∷ xs) = f x ∷ xs
change_at (suc k) f (x ∷ xs) = x ∷ change_at k f xs

-- the record of a call, with this reply and this linearization point set
abbrev pub with_reply : ℕ → Reply → CallRecord → CallRecord
with_reply point reply call = record call { point = Some point; reply = Some reply }

-- the record of a call, with its end set to this length of the history
abbrev pub with_end : ℕ → CallRecord → CallRecord
with_end ended call = record call { ended = Some ended }

-- whether this caller may begin this call: a reporter may enter events and read, a reader may only read. The types of the program keep the
-- numbers of matches and reporters in range; here they are plain numbers, and so their range is a part of the condition
abbrev pub may_begin : Caller → Call → Bool
may_begin (Reporter number) (Event event) = nat_le 1 event.game && (nat_le event.game 12 && nat_le number 255)
may_begin (Reader number) (Event event) = false
may_begin caller Reading = true

-- what a caller holds that has just begun a call, which stands at this place among the calls
abbrev pub held_at_begin : Call → ℕ → CallerState
held_at_begin (Event event) place = Wanting place event
held_at_begin Reading place = Within place (Collecting [])

-- the record of a call that has just begun, when the history had so many entries
abbrev pub begun_call : Caller → Call → ℕ → CallRecord
begun_call caller call begun = record { caller = caller; call = call; begun = begun; point = None; reply = None; ended = None }

-- the state after this caller began this call: the call is added to the list of calls, and its caller holds it
abbrev pub after_begin : Caller → Call → MachineState → MachineState
after_begin caller call state = with_held (held_at_begin call (length state.calls)) caller
    (record state { calls = state.calls ++ begun_call caller call (length state.history) ∷ [] })

-- the state after a step in which this caller's call, at place `call` among the calls, has got its reply, with this linearization point
abbrev pub after_reply : Caller → ℕ → ℕ → Reply → MachineState → MachineState
after_reply caller call point reply state = with_held (Answered call) caller (record state { calls = change_at call (with_reply point reply) state.calls })

-- the state after a step with this outcome in call `call`: its caller holds something new, or the call has its reply, with this point
abbrev pub after_outcome : Caller → ℕ → ℕ → Outcome → MachineState → MachineState
after_outcome caller call point (GoesOn held) state = with_held (Within call held) caller state
after_outcome caller call point (Answers reply) state = after_reply caller call point reply state

-- the state after a Swap that found the loaded word: the new word takes its place, and the entry of reporter `number` is added
abbrev pub stored : ℕ → EventCall → ℕ → MachineState → MachineState
stored number event new state =
    record state { words = slice_set state.words (event.game - 1) new; history = followed_by state.history (entry_of number event) }

-- the state after a Look (a report's load) by reporter `number` in call `call`; a refusal gets the length of the history as its point
abbrev pub state_after_look : ℕ → ℕ → EventCall → MachineState → MachineState
state_after_look number call event state =
    after_outcome (Reporter number) call (length state.history) (look_outcome number event (word_at state.words event.game)) state

-- the state after a Swap of `old` for `new` by reporter `number` in call `call`; the length of the history becomes the call's point
abbrev pub state_after_swap : ℕ → ℕ → EventCall → ℕ → ℕ → MachineState → MachineState
state_after_swap number call event old new state = let found = word_at state.words event.game in
    after_outcome (Reporter number) call (length state.history) (swap_outcome old new found) (if found == old then stored number event new state else state)

-- the state after a First, which loads the next word of a reading's first collect, in call `call` of this caller, after these words
abbrev pub state_after_first : Caller → ℕ → List ℕ → MachineState → MachineState
state_after_first caller call words state = let now = length state.history in
    after_outcome caller call now (first_outcome words (slice_index state.words (length words)) now) state

-- the state after a Second, the next load of a reading's second collect, after `checked` equal words; `point` was set at the first's end
abbrev pub state_after_second : Caller → ℕ → List ℕ → ℕ → ℕ → MachineState → MachineState
state_after_second caller call words checked point state =
    after_outcome caller call point (second_outcome words checked point (slice_index state.words checked)) state

-- the state after this caller ended its call, at place `call` among the calls: the caller is idle, and the call's record has its end
abbrev pub after_end : Caller → ℕ → MachineState → MachineState
after_end caller call state = with_held Idle caller (record state { calls = change_at call (with_end (length state.history)) state.calls })

-- the state after a step whose caller holds this; None if the step is not enabled: the caller holds something else, or may not take it
abbrev pub after_step_holding : Step → Option CallerState → MachineState → Option MachineState
after_step_holding (Begin caller call) (Some Idle) state = if may_begin caller call then Some (after_begin caller call state) else None
after_step_holding (Look (Reporter number)) (Some (Wanting call event)) state = Some (state_after_look number call event state)
after_step_holding (Swap (Reporter number)) (Some (Within call (Holding event old new))) state = Some (state_after_swap number call event old new state)
after_step_holding (First caller) (Some (Within call (Collecting words))) state = Some (state_after_first caller call words state)
after_step_holding (Second caller) (Some (Within call (Checking words checked point))) state =
    Some (state_after_second caller call words checked point state)
after_step_holding (End caller) (Some (Answered call)) state = Some (after_end caller call state)
after_step_holding _ _ state = None

-- the caller that takes a step
abbrev pub caller_of : Step → Caller
caller_of (Begin caller call) = caller
caller_of (Look caller) = caller
caller_of (Swap caller) = caller
caller_of (First caller) = caller
caller_of (Second caller) = caller
caller_of (End caller) = caller

-- the state after a step, None if the step is not enabled
abbrev pub after_step : MachineState → Step → Option MachineState
after_step state step = after_step_holding step (held_by state.callers (caller_of step)) state

-- a step is enabled in this state: it may be taken there
abbrev pub IsEnabled : MachineState → Step → Type 0
IsEnabled state step = IsSome (after_step state step)

-- the state after a list of steps, None if one of them is not enabled
abbrev pub after_steps : List Step → MachineState → Option MachineState
after_steps [] state = Some state
after_steps (step ∷ steps) state = option_and_then (after_steps steps) (after_step state step)

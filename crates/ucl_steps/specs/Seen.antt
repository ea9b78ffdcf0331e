-- What a later call must have seen of an earlier one, if calls are linearizable: no reading is stale, and none is torn. These laws follow
-- from linearizability, and ask for no more: they say what it means to whoever reads a board.
use Rattle.std.specs.Prelude.{◌≡◌, ℕ, ◌<◌, ◌≤◌, Bool, true, false, List, [], ◌∷◌, All}
use Rattle.ucl_word.specs.declared.event.EventCall.{EventCall}
use Rattle.ucl_word.specs.declared.event.Kind.TheVariants.{KickOff}
use Rattle.ucl_board.specs.History.{board_of, entry_of}
use Rattle.ucl_log.specs.Log.{Log}
use Rattle.ucl_board.specs.Words.{game_at}
use Rattle.ucl_steps.specs.declared.step.Call.{Call}
use Rattle.ucl_steps.specs.declared.step.Call.TheVariants.{Event, Reading}
use Rattle.ucl_steps.specs.declared.trace.Reply.{Reply}
use Rattle.ucl_steps.specs.declared.trace.Reply.TheVariants.{Accepted, Copied}
use Rattle.ucl_steps.specs.BoardObject.{BoardEvent, MayInvoke, HasLinearizableCalls, board_object}
use Rattle.ucl_steps.specs.LocalState.{CompletedCall, IsCompletedCall}
use Rattle.ucl_steps.specs.Linearizability.{Invocation, Response, Operation, IsOperation, IsLinearizable}

-- the reply `later` has seen an earlier call with this reply: a reading shows an accepted event, since its match has the event number that
-- the report was given, or a greater one; and it has no lower version than an earlier reading
abbrev pub HasSeen : Call → Reply → Reply → Type 0
HasSeen (Event event) (Accepted accepted) (Copied later) = accepted.number ≤ (game_at later.board event.game).number
HasSeen call (Copied read) (Copied later) = read.version ≤ later.version
HasSeen call reply later = Unit {0}

-- whether the reply is that an event was accepted
abbrev pub accepts : Reply → Bool
accepts (Accepted accepted) = true
accepts reply = false

-- in a history no reading is stale: an operation that was invoked after another got its response has seen that other. And none is torn: if
-- a got its response before b was invoked, which was accepted, then what has seen b has seen a, at whatever time
pub record ReadsWhole (history : List BoardEvent) : Type 0 where
  pub fresh : (a b : Operation (ℕ × Call) Reply) → (of_a : IsOperation history a) → IsOperation history b → of_a.answered < b.invoked
      → HasSeen a.call.1 a.reply b.reply
  pub whole : (a b c : Operation (ℕ × Call) Reply) → (of_a : IsOperation history a) → IsOperation history b → IsOperation history c
      → of_a.answered < b.invoked → accepts b.reply ≡ true → HasSeen b.call.1 b.reply c.reply → HasSeen a.call.1 a.reply c.reply

-- so it is in each linearizable history of calls that may be asked
abbrev pub LinearizableReadsWhole : Type 0
LinearizableReadsWhole = (history : List BoardEvent) → All MayInvoke history → IsLinearizable board_object history → ReadsWhole history

-- among the completed calls of a log no reading is stale, and none is torn, whichever passes they are of
pub record CallsReadWhole (log : Log) : Type 0 where
  pub fresh : (i j k l : ℕ) (a b : CompletedCall) → IsCompletedCall log i k a → IsCompletedCall log j l b → a.last_index < b.first_index
      → HasSeen a.call a.reply b.reply
  pub whole : (i j h k l m : ℕ) (a b c : CompletedCall) → IsCompletedCall log i k a → IsCompletedCall log j l b → IsCompletedCall log h m c
      → a.last_index < b.first_index
      → accepts b.reply ≡ true → HasSeen b.call b.reply c.reply → HasSeen a.call a.reply c.reply

-- so it is in each log, and so on each board, that has linearizable calls
abbrev pub LinearizableCallsReadWhole : Type 0
LinearizableCallsReadWhole = (log : Log) → HasLinearizableCalls log → CallsReadWhole log

-- the kick-off of a match, expected as its first event
abbrev pub first_event : ℕ → EventCall
first_event game = record { game = game; expected = 0; kind = KickOff }

-- a stale reading: reporter 1 has entered a kick-off, and then a reader is shown the board without it
abbrev pub stale_reading : List BoardEvent
stale_reading =
    Invocation 1 (1, Event (first_event 1)) ∷ Response 1 (Accepted (record { number = 1 }))
    ∷ Invocation 0 (0, Reading) ∷ Response 0 (Copied (record { board = board_of []; version = 0 })) ∷ []

-- a torn reading: while a reader reads, reporter 1 enters two kick-offs, one after the other, and the reader is shown only the second
abbrev pub torn_reading : List BoardEvent
torn_reading =
    Invocation 0 (0, Reading)
    ∷ Invocation 1 (1, Event (first_event 1)) ∷ Response 1 (Accepted (record { number = 1 }))
    ∷ Invocation 1 (1, Event (first_event 2)) ∷ Response 1 (Accepted (record { number = 1 }))
    ∷ Response 0 (Copied (record { board = board_of (entry_of 1 (first_event 2) ∷ []); version = 1 })) ∷ []

-- neither history is linearizable
pub record StaleAndTornAreRefused : Type 0 where
  pub stale : IsLinearizable board_object stale_reading → ⊥
  pub torn : IsLinearizable board_object torn_reading → ⊥

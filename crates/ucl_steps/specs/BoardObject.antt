-- The board of one thread as a sequential object (Linearizability.antt), and what it is that the calls of a log are linearizable.
-- The processes of a log are its passes, each by its seat. What a pass asks goes with its number, which is 0 for a reader.
-- A call is `invoked` and `answered` at places of a history of calls; `first_index` and `last_index` are where its steps stand in the log.
use Rattle.std.specs.Prelude.{◌≡◌, ◌↔◌, ℕ, ◌<◌, List, [], All, length}
use Rattle.ucl_board.specs.declared.entry.Entry.{Entry}
use Rattle.ucl_board.specs.History.{IsLegal, board_of, sequential_reply, attempted, after_attempt}
use Rattle.ucl_log.specs.Log.{Log, IsConsistentLog, history_of}
use Rattle.ucl_steps.specs.declared.step.Call.{Call}
use Rattle.ucl_steps.specs.declared.step.Call.TheVariants.{Event, Reading}
use Rattle.ucl_steps.specs.declared.trace.Reply.{Reply}
use Rattle.ucl_steps.specs.declared.trace.Reply.TheVariants.{Copied}
use Rattle.ucl_steps.specs.LocalState.{CompletedCall, FollowsProtocol, IsCompletedCall}
use Rattle.ucl_steps.specs.Linearizability.{SequentialObject, HistoryEvent, Invocation, Response, Operation, IsOperation, IsLinearizable}
use Rattle.ucl_steps.specs.Linearizability.{state_after}
use Rattle.ucl_steps.specs.Protocol.{report_reply, MayAsk}

-- the entries of the board of one thread with these entries, after this call of a pass with this number: an accepted event adds its entry
abbrev pub object_entries : List Entry → ℕ → Call → List Entry
object_entries entries number (Event event) = after_attempt entries (attempted number event)
object_entries entries number Reading = entries

-- the reply of the board of one thread with these entries: that of the rules, or the board and how many entries it has
abbrev pub object_reply : List Entry → Call → Reply
object_reply entries (Event event) = report_reply (sequential_reply entries event)
object_reply entries Reading = Copied (record { board = board_of entries; version = length entries })

-- the board of one thread: its state is the entries so far
abbrev pub board_object : SequentialObject (List Entry) (ℕ × Call) Reply
board_object = record {
  initial = [];
  after = λ (entries : List Entry) (asked : ℕ × Call). object_entries entries asked.0 asked.1;
  reply = λ (entries : List Entry) (asked : ℕ × Call). object_reply entries asked.1;
}

-- the history of calls of a board is a list of these
abbrev pub BoardEvent : Type 0
BoardEvent = HistoryEvent (ℕ × Call) Reply

-- an event of a history, if it invokes a call, invokes one that may be asked: reporters enter events of matches 1 to 12, and each pass
-- reads
abbrev pub MayInvoke : BoardEvent → Type 0
MayInvoke (Invocation process asked) = MayAsk asked.0 asked.1
MayInvoke (Response process reply) = Unit {0}

-- a history of calls is linearizable, by a sequence that leaves the board of one thread with these entries
pub record IsLinearizableTo (entries : List Entry) (history : List BoardEvent) : Type 0 where
  pub linearizable : IsLinearizable board_object history
  pub leaves : state_after board_object [] linearizable.0 ≡ entries

-- this completed call of the pass at a seat as an operation, invoked at this place
abbrev pub operation_at : ℕ → CompletedCall → ℕ → Operation (ℕ × Call) Reply
operation_at seat c place = record { process = seat; call = (c.number, c.call); invoked = place; reply = c.reply }

-- there is a linearizable history of calls that may be asked, which leaves the entries of the log, a legal history. No response is added to
-- it, so no pending invocation accounts for an entry. Its operations are the completed calls of the log: one got its response before
-- another was invoked just if its last step comes before the other's first step in the log
pub record HasLinearizableCalls (log : Log) : Type 0 where
  pub history : List BoardEvent
  pub asked : All MayInvoke history
  pub linearizable : IsLinearizableTo (history_of log) history
  pub legal : IsLegal (history_of log)
  pub none_added : linearizable.linearizable.1.responses ≡ []
  pub invoked : ℕ → CompletedCall → ℕ
  pub completed : (seat k : ℕ) (c : CompletedCall) → IsCompletedCall log seat k c
      → IsOperation history (operation_at seat c (invoked seat c))
  pub only : (o : Operation (ℕ × Call) Reply) → IsOperation history o
      → (k : ℕ) × (c : CompletedCall) × IsCompletedCall log o.process k c × (operation_at o.process c (invoked o.process c) ≡ o)
  pub order : (seat other k l : ℕ) (a b : CompletedCall) → (is_a : IsCompletedCall log seat k a) → IsCompletedCall log other l b
      → ((completed seat k a is_a).answered < invoked other b) ↔ (a.last_index < b.first_index)

-- each consistent log that follows the protocol has linearizable calls
abbrev pub CallsAreLinearizable : Type 0
CallsAreLinearizable = (log : Log) → IsConsistentLog log → FollowsProtocol log → HasLinearizableCalls log

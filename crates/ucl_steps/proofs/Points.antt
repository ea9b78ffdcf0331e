-- Linearization points: a call with point k takes effect after the first k entries of the history. Which each completed call of a log has.
use Rattle.ucl_steps.proofs.Common.{◌≡◌, ℕ, ◌+◌, ◌<◌, ◌≤◌, true, List, length, take, Some, slice_get, Entry, EventCall, entry_of, sequential_reply, snapshot_at}
use Rattle.ucl_steps.proofs.Common.{Call, Event, Reading, Reply, Copied, CompletedCall, Pending, Checking, accepts}
use Rattle.ucl_log.specs.Log.{Log, history_of}
use Rattle.ucl_steps.specs.LocalState.{IsCompletedCall, local_at}
use Rattle.ucl_steps.specs.Protocol.{report_reply}

-- a call that has its reply, with its linearization point; the times of its beginning and its end, as places among steps or events (`first`,
-- `last`), and as lengths of the history (`begun`, `ended`)
pub record PointedCall : Type 0 where
  pub number : ℕ
  pub call : Call
  pub reply : Reply
  pub point : ℕ
  pub first_index : ℕ
  pub last_index : ℕ
  pub begun : ℕ
  pub ended : ℕ

-- what the board of one thread replies to a call after the first `point` entries of a history
abbrev pub sequential_answer : List Entry → ℕ → Call → Reply
sequential_answer history point (Event event) = report_reply (sequential_reply (take point history) event)
sequential_answer history point Reading = Copied (snapshot_at history point)

-- call c entered an event, which is the entry of the history at the call's point, and was added by the call's end
pub record MakesEntry (history : List Entry) (c : PointedCall) : Type 0 where
  pub event : EventCall
  pub entered : c.call ≡ Event event
  pub entry : slice_get history c.point ≡ Some (entry_of c.number event)
  pub by_end : c.point < c.ended

-- a call has the reply of the board of one thread after the entries before the call's point; the point is not before the call's beginning,
-- nor after its end; and if the call was accepted, it made the entry at its point
pub record IsExplained (history : List Entry) (c : PointedCall) : Type 0 where
  pub turn : c.first_index ≤ c.last_index
  pub within : (c.begun ≤ c.point) × (c.point ≤ c.ended) × (c.ended ≤ length history)
  pub answer : c.reply ≡ sequential_answer history c.point c.call
  pub makes : accepts c.reply ≡ true → MakesEntry history c

-- how many entries the history had before the step at a place of the log
abbrev pub entries_before : Log → ℕ → ℕ
entries_before log place = length (history_of (take place log))

-- the linearization point of a call that gets its reply by a step before which the history had `now` entries, by what its pass held then: a
-- report takes effect at this step, a reading at the last load of its first collect
abbrev pub point_of : Pending → ℕ → ℕ
point_of (Checking words checked point) now = point
point_of held now = now

-- that of a completed call of the pass at a seat
abbrev pub point_at : Log → ℕ → CompletedCall → ℕ
point_at log seat c = point_of (local_at seat (take c.last_index log)).held (entries_before log c.last_index)

-- this call with its point
abbrev pub pointed : Log → ℕ → CompletedCall → PointedCall
pointed log seat c = record {
  number = c.number;
  call = c.call;
  reply = c.reply;
  point = point_at log seat c;
  first_index = c.first_index;
  last_index = c.last_index;
  begun = entries_before log c.first_index;
  ended = entries_before log (c.last_index + 1);
}

-- the history of a log explains each completed call of each pass, which ended with a step of the log; its point is not after this step
pub record HasPoints (log : Log) : Type 0 where
  pub explained : (seat k : ℕ) (c : CompletedCall) → IsCompletedCall log seat k c → IsExplained (history_of log) (pointed log seat c)
  pub timely : (seat k : ℕ) (c : CompletedCall) → IsCompletedCall log seat k c → (c.last_index < length log) × (point_at log seat c ≤ entries_before log c.last_index)

-- A session of `ucl_live` as a handler of lines: what it answers, when it has no answer, what a whole run comes to, and how the program
-- ends. `begun` is a last line without a line feed.
use Rattle.std.specs.Io.KnownBytes.{Appends}
use Rattle.std.specs.Prelude.{Err, List, None, Ok, Option, Result, Some, [], true, ℕ, ⊤}
use Rattle.std.specs.Result.{is_ok}
use Rattle.ucl_board.specs.History.{sequential_reply}
use Rattle.ucl_command.specs.declared.fault.LineFault.{LineFault}
use Rattle.ucl_command.specs.declared.live.LiveArgs.{LiveArgs}
use Rattle.ucl_io.specs.Calls.{Device, HasEnded}
use Rattle.ucl_io.specs.Lines.{begun_line, ended_lines}
use Rattle.ucl_io.specs.declared.fault.ServeFault.{ServeFault}
use Rattle.ucl_io.specs.declared.logged_io.LoggedIo.{LoggedIo}
use Rattle.ucl_rows.specs.Ending.{AnsweredAlone, Ended}
use Rattle.ucl_rows.specs.Faults.{status}
use Rattle.ucl_rows.specs.Printing.{Prints, fault_line}
use Rattle.ucl_rows.specs.Run.{IsOfDriver}
use Rattle.ucl_live_runs.specs.Phases.{other_group_text}
use Rattle.ucl_rows.specs.InputLines.{last_lines}
use Rattle.ucl_rows.specs.Rows.{Said, fits, said_on}
use Rattle.ucl_screen.specs.PlainRows.{has_quote}
use Rattle.ucl_live_runs.specs.declared.live_fault.LiveFault.{LiveFault}
use Rattle.ucl_live_runs.specs.declared.live_fault.LiveFault.TheVariants.{OtherGroup, Run}
use Rattle.ucl_rows.specs.declared.fault.RunFault.TheVariants.{OutOfMemory}
use Rattle.std.specs.Prelude.{◌++◌, ◌∷◌, ◌≡◌, ◌⊎◌}
use Rattle.ucl_command.specs.declared.options.Format.TheVariants.{Json}
use Rattle.ucl_json.specs.declared.header.BoardHeader.{BoardHeader}
use Rattle.ucl_mends.specs.Mended.{history_in}
use Rattle.ucl_mends.specs.declared.standing.StandingEvent.{StandingEvent}
use Rattle.ucl_live_runs.specs.Mends.{edition_reply}
use Rattle.ucl_live_runs.specs.Phases.{Reached}
use Rattle.ucl_live_runs.specs.Requests.{request_of}
use Rattle.ucl_live_runs.specs.declared.phase.Phase.TheVariants.{Open}
use Rattle.ucl_live_runs.specs.declared.request.Request.{Request}
use Rattle.ucl_live_runs.specs.declared.request.Request.TheVariants.{Bad, Event, Mends}
use Rattle.ucl_live_runs.specs.declared.phase.Phase.{Phase}
use Rattle.ucl_live_runs.specs.declared.header.HeaderState.{HeaderState}
use Rattle.ucl_live_runs.specs.declared.session.Session.{Session as Held}
use Rattle.ucl_live_runs.specs.Driven.{Due, IsDriven}
use Rattle.ucl_live_runs.specs.LiveText.{Session, after_lines, answers, live_text, missing_after, missing_now, next, start_of}
use Rattle.ucl_io.specs.declared.stream.Source as reads
use Rattle.ucl_io.specs.declared.stream.Sink as writes

-- ---- lack of memory

-- the answer of an open board to a request, in text form, needs memory: it shows the board, or a screen follows it, as it does behind the
-- answer to an event that is accepted and to a mend that is not refused
abbrev pub RequestNeedsMemory : LiveArgs → BoardHeader → List StandingEvent → Request → Type 0
RequestNeedsMemory options header events (Event event) =
    (options.screens ≡ true) × (is_ok (sequential_reply (history_in events) event.call) ≡ true)
RequestNeedsMemory options header events (Bad field) = ⊥
RequestNeedsMemory options header events (Mends mend) = (options.screens ≡ true) × (is_ok (edition_reply header.edition events mend) ≡ true)
RequestNeedsMemory options header events request = ⊤

-- what a session in this phase makes of a line that is not empty needs memory: the name of a club does, and each answer in JSON
abbrev pub RowNeedsMemory : Session → Reached → Said → Type 0
RowNeedsMemory session (Ok (Open table)) said =
    (session.options.format ≡ Json) ⊎ RequestNeedsMemory session.options session.header table.events (request_of said)
RowNeedsMemory session (Ok phase) said = ⊤
RowNeedsMemory session (Err fault) said = ⊥

-- a session needs memory at a line: for what it makes of it, or to read it, by `csv`, if it has a quote and is not too long
abbrev pub NeedsMemory : Session → List ℕ → Type 0
NeedsMemory session line =
    ((fits (line ++ 10 ∷ []) ≡ true) × (has_quote line ≡ true)) ⊎ RowNeedsMemory session session.phase (said_on session.row line)

-- ---- the handler

-- the session before the line of this number, from its options, its header and its phase
abbrev pub session_at : LiveArgs → HeaderState → ℕ → Phase → Session
session_at options heading row phase =
    record { options = options; header = heading.header; row = row; phase = Ok phase }

-- the session before the line of this number, from the value that handles its lines
abbrev pub session_of : Held → ℕ → Session
session_of session row = session_at session.config.options session.heading row session.phase

-- a line has no answer for this fault: it is out of memory, and needs some, or the session is refused by the line
abbrev pub HasNoAnswer : Session → List ℕ → LiveFault → Type 0
HasNoAnswer session line fault =
    ((fault ≡ Run OutOfMemory) × NeedsMemory session line) ⊎ ((next session (said_on session.row line)).phase ≡ Err fault)

-- the session at the end of an input whose last line, without a line feed, is `begun`, which may have no byte
abbrev pub end_of : Session → List ℕ → Session
end_of session begun = after_lines session (last_lines begun)

-- the fault of a session whose input ends with the last line `begun`: it is refused, or a club is missing; None if its board is open
abbrev pub missing_at : Session → List ℕ → Option LiveFault
missing_at session begun = missing_now (end_of session begun)

-- a session ends well after the last line `begun`: `text` is its answer, if it has a byte, and no club is missing
pub record Closes (session : Session) (begun text : List ℕ) : Type 0 where
  pub text_is : text ≡ answers session (last_lines begun)
  pub complete : missing_at session begun ≡ None

-- a session fails by this fault after the last line `begun`: it is out of memory, and the line needs some, or a club is bad or missing
abbrev pub HasNoEnd : Session → List ℕ → LiveFault → Type 0
HasNoEnd session begun fault = ((fault ≡ Run OutOfMemory) × NeedsMemory session begun) ⊎ (missing_at session begun ≡ Some fault)

-- ---- a whole run

-- the answers of a session to the lines that end among these bytes; at most 258 bytes of a line are kept
abbrev pub answers_to : Session → List ℕ → List ℕ
answers_to start bytes = answers start (ended_lines 258 [] bytes)

-- the session after the lines that end among these bytes; at most 258 bytes of a line are kept
abbrev pub after_bytes : Session → List ℕ → Session
after_bytes start bytes = after_lines start (ended_lines 258 [] bytes)

-- a session is out of memory for the line at the end of `front`, a prefix of these bytes, and needs some: from `old` to `new` the sink took
-- just the answers, whole, to the lines that end in `front`
pub record RanOutOfMemory (start : Session) (bytes : List ℕ) (old new : Device) : Type 0 where
  pub front : List ℕ
  pub rest : List ℕ
  pub parts : bytes ≡ front ++ rest
  pub out : Appends old.taken new.taken (answers_to start front)
  pub needs : NeedsMemory (after_bytes start front) (begun_line 258 [] front)

-- a session is refused for its first rows, by the bytes that it took or by their end, and has answered nothing
pub record IsRejected (start : Session) (bytes : List ℕ) (old new : Device) (fault : LiveFault) : Type 0 where
  pub refused : ((after_bytes start bytes).phase ≡ Err fault)
      ⊎ (HasEnded old.left new.left × (missing_after start bytes ≡ Some fault))
  pub out : Appends old.taken new.taken []

-- what a session owes for the lines that it reads: their answers; it stops if out of memory or refused, and ends well only with all clubs
abbrev pub session_due : Session → Due ⊤ LiveFault
session_due start = record {
  so_far = answers_to start;
  whole = live_text start;
  Stops = λ bytes old new fault. ((fault ≡ Run OutOfMemory) × RanOutOfMemory start bytes old new) ⊎ IsRejected start bytes old new fault;
  Ends = λ done bytes. missing_after start bytes ≡ None;
}

-- ---- what `ucl_live` does for its arguments, and how it ends

-- `ucl_live` ends by this fault: its line is printed, and the status is its own, or 2 for another group or order than asked for
abbrev pub EndsBy : LiveFault → Ended → Type 0
EndsBy (Run fault) ended = (ended.code ≡ status fault) × Prints ended.failed ended.old ended.new (fault_line fault)
EndsBy OtherGroup ended = (ended.code ≡ 2) × Prints ended.failed ended.old ended.new other_group_text

-- `ucl_live` ends after a session with this outcome: with status 0 and nothing printed, or by its fault
abbrev pub EndsHeld : Result ⊤ (ServeFault LiveFault) → Ended → Type 0
EndsHeld (Ok done) ended = (ended.code ≡ 0) × (ended.new ≡ ended.old)
EndsHeld (Err fault) ended = (told : LiveFault) × IsOfDriver (λ own f. f ≡ Run own) fault told × EndsBy told ended

-- what `ucl_live` does with its source and its sink: a session, if its arguments ask for one; else it reads nothing and answers them (help,
-- a refusal, out of memory). `ended` is its exit status, and what it printed on the error sink
abbrev pub RunsSession : {S W : Type 0} → reads.Ghosts S → writes.Ghosts W → Result LiveArgs LineFault → LoggedIo S W Held → LoggedIo S W Held
    → Ended → Type 0
RunsSession source sink (Ok options) before after ended =
    (outcome : Result ⊤ (ServeFault LiveFault)) × IsDriven (session_due (start_of options)) source sink before after outcome × EndsHeld outcome ended
RunsSession source sink (Err fault) before after ended = AnsweredAlone sink fault before after ended

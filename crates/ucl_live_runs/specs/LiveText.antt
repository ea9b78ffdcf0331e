-- The text of a session of `ucl_live`: what it answers to its lines. The answer to a bad row has its text, `shown`.
use Rattle.std.specs.Prelude.{if◌then◌else◌, ◌++◌, ◌+◌, ◌∷◌, Err, List, Ok, Option, Result, [], length, unwrap_or, ℕ}
use Rattle.ucl_board.specs.declared.night_event.NightEvent.{NightEvent}
use Rattle.ucl_board.specs.History.{sequential_reply}
use Rattle.ucl_command.specs.declared.live.LiveArgs.{LiveArgs}
use Rattle.ucl_json.specs.declared.header.BoardHeader.{BoardHeader}
use Rattle.ucl_order.specs.Roster.{NamedClub}
use Rattle.ucl_rows.specs.Answers.{bad_answer, matches_answer, reply_answer, screen_answer, words_answer}
use Rattle.ucl_rows.specs.BadRows.{shown_text}
use Rattle.ucl_rows.specs.InputLines.{lines_of}
use Rattle.ucl_rows.specs.Rows.{Nothing, Said, said_on}
use Rattle.ucl_live_runs.specs.declared.live_fault.LiveFault.{LiveFault}
use Rattle.ucl_word.specs.declared.event.Accepted.{Accepted}
use Rattle.ucl_word.specs.declared.refusal.Refusal.{Refusal}
use Rattle.ucl_mends.specs.Mended.{entered, history_in}
use Rattle.ucl_live_runs.specs.Mends.{board_in, clubs_after, edition_reply, events_after, left_out_by, mend_refused_answer, mended_answer, row_named}
use Rattle.ucl_live_runs.specs.Phases.{Reached, after_beginning, after_club, club_said, missing, open_at}
use Rattle.ucl_live_runs.specs.Requests.{asked_header, header_said, is_group_row, request_of}
use Rattle.ucl_mends.specs.declared.mend_refusal.MendRefusal.{MendRefusal}
use Rattle.ucl_live_runs.specs.declared.phase.Phase.TheVariants.{AwaitingClubs, AwaitingHeader, Open}
use Rattle.ucl_live_runs.specs.declared.request.Mend.{Mend}
use Rattle.ucl_live_runs.specs.declared.request.Request.{Request}
use Rattle.ucl_live_runs.specs.declared.request.Request.TheVariants.{Bad, Event, Matches, Mends, Screen, Words}
use Rattle.ucl_mends.specs.declared.standing.StandingEvent.{StandingEvent}

-- a session between two lines: its options, the header of its board, the number of the next line, and its phase or the fault that it is
-- refused for
pub record Session : Type 0 where
  pub options : LiveArgs
  pub header : BoardHeader
  pub row : ℕ
  pub phase : Reached

-- the session with these options before the first line
abbrev pub start_of : LiveArgs → Session
start_of options = record { options = options; header = asked_header options; row = 1; phase = Ok AwaitingHeader }

-- ---- what a request does

-- header and phase of a session
pub record Stage : Type 0 where
  pub header : BoardHeader
  pub phase : Reached

-- this header and this phase
abbrev pub stage : BoardHeader → Reached → Stage
stage header phase = record { header = header; phase = phase }

-- header and phase of an open board after a mend, by the reply to it: a later edition, with clubs
-- and events as the mend makes them; or, if it is refused, as before
abbrev pub mended_stage : BoardHeader → List NamedClub → List StandingEvent → Mend → Result ℕ MendRefusal → Stage
mended_stage header clubs events mend (Ok edition) = stage (record header { edition = edition }) (open_at (clubs_after clubs mend) (events_after events mend))
mended_stage header clubs events mend (Err refusal) = stage header (open_at clubs events)

-- header and phase after a request of row number `row`: an accepted event stands; a mend changes both, if it is not refused
abbrev pub request_stage : BoardHeader → ℕ → List NamedClub → List StandingEvent → Request → Stage
request_stage header row clubs events (Event event) = stage header (open_at clubs (entered row events event))
request_stage header row clubs events (Mends mend) = mended_stage header clubs events mend (edition_reply header.edition events mend)
request_stage header row clubs events request = stage header (open_at clubs events)

-- ---- the answer to a line

-- the screen that follows an answer, if the options ask for screens; else nothing
abbrev pub screen_if : LiveArgs → BoardHeader → ℕ → List NamedClub → List ℕ → List ℕ
screen_if options header row clubs board = if options.screens then screen_answer options.format header row clubs board else []

-- the screen that follows the reply to an event, if this was accepted and the options ask for screens; else nothing
abbrev pub screen_after : LiveArgs → BoardHeader → ℕ → List NamedClub → Result Accepted Refusal → List ℕ → List ℕ
screen_after options header row clubs (Ok accepted) board = screen_if options header row clubs board
screen_after options header row clubs (Err refusal) board = []

-- the answer to an event: its reply, and then the screen, if the event is accepted and the options ask for screens
abbrev pub event_answer : LiveArgs → BoardHeader → ℕ → List NamedClub → List StandingEvent → NightEvent → List ℕ
event_answer options header row clubs events event =
    let reply = sequential_reply (history_in events) event.call in
    let after = board_in (entered row events event) in
    reply_answer options.format header.edition row event (length events) reply after ++ screen_after options header row clubs reply after

-- the answer to a mend, by the reply to it; and then the screen, if it is not refused and the options ask for screens
abbrev pub mend_answer : LiveArgs → BoardHeader → ℕ → List NamedClub → List StandingEvent → Mend → Result ℕ MendRefusal → List ℕ
mend_answer options header row clubs events mend (Err refusal) = mend_refused_answer options.format row refusal
mend_answer options header row clubs events mend (Ok edition) =
    let later = record header { edition = edition } in
    let all = clubs_after clubs mend in
    let stand = events_after events mend in
    mended_answer options.format row edition (left_out_by events mend) (row_named mend) stand ++ screen_if options later row all (board_in stand)

-- what an open board answers to the request of row number `row`; the answer to a bad row has its text, `shown`
abbrev pub answer_of : LiveArgs → BoardHeader → ℕ → List NamedClub → List StandingEvent → Request → List ℕ → List ℕ
answer_of options header row clubs events (Event event) shown = event_answer options header row clubs events event
answer_of options header row clubs events (Bad field) shown = bad_answer options.format row field shown
answer_of options header row clubs events Screen shown = screen_answer options.format header row clubs (board_in events)
answer_of options header row clubs events Words shown = words_answer options.format row (board_in events)
answer_of options header row clubs events Matches shown = matches_answer options.format row clubs (board_in events)
answer_of options header row clubs events (Mends mend) shown = mend_answer options header row clubs events mend (edition_reply header.edition events mend)

-- what a session in this phase answers to a line: nothing before its board is open, or if it is refused
abbrev pub answer_at : Session → Reached → Said → List ℕ → List ℕ
answer_at session (Ok (Open table)) said shown = answer_of session.options session.header session.row table.roster table.events (request_of said) shown
answer_at session reached said shown = []

-- what a session answers to a line: nothing if it is empty, or before the board is open
abbrev pub answer_said : Session → Said → List ℕ → List ℕ
answer_said session Nothing shown = []
answer_said session said shown = answer_at session session.phase said shown

-- ---- the session after a line

-- the header after the first row: that which it names, if it is the row of a group that names one; else the one before
abbrev pub first_header : BoardHeader → Said → BoardHeader
first_header header said = if is_group_row said then unwrap_or (header_said said) header else header

-- header and phase of a session, in this phase or refused, after a line that is not empty
abbrev pub next_at : Session → Reached → Said → Stage
next_at session (Ok AwaitingHeader) said = stage (first_header session.header said) (after_beginning session.options session.row said)
next_at session (Ok (AwaitingClubs clubs)) said = stage session.header (after_club session.row clubs (club_said (length clubs + 1) said))
next_at session (Ok (Open table)) said = request_stage session.header session.row table.roster table.events (request_of said)
next_at session (Err fault) said = stage session.header (Err fault)

-- header and phase of a session after a line; an empty line changes neither
abbrev pub stage_after : Session → Said → Stage
stage_after session Nothing = stage session.header session.phase
stage_after session said = next_at session session.phase said

-- a session with this header and this phase, before the next line
abbrev pub moved : Session → Stage → Session
moved session to = record { options = session.options; header = to.header; row = session.row + 1; phase = to.phase }

-- the session after a line
abbrev pub next : Session → Said → Session
next session said = moved session (stage_after session said)

-- ---- lines

-- the answers of a session to these lines, one after the other
unfoldable pub answers : Session → List (List ℕ) → List ℕ
answers session [] = []
answers session (line ∷ lines) = answer_said session (said_on session.row line) (shown_text line) ++ answers (next session (said_on session.row line)) lines

-- the session after these lines, one after the other
unfoldable pub after_lines : Session → List (List ℕ) → Session
after_lines session [] = session
after_lines session (line ∷ lines) = after_lines (next session (said_on session.row line)) lines

-- the answers of a session to these bytes, which are all that is left of its input
abbrev pub live_text : Session → List ℕ → List ℕ
live_text session bytes = answers session (lines_of bytes)

-- the fault of a session whose input ends here: that which it is refused for, or a club is missing; None if its board is open
abbrev pub missing_now : Session → Option LiveFault
missing_now session = missing session.row session.phase

-- the fault of a session whose input ends after these bytes: that which it is refused for, or a club is missing; None if its board is open
abbrev pub missing_after : Session → List ℕ → Option LiveFault
missing_after session bytes = missing_now (after_lines session (lines_of bytes))

-- What holds of all sessions of `ucl_live`. `Session` is one between two lines, `after_lines` the session after lines, `answers` their
-- answers.
use Rattle.std.specs.List.{fold}
use Rattle.std.specs.Prelude.{Err, List, Ok, Result, [], false, length, ℕ, ⊤}
use Rattle.ucl_board.specs.History.{Attempt, IsLegal, after_attempt, board_of, sequential_reply}
use Rattle.ucl_board.specs.declared.entry.Entry.{Entry}
use Rattle.ucl_board.specs.declared.night_event.NightEvent.{NightEvent}
use Rattle.ucl_command.specs.declared.live.LiveArgs.{LiveArgs}
use Rattle.ucl_json.specs.Lines.{AreLinesOfValues, json_line}
use Rattle.ucl_json.specs.Values.{reply_value}
use Rattle.ucl_json.specs.declared.header.BoardHeader.{BoardHeader}
use Rattle.ucl_live_runs.specs.declared.request.Request.{Request}
use Rattle.ucl_live_runs.specs.declared.request.Request.TheVariants.{Bad, Event, Matches, Mends, Screen, Words}
use Rattle.ucl_live_runs.specs.declared.request.Mend.{Mend}
use Rattle.ucl_mends.specs.declared.mend_refusal.MendRefusal.{MendRefusal}
use Rattle.ucl_mends.specs.declared.standing.StandingEvent.{StandingEvent}
use Rattle.ucl_mends.specs.Mended.{entered, history_in}
use Rattle.ucl_live_runs.specs.Mends.{clubs_after, edition_reply, events_after}
use Rattle.ucl_order.specs.Roster.{NamedClub}
use Rattle.ucl_rows.specs.Answers.{bad_answer, matches_answer, reply_answer, screen_answer, words_answer}
use Rattle.ucl_rows.specs.BadRows.{shown_text}
use Rattle.ucl_rows.specs.InputLines.{last_lines, lines_of}
use Rattle.ucl_rows.specs.Rows.{Nothing, Said, said_on}
use Rattle.ucl_live_runs.specs.declared.live_fault.LiveFault.{LiveFault}
use Rattle.ucl_screen.specs.Events.{attempt_of}
use Rattle.std.specs.Prelude.{if◌then◌else◌, ◌++◌, ◌+◌, ◌==◌, ◌∷◌, ◌≡◌}
use Rattle.ucl_rows.specs.Lines.{reply_line}
use Rattle.ucl_command.specs.declared.options.Format.{Format}
use Rattle.ucl_command.specs.declared.options.Format.TheVariants.{Json, Text}
use Rattle.ucl_live_runs.specs.Requests.{is_mend, request_of}
use Rattle.ucl_live_runs.specs.LiveText.{Session, after_lines, answers, live_text, next, screen_after}
use Rattle.ucl_live_runs.specs.Phases.{open_at}

-- the lines of some bytes, of any length, cut at line feeds; the first begins with `line`, and the last needs no line feed
unfoldable pub uncut_after : List ℕ → List ℕ → List (List ℕ)
uncut_after line [] = last_lines line
uncut_after line (byte ∷ bytes) = if byte == 10 then line ∷ uncut_after [] bytes else uncut_after (line ++ byte ∷ []) bytes

-- the lines of an input, each whole, however long it is
abbrev pub uncut_lines : List ℕ → List (List ℕ)
uncut_lines bytes = uncut_after [] bytes

-- ---- what a session answers, as the board of one thread has it after a history

-- the attempts that a request makes: the event that it enters, with its reporter, or none
abbrev pub attempts_of : Request → List Attempt
attempts_of (Event event) = attempt_of event ∷ []
attempts_of _ = []

-- the attempts that these lines make on an open board, in their order; the first is line number `row`
unfoldable pub attempts_in : ℕ → List (List ℕ) → List Attempt
attempts_in row [] = []
attempts_in row (line ∷ lines) = attempts_of (request_of (said_on row line)) ++ attempts_in (row + 1) lines

-- the events that stand after a request of row number `row` that is no mend: with an accepted event at their end
abbrev pub entered_by : ℕ → List StandingEvent → Request → List StandingEvent
entered_by row events (Event event) = entered row events event
entered_by row events _ = events

-- the events that stand after these lines, of which none mends; the first is line number `row`
unfoldable pub events_in : ℕ → List StandingEvent → List (List ℕ) → List StandingEvent
events_in row events [] = events
events_in row events (line ∷ lines) = events_in (row + 1) (entered_by row events (request_of (said_on row line))) lines

-- the reply to an event after a history, in this edition: as text the line that `ucl_night feed` writes, in JSON that of the board after it
abbrev pub reply_by_history : Format → ℕ → ℕ → List Entry → NightEvent → List ℕ
reply_by_history Text edition row history event = reply_line row history event.call
reply_by_history Json edition row history event =
    json_line (reply_value row event (sequential_reply history event.call) edition (board_of (after_attempt history (attempt_of event))))

-- the answer to a request after a history: for an event its reply, then the screen if the options ask for it; for a bad row that it is bad;
-- for a request to show the board what it asks for; for a mend nothing
abbrev pub answer_by_history : LiveArgs → BoardHeader → ℕ → List NamedClub → List Entry → Request → List ℕ → List ℕ
answer_by_history options header row clubs history (Event event) shown =
    reply_by_history options.format header.edition row history event
    ++ screen_after options header row clubs (sequential_reply history event.call) (board_of (after_attempt history (attempt_of event)))
answer_by_history options header row clubs history (Bad field) shown = bad_answer options.format row field shown
answer_by_history options header row clubs history Screen shown = screen_answer options.format header row clubs (board_of history)
answer_by_history options header row clubs history Words shown = words_answer options.format row (board_of history)
answer_by_history options header row clubs history Matches shown = matches_answer options.format row clubs (board_of history)
answer_by_history options header row clubs history (Mends mend) shown = []

-- the answer to a line on the board of a history; an empty line has none
abbrev pub line_by_history : LiveArgs → BoardHeader → ℕ → List NamedClub → List Entry → Said → List ℕ → List ℕ
line_by_history options header row clubs history Nothing shown = []
line_by_history options header row clubs history said shown = answer_by_history options header row clubs history (request_of said) shown

-- the answers to these lines, each on the board of the history with the events that were accepted before it
unfoldable pub answers_by_history : LiveArgs → BoardHeader → ℕ → List NamedClub → List Entry → List (List ℕ) → List ℕ
answers_by_history options header row clubs history [] = []
answers_by_history options header row clubs history (line ∷ lines) =
    line_by_history options header row clubs history (said_on row line) (shown_text line)
    ++ answers_by_history options header (row + 1) clubs (fold after_attempt history (attempts_of (request_of (said_on row line)))) lines

-- ---- what holds of all sessions

-- these bytes, and the line feed that ends a line
abbrev pub ended : List ℕ → List ℕ
ended bytes = bytes ++ 10 ∷ []

-- theorem: the answers to an input cut after a line feed are those to its first part, then those to the rest from the session reached
unfoldable pub BeginningsAreAnswered : Type 0
BeginningsAreAnswered = (session : Session) (bytes more : List ℕ)
    → live_text session (ended bytes ++ more) ≡ live_text session (ended bytes) ++ live_text (after_lines session (lines_of (ended bytes))) more

-- none of these lines, of which the first is line number `row`, mends or puts a club in its slot
unfoldable pub NoneMends : ℕ → List (List ℕ) → Type 0
NoneMends row [] = ⊤
NoneMends row (line ∷ lines) = (is_mend (request_of (said_on row line)) ≡ false) × NoneMends (row + 1) lines

-- theorem: after lines of which none mends, the events that stand are those of before and those that the lines enter, in their order
unfoldable pub BoardsTakeEvents : Type 0
BoardsTakeEvents = (session : Session) (lines : List (List ℕ)) (clubs : List NamedClub) (events : List StandingEvent) → session.phase ≡ open_at clubs events
    → NoneMends session.row lines → (after_lines session lines).phase ≡ open_at clubs (events_in session.row events lines)

-- a session is sequential: the events that stand after these lines are a legal history, which is that of before with the accepted ones of
-- the lines; and each reply and each screen is that of the board of the history as it was when its line came
pub record IsSequential (session : Session) (lines : List (List ℕ)) (clubs : List NamedClub) (events : List StandingEvent) : Type 0 where
  pub legal : IsLegal (history_in (events_in session.row events lines))
  pub history : history_in (events_in session.row events lines) ≡ fold after_attempt (history_in events) (attempts_in session.row lines)
  pub phase : (after_lines session lines).phase ≡ open_at clubs (events_in session.row events lines)
  pub text : answers session lines ≡ answers_by_history session.options session.header session.row clubs (history_in events) lines

-- theorem: a session in which the events that stand are a legal history is sequential, for any lines of which none mends
unfoldable pub SessionsAreSequential : Type 0
SessionsAreSequential = (session : Session) (lines : List (List ℕ)) (clubs : List NamedClub) (events : List StandingEvent) → IsLegal (history_in events)
    → session.phase ≡ open_at clubs events → NoneMends session.row lines → IsSequential session lines clubs events

-- a session, `old` and then `new`, whose open board had these clubs and events was mended as a row that says `said` asks: it is in a later
-- edition, with clubs and events as the mend makes them; or, if the mend is refused, as before
abbrev pub IsMended : Session → Session → List NamedClub → List StandingEvent → Mend → Result ℕ MendRefusal → Type 0
IsMended old new clubs events mend (Ok edition) =
    (new.header ≡ record old.header { edition = edition }) × (new.phase ≡ open_at (clubs_after clubs mend) (events_after events mend))
IsMended old new clubs events mend (Err refusal) = (new.header ≡ old.header) × (new.phase ≡ open_at clubs events)

-- theorem: a line that asks for a mend brings an open board to a later edition, with clubs and events as the mend makes them; if it is
-- refused, nothing changes
unfoldable pub MendsAreDone : Type 0
MendsAreDone = (session : Session) (said : Said) (clubs : List NamedClub) (events : List StandingEvent) (mend : Mend) → session.phase ≡ open_at clubs events
    → request_of said ≡ Mends mend → IsMended session (next session said) clubs events mend (edition_reply session.header.edition events mend)

-- theorem: the reply to an event after a history, as text, is the line that `ucl_night feed` writes for it
unfoldable pub RepliesAreThoseOfFeed : Type 0
RepliesAreThoseOfFeed = (edition : ℕ) (board : List ℕ) (history : List Entry) (row : ℕ) (event : NightEvent)
    → reply_answer Text edition row event (length history) (sequential_reply history event.call) board ≡ reply_line row history event.call

-- theorem: if the format is JSON, the answers are JSON values, each on a line of its own
unfoldable pub JsonAnswersAreLines : Type 0
JsonAnswersAreLines = (session : Session) (lines : List (List ℕ)) → session.options.format ≡ Json → AreLinesOfValues (answers session lines)

-- theorem: a session that is refused, for the rows that name its group and its clubs, has answered nothing
unfoldable pub RefusedSessionsAreSilent : Type 0
RefusedSessionsAreSilent = (session : Session) (lines : List (List ℕ)) (fault : LiveFault) → (after_lines session lines).phase ≡ Err fault → answers session lines ≡ []

-- the answers to these bytes, and the session after them, which keeps 258 bytes of a line, are those of the whole lines
pub record IsOfUncutLines (session : Session) (bytes : List ℕ) : Type 0 where
  pub text : live_text session bytes ≡ answers session (uncut_lines bytes)
  pub after : after_lines session (lines_of bytes) ≡ after_lines session (uncut_lines bytes)

-- theorem: a session, which keeps 258 bytes of a line, answers an input as if its lines, of any length, were kept whole
unfoldable pub LinesAreReadWhole : Type 0
LinesAreReadWhole = (session : Session) (bytes : List ℕ) → IsOfUncutLines session bytes

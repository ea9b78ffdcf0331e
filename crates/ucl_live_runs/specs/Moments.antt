-- Every table that anyone sees is that of one moment of a record: what followers show of its answers, in any order, and what two runs of
-- `ucl_live` and `ucl_follow` come to from the rows to the tables.
use Rattle.std.specs.List.{Contains}
use Rattle.std.specs.List.Sorted.{IsStrictlyIncreasing}
use Rattle.std.specs.Prelude.{All, List, None, Ok, Option, Some, [], codes, drop, false, flat_map, length, map, take, true, ℕ, ⊤}
use Rattle.ucl_board.specs.History.{IsLegal}
use Rattle.ucl_command.specs.declared.follow.FollowArgs.{FollowArgs}
use Rattle.ucl_command.specs.declared.follow.FollowShape.{FollowShape}
use Rattle.ucl_command.specs.declared.live.LiveArgs.{LiveArgs}
use Rattle.ucl_command.specs.declared.follow.FollowShape.TheVariants.{Json, Text}
use Rattle.ucl_command.specs.declared.options.Format.{Format}
use Rattle.ucl_command.specs.declared.options.Format.TheVariants as format
use Rattle.ucl_io.specs.declared.logged_io.LoggedIo.{LoggedIo}
use Rattle.ucl_io.specs.declared.stream.Sink as writes
use Rattle.ucl_io.specs.declared.stream.Source as reads
use Rattle.ucl_json.specs.declared.board_state.BoardState.{BoardState}
use Rattle.ucl_live_runs.specs.Driven.{Due, IsDriven}
use Rattle.ucl_live_runs.specs.Follow.{CarryNoOther, IsCarriedIn, IsLatest, IsRecord, IsShownLast, answer_lines, board_state_now, board_states_shown}
use Rattle.ucl_live_runs.specs.Follow.{follow_outputs, is_later, output_text, unseen, whole_lines}
use Rattle.ucl_live_runs.specs.FollowerRuns.{follow_due}
use Rattle.ucl_live_runs.specs.LiveText.{Session, after_lines, answer_said, live_text, start_of}
use Rattle.ucl_live_runs.specs.Phases.{Reached}
use Rattle.ucl_live_runs.specs.Requests.{is_asked}
use Rattle.ucl_live_runs.specs.SessionRuns.{session_due}
use Rattle.ucl_live_runs.specs.declared.follower.Follower.{Follower}
use Rattle.ucl_live_runs.specs.declared.phase.Phase.TheVariants.{Open}
use Rattle.ucl_live_runs.specs.declared.session.Session.{Session as Held}
use Rattle.ucl_mends.specs.Mended.{history_in}
use Rattle.ucl_order.specs.Roster.{IsRoster}
use Rattle.ucl_rows.specs.BadRows.{shown_text}
use Rattle.ucl_rows.specs.InputLines.{lines_of}
use Rattle.ucl_rows.specs.Rows.{said_on}
use Rattle.std.specs.Prelude.{if◌then◌else◌, ◌++◌, ◌+◌, ◌^◌, ◌∷◌, ◌≡◌, ◌≤◌}

-- ---- the moments of a record

-- a moment of a record: the session with these options after the first lines of the rows, as many as `place` says
abbrev pub moment : LiveArgs → List ℕ → ℕ → Session
moment options rows place = after_lines (start_of options) (take place (lines_of rows))

-- the board state of a moment; None if the board is not open then
abbrev pub board_state_of_moment : LiveArgs → List ℕ → ℕ → Option BoardState
board_state_of_moment options rows place = board_state_now (moment options rows place)

-- if the board of a session in this phase is open, its clubs are a roster, and the events that stand, after all mends, are a legal history
abbrev pub IsLegalAt : Reached → Type 0
IsLegalAt (Ok (Open table)) = IsRoster table.roster × IsLegal (history_in table.events)
IsLegalAt _ = ⊤

-- these board states, one after the other, are those of a record at these places: each later than the one before, and of a legal history
pub record AreMoments (options : LiveArgs) (rows : List ℕ) (places : List ℕ) (board_states : List BoardState) : Type 0 where
  pub rising : IsStrictlyIncreasing places
  pub within : All (λ place. place ≤ length (lines_of rows)) places
  pub legal : All (λ place. IsLegalAt (moment options rows place).phase) places
  pub same : map Some board_states ≡ map (board_state_of_moment options rows) places

-- ---- what a follower shows

-- a table that a follower shows: the number of the line that it is shown of, and the place of its moment in the record
pub record Showing : Type 0 where
  pub line : ℕ
  pub place : ℕ

-- the text that shows a board state of the line of this number, if there is one; else nothing
abbrev pub text_if : FollowShape → ℕ → Option BoardState → List ℕ
text_if shape line None = []
text_if shape line (Some board_state) = output_text shape line board_state

-- the tables of these moments of a record, one after the other, each as text, in JSON or as matches
abbrev pub tables_text : FollowShape → LiveArgs → List ℕ → List Showing → List ℕ
tables_text shape options rows showings = flat_map (λ showing. text_if shape showing.line (board_state_of_moment options rows showing.place)) showings

-- of these lines a follower has shown last the newest board state among those that they carry and that `args` asks for
pub record ShowsTheNewest (args : FollowArgs) (lines : List (List ℕ)) : Type 0 where
  pub newest : BoardState
  pub latest : IsLatest args newest lines
  pub shown : IsShownLast args newest lines

-- what a follower shows of these lines are the board states of moments of a record, in rising order, and in each shape it writes just the
-- tables of these moments. It is never behind: after each of the lines it has shown the newest of those that came, if any came. If a line
-- carries the board state at the record's end, this is shown last
pub record ShowsMoments (options : LiveArgs) (rows : List ℕ) (args : FollowArgs) (lines : List (List ℕ)) : Type 0 where
  pub showings : List Showing
  pub moments : AreMoments options rows (map (λ showing. showing.place) showings) (board_states_shown (unseen args) lines)
  pub text : (shape : FollowShape) → follow_outputs shape (unseen args) lines ≡ tables_text shape options rows showings
  pub never_behind : (count : ℕ) (board_state : BoardState) → IsCarriedIn (take count lines) board_state
      → is_asked args.group args.profile board_state.header ≡ true → ShowsTheNewest args (take count lines)
  pub last : (board_state : BoardState) → IsRecord options rows args board_state → IsCarriedIn lines board_state
      → IsShownLast args board_state lines

-- theorem: of answers to a record, in any order and number, each table that is shown is that of one moment of the record, in rising order
unfoldable pub EveryTableIsOneMoment : Type 0
EveryTableIsOneMoment = (options : LiveArgs) (rows : List ℕ) (args : FollowArgs) (lines : List (List ℕ))
    → options.format ≡ format.Json → length rows ≤ 2 ^ 62
    → CarryNoOther args (answer_lines options rows) lines → ShowsMoments options rows args lines

-- ---- what a session itself shows

-- the shape of the tables of a session whose answers have this format
abbrev pub shape_of_format : Format → FollowShape
shape_of_format format.Text = Text
shape_of_format format.Json = Json

-- this session without `--screens`
abbrev pub without_screens : Session → Session
without_screens session = record session { options = record session.options { screens = false } }

-- of two board states, one line apart, the text that shows the second, if it is newer: the line had an event that was accepted, or a mend
abbrev pub newer_text : FollowShape → ℕ → Option BoardState → Option BoardState → List ℕ
newer_text shape line (Some before) (Some after) = if is_later after before then output_text shape line after else []
newer_text shape line _ _ = []

-- what a session writes for a line of a record, which comes after the first ones, as many as `place` says: its answer as without
-- `--screens`, and then the table of the moment after it, if this is newer than that of the moment before it
abbrev pub answer_with_table : LiveArgs → List ℕ → ℕ → List ℕ → List ℕ
answer_with_table options rows place line =
    answer_said (without_screens (moment options rows place)) (said_on (place + 1) line) (shown_text line)
    ++ newer_text (shape_of_format options.format) (place + 1) (board_state_of_moment options rows place) (board_state_of_moment options rows (place + 1))

-- what it writes for these lines, which come after the first ones, as many as `place` says
unfoldable pub answers_with_tables : LiveArgs → List ℕ → ℕ → List (List ℕ) → List ℕ
answers_with_tables options rows place [] = []
answers_with_tables options rows place (line ∷ lines) = answer_with_table options rows place line ++ answers_with_tables options rows (place + 1) lines

-- a session with `--screens` shows the moments of its record, each of a legal history, in their order: one for each accepted event and each
-- mend, and none for another line but `screen,,,`, whose answer it is
pub record ShowsItsMoments (options : LiveArgs) (rows : List ℕ) : Type 0 where
  pub legal : (place : ℕ) → IsLegalAt (moment options rows place).phase
  pub text : live_text (start_of options) rows ≡ answers_with_tables options rows 0 (lines_of rows)

-- theorem: each session with `--screens`, as text or in JSON, shows the moments of its record
unfoldable pub SessionsShowMoments : Type 0
SessionsShowMoments = (options : LiveArgs) (rows : List ℕ) → options.screens ≡ true → ShowsItsMoments options rows

-- ---- what is not of this form

-- theorem: board states of which one is newer than a later one are not those of moments of a record: a follower that goes back is not of
-- this form
unfoldable pub OlderMomentsAreRefused : Type 0
OlderMomentsAreRefused = (options : LiveArgs) (rows places : List ℕ) (before between after : List BoardState) (newer older : BoardState) → options.format ≡ format.Json
    → length rows ≤ 2 ^ 62 → is_later newer older ≡ true → AreMoments options rows places (before ++ newer ∷ (between ++ older ∷ after)) → ⊥

-- the rows of a record: four clubs, and then match 1 is kicked off, and then match 7
abbrev pub two_kickoffs : List ℕ
two_kickoffs = codes "club,1,A,0\nclub,2,B,0\nclub,3,C,0\nclub,4,D,0\n1,1,0,kickoff\n1,7,0,kickoff\n"

-- a mixture of two board states: matches 1 to 6 are those of the first, and matches 7 to 12 those of the second
abbrev pub mixture : BoardState → BoardState → BoardState
mixture first second = record first { board = take 6 first.board ++ drop 6 second.board }

-- theorem: a mixture of two moments of this record, before and after the kickoffs, is not that of any moment: a follower that shows it is
-- not of this form
unfoldable pub MixturesAreRefused : Type 0
MixturesAreRefused = (options : LiveArgs) (places : List ℕ) (before after : List BoardState) (first second : BoardState) → options.format ≡ format.Json
    → board_state_of_moment options two_kickoffs 4 ≡ Some first → board_state_of_moment options two_kickoffs 6 ≡ Some second
    → AreMoments options two_kickoffs places (before ++ mixture first second ∷ after) → ⊥

-- ---- from the rows of one run to the tables of another

-- a run that owes the text that `due` says ended well: its source had just the bytes `input` left, and its sink took just `output`
pub record EndedWell {Value Fault S W State : Type 0} (due : Due Value Fault) (source : reads.Ghosts S) (sink : writes.Ghosts W) (before after : LoggedIo S W State)
    (input output : List ℕ) : Type 0 where
  pub value : Value
  pub driven : IsDriven due source sink before after (Ok value)
  pub left : source.left before.source ≡ Some input
  pub taken : List ℕ
  pub taken_before : sink.taken before.sink ≡ Some taken
  pub taken_after : sink.taken after.sink ≡ Some (taken ++ output)

-- what a follower wrote are the tables of moments of the record, in the shape that it was asked for
pub record WroteMoments (options : LiveArgs) (rows : List ℕ) (args : FollowArgs) (lines : List (List ℕ)) (output : List ℕ) : Type 0 where
  pub shows : ShowsMoments options rows args lines
  pub text : output ≡ tables_text args.shape options rows shows.showings

-- theorem: if a run of `ucl_live` in JSON and one of `ucl_follow`, each over any source and sink, ended well, and what the second read are
-- lines that the first wrote, in any order and number, then all that the second wrote are tables of moments of the record
unfoldable pub RunsShowMoments : {S W F O T : Type 0} → reads.Ghosts S → writes.Ghosts W → reads.Ghosts F → writes.Ghosts O → writes.Ghosts T → Type 0
RunsShowMoments {S} {W} {F} {O} {T} rows_from answers_to lines_from tables_to passed_to =
    (options : LiveArgs) (args : FollowArgs) (rows answers lines tables : List ℕ) (live live_after : LoggedIo S W Held) (follow follow_after : LoggedIo F O (Follower T))
    → options.format ≡ format.Json → length rows ≤ 2 ^ 62 → EndedWell (session_due (start_of options)) rows_from answers_to live live_after rows answers
    → EndedWell (follow_due args) lines_from tables_to follow follow_after lines tables → All (Contains (whole_lines answers)) (whole_lines lines)
    → WroteMoments options rows args (whole_lines lines) tables

-- What a follower (`ucl_follow`) shows of the lines that it reads: each board state that is newer than all before.
use Rattle.std.specs.List.{Contains, fold}
use Rattle.std.specs.Prelude.{All, Bool, List, None, Ok, Option, Some, [], false, flat_map, length, map, min, nat_lt, option_to_list, true, ℕ, ⊤}
use Rattle.std.specs.Result.{is_ok}
use Rattle.ucl_board.specs.History.{Attempt, IsAttempt, IsLegal, after_attempt, board_after, board_of, sequential_reply}
use Rattle.ucl_board.specs.Words.{AreWords, version_of}
use Rattle.ucl_board.specs.declared.entry.Entry.{Entry}
use Rattle.ucl_command.specs.declared.follow.FollowArgs.{FollowArgs}
use Rattle.ucl_command.specs.declared.follow.FollowShape.{FollowShape}
use Rattle.ucl_command.specs.declared.live.LiveArgs.{LiveArgs}
use Rattle.ucl_io.specs.Lines.{ended_lines}
use Rattle.ucl_json.specs.BoardLines.{parse_board_line, parse_board_state}
use Rattle.ucl_json.specs.Lines.{json_line}
use Rattle.serde_json.specs.Data.{Data}
use Rattle.ucl_json.specs.Values.{edition_screen_value}
use Rattle.ucl_json.specs.declared.board_state.BoardState.{BoardState}
use Rattle.ucl_json.specs.declared.header.BoardHeader.{BoardHeader}
use Rattle.ucl_order.specs.Roster.{IsRoster, NamedClub}
use Rattle.ucl_rows.specs.InputLines.{lines_of}
use Rattle.ucl_screen.specs.Screen.{IsGroup, screen_text}
use Rattle.std.specs.Prelude.{if◌then◌else◌, ◌&&◌, ◌++◌, ◌+◌, ◌-◌, ◌<◌, ◌==◌, ◌^◌, ◌||◌, ◌∷◌, ◌≡◌, ◌≤◌, ◌⊎◌}
use Rattle.ucl_screen.specs.Matches.{matches_text}
use Rattle.ucl_command.specs.declared.follow.FollowShape.TheVariants.{Json, Matches, Text}
use Rattle.serde_json.specs.Written.{compact_text}
use Rattle.ucl_live_runs.specs.Requests.{is_asked}
use Rattle.ucl_live_runs.specs.declared.follower.FollowState.{FollowState}
use Rattle.ucl_live_runs.specs.Mends.{board_in}
use Rattle.ucl_live_runs.specs.Phases.{Reached}
use Rattle.ucl_live_runs.specs.declared.phase.Phase.TheVariants.{Open}
use Rattle.ucl_live_runs.specs.LiveText.{Session, after_lines, live_text, start_of}
use Rattle.ucl_command.specs.declared.options.Format.TheVariants as format

-- ---- what is shown

-- the table of a board state: its screen, as text
abbrev pub table_text : BoardState → List ℕ
table_text board_state = screen_text board_state.header.profile board_state.board board_state.roster board_state.header.group

-- the text that shows a board state which the line of this number carries: its screen, as text or in JSON, or its twelve matches
abbrev pub output_text : FollowShape → ℕ → BoardState → List ℕ
output_text Text row board_state = table_text board_state
output_text Json row board_state = json_line (edition_screen_value row board_state.header board_state.board board_state.roster)
output_text Matches row board_state = matches_text board_state.board board_state.roster

-- whether the first board state is of a later edition than the second, or of the same edition and a higher version
abbrev pub is_later : BoardState → BoardState → Bool
is_later board_state other =
    nat_lt other.header.edition board_state.header.edition || ((other.header.edition == board_state.header.edition) && nat_lt (version_of other.board) (version_of board_state.board))

-- whether a board state is later than the newest that was shown, the first argument; true if none was shown yet
abbrev pub is_newer : Option BoardState → BoardState → Bool
is_newer None board_state = true
is_newer (Some newest) board_state = is_later board_state newest

-- a count with one more, at most the greatest number of 64 bits
abbrev pub one_more : ℕ → ℕ
one_more n = min (n + 1) (2 ^ 64 - 1)

-- the state of a follower before the first line, with the group and the tie-break order that its arguments ask for, if any
abbrev pub unseen : FollowArgs → FollowState
unseen args = record { group = args.group; profile = args.profile; newest = None; lines = 0; shown = 0 }

-- whether a follower shows a board state: it is of the group and the tie-break order that it follows, if any yet, and newer than all before
abbrev pub is_shown : FollowState → BoardState → Bool
is_shown state board_state = is_asked state.group state.profile board_state.header && is_newer state.newest board_state

-- this board state, if there is one and a follower in this state shows it; else None
abbrev pub shown_if : FollowState → Option BoardState → Option BoardState
shown_if state None = None
shown_if state (Some board_state) = if is_shown state board_state then Some board_state else None

-- the board state that a line carries, if a follower in this state shows it; None if the line carries none, or it is not shown
abbrev pub shown_of : FollowState → List ℕ → Option BoardState
shown_of state line = shown_if state (parse_board_line line)

-- the state of a follower after a line of which it shows this board state, if any: from then on it follows its group and tie-break order
abbrev pub after_shown : FollowState → Option BoardState → FollowState
after_shown state None = record { group = state.group; profile = state.profile; newest = state.newest; lines = one_more state.lines; shown = state.shown }
after_shown state (Some board_state) =
    record { group = Some board_state.header.group; profile = Some board_state.header.profile; newest = Some board_state; lines = one_more state.lines; shown = one_more state.shown }

-- the state of a follower after a line
abbrev pub after_line : FollowState → List ℕ → FollowState
after_line state line = after_shown state (shown_of state line)

-- the text that a follower writes for the next line if it shows this board state of it; nothing for None
abbrev pub shown_output : FollowShape → FollowState → Option BoardState → List ℕ
shown_output shape state None = []
shown_output shape state (Some board_state) = output_text shape (one_more state.lines) board_state

-- the text that a follower writes for a line: that of the board state which it shows of it, or nothing
abbrev pub line_output : FollowShape → FollowState → List ℕ → List ℕ
line_output shape state line = shown_output shape state (shown_of state line)

-- the state of a follower after these lines, one after the other
unfoldable pub followed : FollowState → List (List ℕ) → FollowState
followed state [] = state
followed state (line ∷ lines) = followed (after_line state line) lines

-- the text that a follower writes for these lines, one after the other
unfoldable pub follow_outputs : FollowShape → FollowState → List (List ℕ) → List ℕ
follow_outputs shape state [] = []
follow_outputs shape state (line ∷ lines) = line_output shape state line ++ follow_outputs shape (after_line state line) lines

-- the lines of an input that have a line feed at their end, each without it, and without what comes after its 4,097th byte
abbrev pub whole_lines : List ℕ → List (List ℕ)
whole_lines bytes = ended_lines 4097 [] bytes

-- the text that a follower with these arguments writes for the lines that end among these bytes
abbrev pub follow_text : FollowArgs → List ℕ → List ℕ
follow_text args bytes = follow_outputs args.shape (unseen args) (whole_lines bytes)

-- ---- what holds of all that is shown

-- the board states that a follower in this state shows of these lines, in their order
unfoldable pub board_states_shown : FollowState → List (List ℕ) → List BoardState
board_states_shown state [] = []
board_states_shown state (line ∷ lines) = option_to_list (shown_of state line) ++ board_states_shown (after_line state line) lines

-- one of the lines carries this board state
abbrev pub IsCarriedIn : List (List ℕ) → BoardState → Type 0
IsCarriedIn lines board_state = Contains (map parse_board_line lines) (Some board_state)

-- each of these board states is newer than the one before it, and the first is newer than `newest`, if there is one
abbrev pub RiseAbove : Option BoardState → List BoardState → Type 0
RiseAbove newest [] = ⊤
RiseAbove newest (board_state ∷ board_states) = (is_newer newest board_state ≡ true) × RiseAbove (Some board_state) board_states

-- a board state is of the group and the tie-break order that a follower in this state follows, as far as it follows any
abbrev pub IsFollowed : FollowState → BoardState → Type 0
IsFollowed state board_state = is_asked state.group state.profile board_state.header ≡ true

-- of these lines a follower shows board states that the lines carry, each newer than the one before, all of the group and the tie-break
-- order that it follows at the beginning (`asked`) and at the end (`has_header`). As text it writes just their screens
pub record RisesInText (state : FollowState) (lines : List (List ℕ)) : Type 0 where
  pub rise : RiseAbove state.newest (board_states_shown state lines)
  pub text : follow_outputs Text state lines ≡ flat_map table_text (board_states_shown state lines)
  pub carried : All (IsCarriedIn lines) (board_states_shown state lines)
  pub asked : All (IsFollowed state) (board_states_shown state lines)
  pub has_header : All (IsFollowed (followed state lines)) (board_states_shown state lines)

-- theorem: from any state, of any lines, each board state that is shown is one that a line carries, and newer than all before
unfoldable pub ShownVersionsRise : Type 0
ShownVersionsRise = (state : FollowState) (lines : List (List ℕ)) → RisesInText state lines

-- ---- the latest board state

-- `other` is older than `board_state`, and of its group and tie-break order
abbrev pub IsOlder : BoardState → BoardState → Type 0
IsOlder board_state other = (is_asked (Some board_state.header.group) (Some board_state.header.profile) other.header ≡ true) × (is_later board_state other ≡ true)

-- a line carries no board state, this one, one that `args` does not ask for, or an older one of its group and tie-break order
abbrev pub IsNoNewer : FollowArgs → BoardState → Option BoardState → Type 0
IsNoNewer args board_state None = ⊤
IsNoNewer args board_state (Some other) = (is_asked args.group args.profile other.header ≡ false) ⊎ (other ≡ board_state) ⊎ IsOlder board_state other

-- this board state is the latest of these lines: one carries it, `args` asks for it, and each other that `args` asks for is older, and of
-- its group and tie-break order
pub record IsLatest (args : FollowArgs) (board_state : BoardState) (lines : List (List ℕ)) : Type 0 where
  pub carried : IsCarriedIn lines board_state
  pub asked : is_asked args.group args.profile board_state.header ≡ true
  pub newest : All (IsNoNewer args board_state) (map parse_board_line lines)

-- a follower shows this board state last of these lines, after those in `before`, and it is the newest that it has shown
pub record IsShownLast (args : FollowArgs) (board_state : BoardState) (lines : List (List ℕ)) : Type 0 where
  pub before : List BoardState
  pub shown : board_states_shown (unseen args) lines ≡ before ++ board_state ∷ []
  pub newest : (followed (unseen args) lines).newest ≡ Some board_state

-- theorem: the latest board state that lines carry, of those that the arguments ask for, is the last that a follower shows of them
unfoldable pub LatestIsShownLast : Type 0
LatestIsShownLast = (args : FollowArgs) (board_state : BoardState) (lines : List (List ℕ)) → IsLatest args board_state lines → IsShownLast args board_state lines

-- of the board states that `args` asks for, `others` carry only such as `lines` carry: they may be `lines` in any order, doubled or in part,
-- and other lines that carry no such board state
abbrev pub CarryNoOther : FollowArgs → List (List ℕ) → List (List ℕ) → Type 0
CarryNoOther args lines others =
    (board_state : BoardState) → IsCarriedIn others board_state → is_asked args.group args.profile board_state.header ≡ true → IsCarriedIn lines board_state

-- theorem: the latest board state of `lines` is shown last of `others` that carry no other board states, if one of these carries it
unfoldable pub OthersDoNotMatter : Type 0
OthersDoNotMatter = (args : FollowArgs) (board_state : BoardState) (lines others : List (List ℕ)) → IsLatest args board_state lines → CarryNoOther args lines others
    → IsCarriedIn others board_state → IsShownLast args board_state others

-- ---- the screens of a session, as a follower reads them

-- a board state is one that there can be: a group from A to H, an edition of 16 bits, a roster and a board, whose words have 64 bits
pub record IsBoardState (board_state : BoardState) : Type 0 where
  pub letter : IsGroup board_state.header.group
  pub edition : board_state.header.edition ≤ 65535
  pub clubs : IsRoster board_state.roster
  pub words : AreWords board_state.board
  pub bits : All (λ word. word < 2 ^ 64) board_state.board

-- the JSON value of the screen of a board state, in answer to the row of this number
abbrev pub screen_of : ℕ → BoardState → Data
screen_of row board_state = edition_screen_value row board_state.header board_state.board board_state.roster

-- theorem: the JSON value of a screen parses to just the board state that it is made from
unfoldable pub ScreensTellTheirBoardState : Type 0
ScreensTellTheirBoardState = (row : ℕ) (board_state : BoardState) → IsBoardState board_state → parse_board_state (screen_of row board_state) ≡ Some board_state

-- theorem: the JSON line of a screen parses to just the board state that it is made from, if the number of the row has 64 bits
unfoldable pub LinesTellTheirBoardState : Type 0
LinesTellTheirBoardState = (row : ℕ) (board_state : BoardState) → IsBoardState board_state → row < 2 ^ 64
    → parse_board_line (compact_text (screen_of row board_state)) ≡ Some board_state

-- ---- events that are entered again in one edition, and change nothing

-- among attempts (events, each with its reporter) that were made one after the other, from this history on, this one was accepted
pub record WasAccepted (history : List Entry) (made : List Attempt) (attempt : Attempt) : Type 0 where
  pub before : List Attempt
  pub since : List Attempt
  pub place : made ≡ before ++ attempt ∷ since
  pub accepted : is_ok (sequential_reply (fold after_attempt history before) attempt.call) ≡ true

-- `longer`, made after the attempts in `made`, is `shorter` with repeats: each of its attempts is the next of `shorter`, or is one that was
-- accepted before it, when all were made from this history on
unfoldable pub HasRepeats : (history : List Entry) (made longer shorter : List Attempt) → Type 0
HasRepeats history made [] shorter = shorter ≡ []
HasRepeats history made (attempt ∷ longer) shorter =
    ((rest : List Attempt) × (shorter ≡ attempt ∷ rest) × HasRepeats history (made ++ attempt ∷ []) longer rest)
    ⊎ (WasAccepted history made attempt × HasRepeats history (made ++ attempt ∷ []) longer shorter)

-- two lists of attempts, each made from this history on, lead to the same history and the same board
pub record LeaveTheSame (history : List Entry) (attempts others : List Attempt) : Type 0 where
  pub history_is : fold after_attempt history attempts ≡ fold after_attempt history others
  pub board_is : fold board_after (board_of history) attempts ≡ fold board_after (board_of history) others

-- theorem: attempts with repeats of accepted ones (`longer`) lead to the same history and board as without these (`shorter`)
unfoldable pub RepeatedRowsChangeNothing : Type 0
RepeatedRowsChangeNothing = (history : List Entry) (longer shorter : List Attempt) → IsLegal history → All IsAttempt longer → HasRepeats history [] longer shorter
    → LeaveTheSame history longer shorter

-- ---- a record: the rows of a session, with its mends, and its answers in JSON

-- the board state with this header, these clubs and this board
abbrev pub board_state_with : BoardHeader → List NamedClub → List ℕ → BoardState
board_state_with header clubs board = record { header = header; roster = clubs; board = board }

-- the board state, with this header, of a session in this phase; None if its board is not open, or it is refused
abbrev pub board_state_at : BoardHeader → Reached → Option BoardState
board_state_at header (Ok (Open table)) = Some (board_state_with header table.roster (board_in table.events))
board_state_at header _ = None

-- the board state of a session; None if its board is not open
abbrev pub board_state_now : Session → Option BoardState
board_state_now e = board_state_at e.header e.phase

-- the session with these options after all rows of a record
abbrev pub after_record : LiveArgs → List ℕ → Session
after_record options rows = after_lines (start_of options) (lines_of rows)

-- the lines of the answers that a session with these options gives to the rows of a record
abbrev pub answer_lines : LiveArgs → List ℕ → List (List ℕ)
answer_lines options rows = whole_lines (live_text (start_of options) rows)

-- if both are board states, the second is the first again, or a newer one of its group and tie-break order
abbrev pub IsNoFall : Option BoardState → Option BoardState → Type 0
IsNoFall None later = ⊤
IsNoFall (Some earlier) None = ⊤
IsNoFall (Some earlier) (Some later) = (earlier ≡ later) ⊎ IsOlder later earlier

-- none of these board states, one for each answer that carries one (the others are None), is older than one before it, and two of the same
-- edition and version are the same
unfoldable pub NeverFall : List (Option BoardState) → Type 0
NeverFall [] = ⊤
NeverFall (first ∷ rest) = All (IsNoFall first) rest × NeverFall rest

-- theorem: each line of the answers to a record in JSON has at most 4,096 bytes
unfoldable pub AnswersFitTheirLines : Type 0
AnswersFitTheirLines = (options : LiveArgs) (rows : List ℕ) → options.format ≡ format.Json → length rows ≤ 2 ^ 62
    → All (λ line. length line ≤ 4096) (answer_lines options rows)

-- theorem: the board states that the answers to a record carry, one after the other, never fall, also when it mends
unfoldable pub AnswersNeverFall : Type 0
AnswersNeverFall = (options : LiveArgs) (rows : List ℕ) → options.format ≡ format.Json → length rows ≤ 2 ^ 62 → NeverFall (map parse_board_line (answer_lines options rows))

-- a session answers these rows in JSON and ends with this board state, of a group and a tie-break order as `args` asks a follower for
pub record IsRecord (options : LiveArgs) (rows : List ℕ) (args : FollowArgs) (board_state : BoardState) : Type 0 where
  pub json : options.format ≡ format.Json
  pub short : length rows ≤ 2 ^ 62
  pub ends : board_state_now (after_record options rows) ≡ Some board_state
  pub asked : is_asked args.group args.profile board_state.header ≡ true

-- theorem: the board state at the end of a record, after all its mends, is the latest that the answers carry, if they carry it; with
-- `--screens`, if they carry any
unfoldable pub FollowersEndWithTheBoard : Type 0
FollowersEndWithTheBoard = (options : LiveArgs) (rows : List ℕ) (args : FollowArgs) (board_state other : BoardState) → IsRecord options rows args board_state
    → IsCarriedIn (answer_lines options rows) other → (options.screens ≡ true) ⊎ (other ≡ board_state) → IsLatest args board_state (answer_lines options rows)

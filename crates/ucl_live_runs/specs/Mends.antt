-- What a mend does to the board of a session, and its answer: it takes the event of a row back, names a later edition, or puts a club
-- in its slot. A refused mend changes nothing.
use Rattle.std.specs.Prelude.{if◌then◌else◌, ◌+◌, ◌++◌, ◌-◌, ◌==◌, ℕ, codes, decimal, flat_map, length, nat_lt, set, List, [], Option, Some, None, Result, Ok, Err}
use Rattle.ucl_board.specs.History.{board_of}
use Rattle.ucl_command.specs.declared.options.Format.{Format}
use Rattle.ucl_command.specs.declared.options.Format.TheVariants.{Json, Text}
use Rattle.ucl_json.specs.Lines.{json_line}
use Rattle.ucl_json.specs.Mended.{left_out_value, mend_refused_value, mended_value}
use Rattle.ucl_order.specs.Roster.{NamedClub}
use Rattle.ucl_mends.specs.Mended.{history_in, left_out, mend_reply, mended}
use Rattle.ucl_mends.specs.MendNames.{mend_refusal_code, mend_refusal_name}
use Rattle.ucl_mends.specs.declared.mend_refusal.MendRefusal.{MendRefusal}
use Rattle.ucl_mends.specs.declared.mend_refusal.MendRefusal.TheVariants.{LastEdition}
use Rattle.ucl_live_runs.specs.declared.request.Mend.{Mend}
use Rattle.ucl_live_runs.specs.declared.request.Mend.TheVariants.{As, Club, Without}
use Rattle.ucl_mends.specs.declared.standing.LeftOut.{LeftOut}
use Rattle.ucl_mends.specs.declared.standing.StandingEvent.{StandingEvent}

-- the words of the board of the events that stand
abbrev pub board_in : List StandingEvent → List ℕ
board_in events = board_of (history_in events)

-- the edition after this one, or that there is none
abbrev pub edition_after : ℕ → Result ℕ MendRefusal
edition_after edition = if edition == 65535 then Err LastEdition else Ok (edition + 1)

-- the edition after a mend in this edition, or why it is refused
abbrev pub edition_reply : ℕ → List StandingEvent → Mend → Result ℕ MendRefusal
edition_reply edition events (Without row) = mend_reply edition row events
edition_reply edition events (As later) = if nat_lt edition later then Ok later else Err LastEdition
edition_reply edition events (Club new) = edition_after edition

-- the events that stand after a mend that is not refused
abbrev pub events_after : List StandingEvent → Mend → List StandingEvent
events_after events (Without row) = mended row events
events_after events _ = events

-- the clubs after a mend that is not refused: if it puts in a club, that one in its slot; else the same
abbrev pub clubs_after : List NamedClub → Mend → List NamedClub
clubs_after clubs (Club new) = set clubs (new.slot - 1) new.club
clubs_after clubs _ = clubs

-- the events that a mend leaves out because the rules then refuse them, each with its refusal; none if the mend takes back no event
abbrev pub left_out_by : List StandingEvent → Mend → List LeftOut
left_out_by events (Without row) = left_out row events
left_out_by events _ = []

-- the events that a mend leaves out as far as its answer names them: in JSON
abbrev pub left_by_format : Format → List StandingEvent → Mend → List LeftOut
left_by_format Text events mend = []
left_by_format Json events mend = left_out_by events mend

-- the row whose event a mend takes back
abbrev pub row_named : Mend → Option ℕ
row_named (Without row) = Some row
row_named _ = None

-- ---- answers

-- the line of text that answers a mend: ROW mended EDITION VERSION
abbrev pub mended_line : ℕ → ℕ → ℕ → List ℕ
mended_line row edition version = decimal row ++ codes " mended " ++ decimal edition ++ codes " " ++ decimal version ++ codes "\n"

-- the lines of JSON for the events that a mend leaves out
abbrev pub left_out_lines : List LeftOut → List ℕ
left_out_lines left = flat_map (λ out. json_line (left_out_value out.event.row out.event.entry out.refusal)) left

-- the answer to a mend, without a screen, in the edition after it: in JSON first the events that it leaves out, then that it is done
abbrev pub mended_answer : Format → ℕ → ℕ → List LeftOut → Option ℕ → List StandingEvent → List ℕ
mended_answer Text row edition left without events = mended_line row edition (length events)
mended_answer Json row edition left without events = left_out_lines left ++ json_line (mended_value row without (length left) edition (length events))

-- the answer to a mend that is refused: as text ROW refused CODE NAME
abbrev pub mend_refused_answer : Format → ℕ → MendRefusal → List ℕ
mend_refused_answer Text row refusal = decimal row ++ codes " refused " ++ decimal (mend_refusal_code refusal) ++ codes " " ++ mend_refusal_name refusal ++ codes "\n"
mend_refused_answer Json row refusal = json_line (mend_refused_value row (mend_refusal_code refusal) (mend_refusal_name refusal))

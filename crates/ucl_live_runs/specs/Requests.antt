-- What a row of `ucl_live` asks for, and the header that it names: an event (`3,7,0,kickoff`), what to show (`screen,,,`, `words,,,`,
-- `matches,,,`), a mend (`mend,17,,`, `mend,,15,`, `club,1,Alpha,60000`), or the header of a board (`group,B,uefa,0`).
use Rattle.std.specs.Prelude.{Bool, List, None, Option, Some, [], codes, false, length, nat_le, option_map, true, unwrap_or, ℕ}
use Rattle.ucl_command.specs.declared.live.LiveArgs.{LiveArgs}
use Rattle.ucl_json.specs.declared.header.BoardHeader.{BoardHeader}
use Rattle.ucl_live_runs.specs.declared.request.Request.{Request}
use Rattle.ucl_live_runs.specs.declared.request.Request.TheVariants.{Bad, Event, Matches, Mends, Screen, Words}
use Rattle.ucl_live_runs.specs.declared.request.Mend.{Mend}
use Rattle.ucl_live_runs.specs.declared.request.Mend.TheVariants.{As, Club, Without}
use Rattle.ucl_live_runs.specs.NewClubs.{ClubInSlot, club_for}
use Rattle.ucl_order.specs.Roster.{NamedClub, is_club}
use Rattle.ucl_screen.specs.Script.{club_of}
use Rattle.ucl_order.specs.Names.{profile_named}
use Rattle.ucl_order.specs.declared.profile.Profile.{Profile}
use Rattle.ucl_order.specs.declared.profile.Profile.TheVariants.{AwayInTie, Uefa}
use Rattle.ucl_rows.specs.BadRows.{bad_field}
use Rattle.ucl_rows.specs.Rows.{Row, Said}
use Rattle.ucl_screen.specs.Events.{event_of, ◌>>=◌}
use Rattle.ucl_screen.specs.Rows.{FourFields}
use Rattle.ucl_screen.specs.Screen.{letter_in}
use Rattle.ucl_board.specs.declared.night_event.NightEvent.{NightEvent}
use Rattle.std.specs.Prelude.{if◌then◌else◌, ◌&&◌, ◌-◌, ◌==◌, ◌∷◌}
use Rattle.std.specs.Str.{bytes_eq}
use Rattle.ucl_rows.specs.declared.bad_row.BadField.TheVariants.{Count}
use Rattle.ucl_screen.specs.Numbers.{in_range, number}

-- the request of a row whose other fields are empty, by its first: to show the screen, the words or the matches; else `Bad`
abbrev pub shown_by : FourFields → Request
shown_by fields =
    if bytes_eq fields.first (codes "screen") then Screen
    else (if bytes_eq fields.first (codes "words") then Words else (if bytes_eq fields.first (codes "matches") then Matches else Bad (bad_field fields)))

-- the slot that a field names, which is one digit, `1` to `4`; else None
abbrev pub slot_in : List ℕ → Option ℕ
slot_in (digit ∷ []) = if nat_le 49 digit && nat_le digit 52 then Some (digit - 48) else None
slot_in _ = None

-- the number of a row that a field names, 1 to 4,294,967,295 in one to ten digits; else None
abbrev pub named_row : List ℕ → Option ℕ
named_row text = in_range 1 4294967295 (number 10 text)

-- the edition that a field names: 0 to 65,535, in one to five digits; else None
abbrev pub edition_by : List ℕ → Option ℕ
edition_by text = in_range 0 65535 (number 5 text)

-- this club for this slot, if a roster takes it; else None
abbrev pub if_club : ℕ → NamedClub → Option ClubInSlot
if_club slot club = if is_club club then Some (club_for slot club) else None

-- the club that a row names, for the slot that it names; None if it names none, or one that no roster takes
abbrev pub new_club : FourFields → Option ClubInSlot
new_club fields = do
  slot ← slot_in fields.second
  club ← club_of slot fields
  if_club slot club

-- the mend of a row whose first field is `mend` and whose last is empty: of a row, or to an edition; None if it names neither, or both
abbrev pub named_mend : FourFields → Option Mend
named_mend fields =
    if length fields.third == 0 then option_map Without (named_row fields.second)
    else (if length fields.second == 0 then option_map As (edition_by fields.third) else None)

-- the mend that a row of four fields names; None if it names none
abbrev pub mend_by : FourFields → Option Mend
mend_by fields =
    if bytes_eq fields.first (codes "club") then option_map Club (new_club fields)
    else (if bytes_eq fields.first (codes "mend") && (length fields.fourth == 0) then named_mend fields else None)

-- the request to do this mend; for None, which is a row that names no mend, `Bad` with the first wrong field
abbrev pub mend_or_bad : FourFields → Option Mend → Request
mend_or_bad fields None = Bad (bad_field fields)
mend_or_bad fields (Some mend) = Mends mend

-- the request to enter this event; for None, which is a row that has no event, to mend, or `Bad`
abbrev pub event_or_mend : FourFields → Option NightEvent → Request
event_or_mend fields None = mend_or_bad fields (mend_by fields)
event_or_mend fields (Some event) = Event event

-- the request of a row of four fields: to show the board, if all but the first are empty, else to enter an event, or a mend; else `Bad`
unfoldable pub asked_by : FourFields → Request
asked_by fields =
    if (length fields.second == 0) && (length fields.third == 0) && (length fields.fourth == 0) then shown_by fields else event_or_mend fields (event_of fields)

-- the request of a line; `Bad` if it is no row of four fields
abbrev pub request_of : Said → Request
request_of (Row fields) = asked_by fields
request_of _ = Bad Count

-- whether a request is a mend
abbrev pub is_mend : Request → Bool
is_mend (Mends mend) = true
is_mend _ = false

-- ---- headers

-- the header that the last three fields of a row name: group, tie-break order and edition; None if one of them is bad
abbrev pub header_by : FourFields → Option BoardHeader
header_by fields = do
  group ← letter_in fields.second
  profile ← profile_named fields.third
  edition ← edition_by fields.fourth
  Some (record { group = group; profile = profile; edition = edition })

-- whether a line is a row of four fields whose first is `group`; the others may be bad
abbrev pub is_group_row : Said → Bool
is_group_row (Row fields) = bytes_eq fields.first (codes "group")
is_group_row _ = false

-- the header that the last three fields of a line name; None if it is no row of four fields, or one of these is bad
abbrev pub header_said : Said → Option BoardHeader
header_said (Row fields) = header_by fields
header_said _ = None

-- ---- what was asked for

-- whether two tie-break orders are the same
abbrev pub is_same_order : Profile → Profile → Bool
is_same_order Uefa Uefa = true
is_same_order AwayInTie AwayInTie = true
is_same_order _ _ = false

-- whether a header has this group and this tie-break order; a None in their place lets any through
abbrev pub is_asked : Option ℕ → Option Profile → BoardHeader → Bool
is_asked group profile header = (unwrap_or group header.group == header.group) && is_same_order (unwrap_or profile header.profile) header.profile

-- the header of a session if no row names one: group and tie-break order of the options, else group A and `uefa`; edition 0
abbrev pub asked_header : LiveArgs → BoardHeader
asked_header options = record { group = unwrap_or options.group 65; profile = unwrap_or options.profile Uefa; edition = 0 }

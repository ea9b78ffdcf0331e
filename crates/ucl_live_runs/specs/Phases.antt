-- How far a session of `ucl_live` is (its phase), what a row makes of it, and the faults by which it ends.
use Rattle.std.specs.Prelude.{Err, List, None, Ok, Option, Result, Some, [], codes, length, min, ℕ}
use Rattle.ucl_command.specs.declared.live.LiveArgs.{LiveArgs}
use Rattle.ucl_json.specs.declared.header.BoardHeader.{BoardHeader}
use Rattle.ucl_mends.specs.declared.standing.StandingEvent.{StandingEvent}
use Rattle.ucl_order.specs.Roster.{NamedClub, bad_slot}
use Rattle.ucl_rows.specs.Rows.{Row, Said}
use Rattle.ucl_live_runs.specs.declared.live_fault.LiveFault.{LiveFault}
use Rattle.ucl_live_runs.specs.declared.live_fault.LiveFault.TheVariants.{OtherGroup, Run}
use Rattle.ucl_rows.specs.declared.fault.RunFault.TheVariants.{Input, OutOfMemory}
use Rattle.ucl_screen.specs.Script.{club_of}
use Rattle.std.specs.Prelude.{if◌then◌else◌, ◌++◌, ◌-◌, ◌==◌, ◌^◌, ◌∷◌, ◌≡◌, ◌⊎◌}
use Rattle.ucl_screen.specs.declared.fault.InputFault.TheVariants.{BadRoster, BadRow}
use Rattle.ucl_live_runs.specs.declared.phase.Phase.{Phase}
use Rattle.ucl_live_runs.specs.declared.phase.Phase.TheVariants.{AwaitingClubs, Open}
use Rattle.ucl_live_runs.specs.Requests.{header_said, is_asked, is_group_row}

-- what a session has reached: its phase, or the fault for which it is refused
abbrev pub Reached : Type 0
Reached = Result Phase LiveFault

-- what a session has reached if its board is open, with these clubs, and these events stand
abbrev pub open_at : List NamedClub → List StandingEvent → Reached
open_at clubs events = Ok (Open (record { roster = clubs; events = events }))

-- the number of a row as a fault reports it: at most the greatest of 32 bits
abbrev pub fault_row : ℕ → ℕ
fault_row row = min row (2 ^ 32 - 1)

-- the fault of the row of this number, which is missing, or does not name the club or the header that it has to
abbrev pub bad_row : ℕ → LiveFault
bad_row row = Run (Input (BadRow (fault_row row)))

-- ---- clubs

-- the club that a line names for this slot; None if it names none
abbrev pub club_said : ℕ → Said → Option NamedClub
club_said slot (Row fields) = club_of slot fields
club_said slot _ = None

-- what a session reaches with these four clubs: the fresh board is open, or it is refused for the slot whose club no roster takes, if any
abbrev pub with_roster : List NamedClub → Option ℕ → Reached
with_roster clubs None = open_at clubs []
with_roster clubs (Some slot) = Err (Run (Input (BadRoster slot)))

-- what a session reaches with these clubs: if they are four, the fresh board is open, or no roster takes them; if fewer, it awaits the next
abbrev pub with_clubs : List NamedClub → Reached
with_clubs clubs = if length clubs == 4 then with_roster clubs (bad_slot clubs) else Ok (AwaitingClubs clubs)

-- what a session reaches after the row of this number: it has one club more, or is refused, if the row does not name the club (None)
abbrev pub after_club : ℕ → List NamedClub → Option NamedClub → Reached
after_club row clubs None = Err (bad_row row)
after_club row clubs (Some club) = with_clubs (clubs ++ club ∷ [])

-- what a session reaches after the row of a group: refused if it names no header (None), or another group or order than the options ask for
abbrev pub after_header : LiveArgs → ℕ → Option BoardHeader → Reached
after_header options row None = Err (bad_row row)
after_header options row (Some header) = if is_asked options.group options.profile header then Ok (AwaitingClubs []) else Err OtherGroup

-- what a session reaches after the first row, which has to be the row of a group or that of the first club
abbrev pub after_beginning : LiveArgs → ℕ → Said → Reached
after_beginning options row said = if is_group_row said then after_header options row (header_said said) else after_club row [] (club_said 1 said)

-- the fault of a session whose input ends before the line of this number: its own, or a club is missing; None if the board is open
abbrev pub missing : ℕ → Reached → Option LiveFault
missing row (Ok (Open table)) = None
missing row (Ok _) = Some (bad_row row)
missing row (Err fault) = Some fault

-- a call returns what the session reaches (`reached`), unless it is out of memory
abbrev pub IsIfMemory : Reached → Reached → Type 0
IsIfMemory reached (Ok phase) = reached ≡ Ok phase
IsIfMemory reached (Err fault) = (fault ≡ Run OutOfMemory) ⊎ (reached ≡ Err fault)

-- what is printed if the first row names another group or tie-break order than the options ask for
abbrev pub other_group_text : List ℕ
other_group_text = codes "error: the row of the group differs from --group or --order\n"

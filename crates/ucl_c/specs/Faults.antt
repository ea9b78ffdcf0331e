-- Why a call of C is not done: `Option Fault` is the fault of some inputs, or none. Room is what the caller has for an output.
use Rattle.std.specs.Prelude.{ℕ, ◌==◌, ◌&&◌, nat_le, nat_lt, Bool, true, false, codes, List, [], ◌∷◌, length, map, find, Option, Some, None, option_map, unwrap_or, Result, Ok, Err}
use Rattle.std.specs.Result.{result_err}
use Rattle.ucl_word.specs.declared.event.Kind.{Kind}
use Rattle.ucl_word.specs.Record.{is_reporter}
use Rattle.ucl_word.specs.declared.record.MatchRecord.{MatchRecord}
use Rattle.ucl_word.specs.Layout.{record_at}
use Rattle.ucl_word.specs.Migration.{is_word}
use Rattle.ucl_word.specs.Names.{found_of, kind_with, refusal_code, refusal_name, refusal_with}
use Rattle.ucl_word.specs.declared.refusal.Refusal.{Refusal}
use Rattle.ucl_word.specs.Rules.{refusal_of}
use Rattle.ucl_board.specs.Words.{read_words}
use Rattle.ucl_order.specs.Names.{profile_with}
use Rattle.ucl_order.specs.Roster.{NamedClub, bad_slot}
use Rattle.ucl_screen.specs.declared.fault.InputFault.{InputFault}
use Rattle.ucl_screen.specs.declared.fault.InputFault.TheVariants as input
use Rattle.ucl_screen.specs.Script.{Script, night_of}
use Rattle.ucl_c.specs.Codes.{expected_told}
use Rattle.ucl_c.specs.declared.fault.Fault.{Fault}
use Rattle.ucl_c.specs.declared.fault.Fault.TheVariants.{Refused, BadWord, BadRow, BadRoster, OutOfMemory, TooLong, FullBoard, NoReporter, NoKind, NoProfile}
use Rattle.ucl_c.specs.declared.fault.Fault.TheVariants.{NoGroup, NotTwelve, NotFour, NoRoom, NotFourRows, NoStatus, InUse, NoPass, NotAReader, NoMatch}
use Rattle.ucl_c.specs.declared.fault.Fault.TheVariants.{NotAReporter}

-- the number of a fault, which a call returns as its status, and its name; if a rule refuses an event, these are the rule's
abbrev pub status_of : Fault → ℕ × List ℕ
status_of (Refused refusal) = (refusal_code refusal, refusal_name refusal)
status_of (BadWord index) = (10, codes "bad word")
status_of (BadRow row) = (20, codes "bad-row")
status_of (BadRoster slot) = (21, codes "bad roster")
status_of OutOfMemory = (23, codes "out of memory")
status_of TooLong = (24, codes "too long")
status_of FullBoard = (30, codes "full board")
status_of NoReporter = (50, codes "no reporter")
status_of NoKind = (51, codes "no kind")
status_of NoProfile = (52, codes "no profile")
status_of NoGroup = (53, codes "no group")
status_of NotTwelve = (54, codes "not twelve words")
status_of NotFour = (55, codes "not four clubs")
status_of NoRoom = (56, codes "no room")
status_of NotFourRows = (57, codes "not four rows")
status_of NoStatus = (58, codes "no status")
status_of InUse = (59, codes "in use")
status_of NoPass = (60, codes "no pass")
status_of NotAReader = (61, codes "not a reader")
status_of NoMatch = (62, codes "no match")
status_of NotAReporter = (63, codes "not a reporter")

-- the number of a fault
abbrev pub fault_code : Fault → ℕ
fault_code fault = (status_of fault).0

-- every fault but the refusals of events, once each; one that tells which word, row or slot is bad tells the first
abbrev pub faults : List Fault
faults =
    BadWord 1 ∷ BadRow 1 ∷ BadRoster 1 ∷ OutOfMemory ∷ TooLong ∷ FullBoard ∷ NoReporter ∷ NoKind ∷ NoProfile ∷ NoGroup ∷ NotTwelve ∷ NotFour
    ∷ NoRoom ∷ NotFourRows ∷ NoStatus ∷ InUse ∷ NoPass ∷ NotAReader ∷ NoMatch ∷ NotAReporter ∷ []

-- the name of this refusal, or if there is none, of this status: 0 or a fault's number
abbrev pub name_by : Option Refusal → ℕ → Option (List ℕ)
name_by (Some refusal) status = Some (refusal_name refusal)
name_by None status = option_map (λ named. named.1) (find (λ named. named.0 == status) ((0, codes "done") ∷ map status_of faults))

-- the name of a status; `None` if the number is no status
abbrev pub name_of_status : ℕ → Option (List ℕ)
name_of_status status = name_by (refusal_with status 0) status

-- the status of a call whose inputs have this fault: 0 if they have none
abbrev pub status_with : Option Fault → ℕ
status_with None = 0
status_with (Some fault) = fault_code fault

-- what a call leaves where it writes the event number of a match: that number, if the event is stale; else what was there `before`
abbrev pub found_with : Option Fault → ℕ → ℕ
found_with (Some (Refused refusal)) before = unwrap_or (found_of refusal) before
found_with _ before = before

-- what a call leaves where it writes which word, row or slot is bad: its number, if the fault is about one; else what was there `before`
abbrev pub place_with : Option Fault → ℕ → ℕ
place_with (Some (BadWord index)) before = index
place_with (Some (BadRow row)) before = row
place_with (Some (BadRoster slot)) before = slot
place_with _ before = before

-- the first fault of inputs that are judged in turn, if one of them has a fault
abbrev pub first_fault : List (Option Fault) → Option Fault
first_fault [] = None
first_fault (None ∷ later) = first_fault later
first_fault (Some fault ∷ later) = Some fault

-- One input. --

-- this fault, unless a test holds
abbrev pub fault_unless : Bool → Fault → Option Fault
fault_unless true fault = None
fault_unless false fault = Some fault

-- this fault, if the option is `None`; otherwise no fault
abbrev pub fault_if_none : {A : Type 0} → Option A → Fault → Option Fault
fault_if_none (Some x) fault = None
fault_if_none None fault = Some fault

-- `NoKind` if no kind of event has this code
abbrev pub fault_of_kind : ℕ → Option Fault
fault_of_kind code = fault_if_none (kind_with code) NoKind

-- `NoProfile` if no profile, which is a set of tie-break rules, has this code
abbrev pub fault_of_profile : ℕ → Option Fault
fault_of_profile code = fault_if_none (profile_with code) NoProfile

-- `NoGroup` if this is not the letter of a group, `A` to `H`
abbrev pub fault_of_group : ℕ → Option Fault
fault_of_group letter = fault_unless (nat_le 65 letter && nat_le letter 72) NoGroup

-- `NotTwelve` unless this number of words is 12
abbrev pub fault_of_twelve : ℕ → Option Fault
fault_of_twelve count = fault_unless (count == 12) NotTwelve

-- `NotTwelve` if these are not twelve words; otherwise `BadWord` with the index, from 1, of the first that is no match's in either layout
abbrev pub fault_of_words : List ℕ → Option Fault
fault_of_words words = first_fault (fault_of_twelve (length words) ∷ option_map BadWord (result_err (read_words 1 words)) ∷ [])

-- `NotFour` unless this number of clubs is 4
abbrev pub fault_of_four : ℕ → Option Fault
fault_of_four count = fault_unless (count == 4) NotFour

-- `NotFour` if these are not four clubs; otherwise `BadRoster` with the least slot whose name or coefficient is bad, if there is one
abbrev pub fault_of_clubs : List NamedClub → Option Fault
fault_of_clubs clubs = first_fault (fault_of_four (length clubs) ∷ option_map BadRoster (bad_slot clubs) ∷ [])

-- a club with this coefficient and the name `-`, for calls that are given no names
abbrev pub club_with : ℕ → NamedClub
club_with coefficient = record { name = codes "-"; coefficient = coefficient }

-- `NotFour` if these are not four coefficients; otherwise `BadRoster` with the least slot whose coefficient is too large, if there is one
abbrev pub fault_of_coefficients : List ℕ → Option Fault
fault_of_coefficients coefficients = fault_of_clubs (map club_with coefficients)

-- the fault that a call returns for this fault of its input; the input is in memory, so `ReadFailed` never comes
abbrev pub of_input : InputFault → Fault
of_input (input.BadWordAt index) = BadWord index
of_input (input.BadRow row) = BadRow row
of_input (input.BadRoster slot) = BadRoster slot
of_input input.TooLong = TooLong
of_input _ = OutOfMemory

-- `TooLong` if these bytes are too many; otherwise, if they are no script, `BadRow` or `BadRoster` with the first row or slot that is wrong
abbrev pub fault_of_script : List ℕ → Option Fault
fault_of_script bytes = option_map of_input (result_err (night_of bytes))

-- `NoRoom` if a script was read that has more events than there is room for replies
abbrev pub of_events : Result Script InputFault → ℕ → Option Fault
of_events (Ok script) room = fault_unless (nat_le (length script.events) room) NoRoom
of_events (Err fault) room = None

-- `NoRoom` if the script that these bytes are has more events than there is room for replies
abbrev pub fault_of_replies : List ℕ → ℕ → Option Fault
fault_of_replies bytes room = of_events (night_of bytes) room

-- The inputs of a call, in the order in which they are judged. --

-- the first fault of an event for a match, given as its word, from the reporter and the kind's code: the word has to be of today's layout
abbrev pub fault_of_entry : ℕ → ℕ → ℕ → Option Fault
fault_of_entry word reporter code = first_fault (fault_unless (is_reporter reporter) NoReporter ∷ fault_of_kind code ∷ fault_unless (is_word word) (BadWord 1) ∷ [])

-- the rule that refuses an event of this kind for a match, if it names this event number; `NoKind` if there is no kind
abbrev pub of_rules : Option Kind → MatchRecord → ℕ → Option Fault
of_rules (Some kind) game expected = option_map Refused (refusal_of game expected kind)
of_rules None game expected = Some NoKind

-- the first fault, or the refusal, of an event for the match in a word, from the reporter, the event number it names and the kind's code
abbrev pub fault_of_next : ℕ → ℕ → ℕ → ℕ → Option Fault
fault_of_next word reporter expected code = first_fault (fault_of_entry word reporter code ∷ of_rules (kind_with code) (record_at word) (expected_told expected) ∷ [])

-- the first fault of a call for a table: of the profile, the words, the coefficients, or the room, which is for four rows
abbrev pub fault_of_table : ℕ → List ℕ → List ℕ → ℕ → Option Fault
fault_of_table profile words coefficients room =
    first_fault (fault_of_profile profile ∷ fault_of_words words ∷ fault_of_coefficients coefficients ∷ fault_unless (room == 4) NotFourRows ∷ [])

-- the first fault of a call for a screen, whatever room there is for it: of the profile, the group, the words, or the clubs
abbrev pub fault_of_inputs : ℕ → ℕ → List ℕ → List NamedClub → Option Fault
fault_of_inputs profile group words clubs =
    first_fault (fault_of_profile profile ∷ fault_of_group group ∷ fault_of_words words ∷ fault_of_clubs clubs ∷ [])

-- this fault, or if it is none, `NoRoom` if a text and a zero have more bytes than there is room for
abbrev pub fault_with_text : Option Fault → List ℕ → ℕ → Option Fault
fault_with_text fault text room = first_fault (fault ∷ fault_unless (nat_lt (length text) room) NoRoom ∷ [])

-- the first fault of a call that plays a script: of the room for words, the room for clubs, the bytes, or the room for replies
abbrev pub fault_of_play : List ℕ → ℕ → ℕ → ℕ → Option Fault
fault_of_play bytes clubs words replies =
    first_fault (fault_of_twelve words ∷ fault_of_four clubs ∷ fault_of_script bytes ∷ fault_of_replies bytes replies ∷ [])

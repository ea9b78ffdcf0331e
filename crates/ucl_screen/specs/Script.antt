-- What the rows of an input mean: rows 1 to 4 are clubs, and then come the events of a script or the match words of a sheet. Whether a word
-- packs a match is tested later.
use Rattle.std.specs.Prelude.{⊤, ℕ, zero, suc, ◌+◌, ◌==◌, ◌&&◌, if◌then◌else◌, List, [], ◌∷◌, length, codes, Option, Some, None, option_map, option_and_then, Result}
use Rattle.std.specs.Prelude.{Ok, Err}
use Rattle.std.specs.Str.{bytes_eq}
use Rattle.ucl_order.specs.Roster.{NamedClub, bad_slot}
use Rattle.ucl_screen.specs.declared.fault.InputFault.{InputFault}
use Rattle.ucl_screen.specs.declared.fault.InputFault.TheVariants.{BadRow, BadRoster, OutOfMemory, TooLong}
use Rattle.ucl_board.specs.declared.night_event.NightEvent.{NightEvent}
use Rattle.ucl_screen.specs.Numbers.{number, is_number, hex_word}
use Rattle.ucl_screen.specs.Rows.{Fields, FourFields, four_of, rows_of}
use Rattle.ucl_screen.specs.Input.{whole_input}
use Rattle.ucl_screen.specs.Events.{event_of}

-- `r >>= f` is f at the value of r, or the fault of r; `do` chains such steps
infixl 10 ◌>>=◌
abbrev pub ◌>>=◌ : {A B : Type 0} → Result A InputFault → (A → Result B InputFault) → Result B InputFault
(Ok x) >>= f = f x
(Err fault) >>= f = Err fault

-- what `says` parses from the four fields of a row; None if the row has more or fewer fields, or `says` gives None
abbrev pub said_by : {A : Type 0} → (FourFields → Option A) → Fields → Option A
said_by says fields = option_and_then says (four_of fields)

-- the value, if there is one; else the fault BadRow with this number of a row
abbrev pub or_bad : {A : Type 0} → ℕ → Option A → Result A InputFault
or_bad row None = Err (BadRow row)
or_bad row (Some x) = Ok x

-- the club of the row with this number: `club`, the number as one digit, name, coefficient in 1 to 9 digits; None for any other fields
abbrev pub club_of : ℕ → FourFields → Option NamedClub
club_of row f =
    if bytes_eq f.first (codes "club") && bytes_eq f.second ((48 + row) ∷ [])
    then option_map (λ c. record { name = f.third; coefficient = c }) (number 9 f.fourth)
    else None

-- the club of the first of these rows, which has this number, and the rows after it; or BadRow if there is no row or it gives no club
unfoldable pub club_at : ℕ → List Fields → Result (NamedClub × List Fields) InputFault
club_at row [] = Err (BadRow row)
club_at row (r ∷ rows) = or_bad row (said_by (club_of row) r) >>= λ club. Ok (club, rows)

-- the clubs, if no slot is bad; else the fault BadRoster with the bad slot
abbrev pub if_good : List NamedClub → Option ℕ → Result (List NamedClub) InputFault
if_good clubs None = Ok clubs
if_good clubs (Some slot) = Err (BadRoster slot)

-- the clubs of rows 1 to 4, all of which a roster takes in, and the rows after them; or the first fault, BadRow before BadRoster
unfoldable pub roster_at : List Fields → Result (List NamedClub × List Fields) InputFault
roster_at rows = do
  first ← club_at 1 rows
  second ← club_at 2 first.1
  third ← club_at 3 second.1
  fourth ← club_at 4 third.1
  clubs ← let four = first.0 ∷ second.0 ∷ third.0 ∷ fourth.0 ∷ [] in if_good four (bad_slot four)
  Ok (clubs, fourth.1)

-- the events of these rows, of which the first has this number; or BadRow with the first row that gives no event
unfoldable pub events_from : ℕ → List Fields → Result (List NightEvent) InputFault
events_from row [] = Ok []
events_from row (r ∷ rows) = do
  event ← or_bad row (said_by event_of r)
  events ← events_from (row + 1) rows
  Ok (event ∷ events)

-- the match word of the row of match `game`: `word`, the match in 1 or 2 digits, 16 hexadecimal digits, and an empty field; else None
abbrev pub word_of_row : ℕ → FourFields → Option ℕ
word_of_row game f =
    if bytes_eq f.first (codes "word") && is_number (number 2 f.second) game && (length f.fourth == 0) then hex_word f.third else None

-- the match words of so many matches, the first of which is `game`, from just these rows; or BadRow with the first row that is missing,
-- bad or one too many. Match m has row m + 4
unfoldable pub words_from : ℕ → ℕ → List Fields → Result (List ℕ) InputFault
words_from zero game [] = Ok []
words_from zero game (r ∷ rows) = Err (BadRow (game + 4))
words_from (suc more) game [] = Err (BadRow (game + 4))
words_from (suc more) game (r ∷ rows) = do
  word ← or_bad (game + 4) (said_by (word_of_row game) r)
  words ← words_from more (game + 1) rows
  Ok (word ∷ words)

-- the number of the first row of a script that is an event, after four rows of clubs
abbrev pub first_event_row : ℕ
first_event_row = 5

-- what a script contains: the clubs, and the events that reporters enter
pub record Script : Type 0 where
  pub clubs : List NamedClub
  pub events : List NightEvent

-- the script of these rows, clubs in rows 1 to 4 and then a row for each event; or its first fault
unfoldable pub night_of_rows : List Fields → Result Script InputFault
night_of_rows rows = do
  roster ← roster_at rows
  events ← events_from first_event_row roster.1
  Ok (record { clubs = roster.0; events = events })

-- what a sheet contains: the clubs, and the words of matches 1 to 12
pub record WrittenSheet : Type 0 where
  pub clubs : List NamedClub
  pub words : List ℕ

-- the sheet of these rows, clubs in rows 1 to 4 and match words, not yet tested, in rows 5 to 16; or its first fault
unfoldable pub sheet_of_rows : List Fields → Result WrittenSheet InputFault
sheet_of_rows rows = do
  roster ← roster_at rows
  words ← words_from 12 1 roster.1
  Ok (record { clubs = roster.0; words = words })

-- the script that the bytes of an input mean, or the first fault: TooLong, or that of its rows
abbrev pub night_of : List ℕ → Result Script InputFault
night_of bytes = whole_input bytes >>= λ text. night_of_rows (rows_of text)

-- the sheet that the bytes of an input mean, its match words not yet tested, or the first fault: TooLong, or that of its rows
abbrev pub sheet_of : List ℕ → Result WrittenSheet InputFault
sheet_of bytes = whole_input bytes >>= λ text. sheet_of_rows (rows_of text)

-- the fault is one that rows in memory can have: a row or a club is bad, there are too many bytes, or memory ran out
abbrev pub IsFaultOfScript : InputFault → Type 0
IsFaultOfScript (BadRow row) = ⊤
IsFaultOfScript (BadRoster slot) = ⊤
IsFaultOfScript TooLong = ⊤
IsFaultOfScript OutOfMemory = ⊤
IsFaultOfScript _ = ⊥

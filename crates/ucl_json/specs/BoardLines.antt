-- The board state that a line of JSON tells; members of other names are passed over. `Data` is a value of JSON; None says that a member is
-- missing or is not what it should be.
use Rattle.std.specs.Prelude.{ℕ, ◌==◌, ◌&&◌, nat_le, if◌then◌else◌, List, [], ◌∷◌, codes, length, Option, Some, None, option_and_then, Result, Ok, Err}
use Rattle.std.specs.Str.{is_utf8}
use Rattle.serde_json.specs.Data.{Data, Items, item, no_items}
use Rattle.serde_json.specs.Find.{as_array, as_number, as_str, as_u64, get}
use Rattle.serde_json.specs.Read.{read}
use Rattle.ucl_order.specs.declared.profile.Profile.{Profile}
use Rattle.ucl_order.specs.Names.{profile_named}
use Rattle.ucl_order.specs.Roster.{NamedClub, bad_slot, named}
use Rattle.ucl_screen.specs.Events.{◌>>=◌}
use Rattle.ucl_screen.specs.Numbers.{hex_word}
use Rattle.ucl_board.specs.Words.{read_words}
use Rattle.ucl_screen.specs.Screen.{letter_in}
use Rattle.ucl_json.specs.declared.header.BoardHeader.{BoardHeader}
use Rattle.ucl_json.specs.declared.board_state.BoardState.{BoardState}

-- the text that is the member of an object under this name, if there is one
abbrev pub text_at : List ℕ → Data → Option (List ℕ)
text_at name value = option_and_then as_str (get name value)

-- the elements of an array of JSON, as a list
abbrev pub listed : Items → List Data
listed no_items = []
listed (item value more) = value ∷ listed more

-- the elements of the member of an object under this name, if it is an array
abbrev pub list_at : List ℕ → Data → Option (List Data)
list_at name value = do
  member ← get name value
  items ← as_array member
  Some (listed items)

-- what `parsed` makes of each of these values; None if it makes nothing of one
unfoldable pub parse_each : {T : Type 0} → (Data → Option T) → List Data → Option (List T)
parse_each parsed [] = Some []
parse_each parsed (value ∷ values) = do
  first ← parsed value
  more ← parse_each parsed values
  Some (first ∷ more)

-- what `parsed` makes of each of exactly `many` values; None if they are not so many or it makes nothing of one
abbrev pub just : {T : Type 0} → ℕ → (Data → Option T) → List Data → Option (List T)
just many parsed values = if length values == many then parse_each parsed values else None

-- ---- the group and its order

-- the letter of the group, A to H, from the member `group` of a value
abbrev pub parse_group : Data → Option ℕ
parse_group value = option_and_then letter_in (text_at (codes "group") value)

-- the tie-break order of the clubs, from the member `order` of a value
abbrev pub parse_order : Data → Option Profile
parse_order value = option_and_then profile_named (text_at (codes "order") value)

-- the edition that a member says, at most 65,535; 0 without the member
abbrev pub edition_in : Option Data → Option ℕ
edition_in None = Some 0
edition_in (Some member) = do
  edition ← option_and_then as_u64 (as_number member)
  if nat_le edition 65535 then Some edition else None

-- the edition of the board, from the member `edition` of a value; 0 without the member
abbrev pub parse_edition : Data → Option ℕ
parse_edition value = edition_in (get (codes "edition") value)

-- the header of the board: its group, the order of the clubs and its edition
abbrev pub parse_header : Data → Option BoardHeader
parse_header value = do
  group ← parse_group value
  profile ← parse_order value
  edition ← parse_edition value
  Some (record { group = group; profile = profile; edition = edition })

-- ---- four clubs, by their slots

-- the club that a value is: its name, and a coefficient of at most 999,999
abbrev pub parse_club : Data → Option NamedClub
parse_club value = do
  name ← text_at (codes "club") value
  member ← get (codes "coefficient") value
  coefficient ← option_and_then as_u64 (as_number member)
  if nat_le coefficient 999999 then Some (named name coefficient) else None

-- these clubs; None if there is a slot whose club no roster takes
abbrev pub unless_bad : List NamedClub → Option ℕ → Option (List NamedClub)
unless_bad clubs None = Some clubs
unless_bad clubs (Some slot) = None

-- the clubs that these values are, if they are four and a roster takes each; it takes a name of 1 to 20 printable bytes
abbrev pub parse_roster : List Data → Option (List NamedClub)
parse_roster values = do
  clubs ← just 4 parse_club values
  unless_bad clubs (bad_slot clubs)

-- the four clubs of the group, from the member `clubs` of a value
abbrev pub parse_clubs : Data → Option (List NamedClub)
parse_clubs value = option_and_then parse_roster (list_at (codes "clubs") value)

-- ---- twelve words, of a board

-- the match word that a text of sixteen hexadecimal digits spells
abbrev pub parse_word : Data → Option ℕ
parse_word value = option_and_then hex_word (as_str value)

-- the board that words were read as; None if one of them is the word of no match
abbrev pub if_read : Result (List ℕ) ℕ → Option (List ℕ)
if_read (Ok board) = Some board
if_read (Err index) = None

-- the board of the twelve match words in the member `words` of a value
abbrev pub parse_board : Data → Option (List ℕ)
parse_board value = do
  values ← list_at (codes "words") value
  words ← just 12 parse_word values
  if_read (read_words 1 words)

-- ---- a board state

-- the board state in the members of a value: header, clubs and board; None if one of them is missing or bad
unfoldable pub parse_board_state : Data → Option BoardState
parse_board_state value = do
  header ← parse_header value
  clubs ← parse_clubs value
  board ← parse_board value
  Some (record { header = header; roster = clubs; board = board })

-- the board state in the members of a line, if it is JSON in UTF-8 of at most 4,096 bytes and has one; else None
unfoldable pub parse_board_line : List ℕ → Option BoardState
parse_board_line line = if nat_le (length line) 4096 && is_utf8 line then option_and_then parse_board_state (read line) else None

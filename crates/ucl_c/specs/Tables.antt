-- What words and clubs are shown as, and how that is written into the room that a caller has for it.
use Rattle.std.specs.Prelude.{◌≡◌, ◌≢◌, ◌⊎◌, ℕ, ◌+◌, ◌<◌, ◌≤◌, ◌++◌, nat_le, if◌then◌else◌, List, [], ◌∷◌, map, take, drop, length, Option, None, Some, Result, Ok, Err}
use Rattle.ucl_board.specs.Words.{read_words, version_of}
use Rattle.ucl_order.specs.declared.profile.Profile.{Profile}
use Rattle.ucl_order.specs.declared.table.Row.{Row}
use Rattle.ucl_order.specs.Names.{profile_with}
use Rattle.ucl_order.specs.Roster.{NamedClub}
use Rattle.ucl_order.specs.Rows.{rows_of}
use Rattle.ucl_screen.specs.Screen.{screen_text}
use Rattle.ucl_json.specs.Lines.{json_line}
use Rattle.ucl_json.specs.Values.{screen_value}
use Rattle.ucl_c.specs.declared.table.RowOfC.{RowOfC}
use Rattle.ucl_c.specs.declared.group.ClubOfC.{ClubOfC}
use Rattle.ucl_c.specs.declared.fault.Fault.{Fault}
use Rattle.ucl_c.specs.Codes.{mark_code}
use Rattle.ucl_c.specs.Faults.{fault_with_text, place_with, status_with}

-- a row of the table in the form of C
abbrev pub row_seen : Row → RowOfC
row_seen row = record {
  slot = row.slot;
  place = row.place;
  mark = mark_code row.mark;
  played = row.played;
  wins = row.wins;
  draws = row.draws;
  losses = row.losses;
  goals_for = row.goals_for;
  goals_against = row.goals_against;
  points = row.points;
}

-- the name and the coefficient of a club that C hands over; the name is empty, and so bad, if its length is said to be over 20
abbrev pub club_handed : ClubOfC → NamedClub
club_handed club = record { name = if nat_le club.length 20 then take club.length club.name else []; coefficient = club.coefficient }

-- the names and coefficients of the clubs that a caller hands over
abbrev pub clubs_handed : List ClubOfC → List NamedClub
clubs_handed clubs = map club_handed clubs

-- Of words that are read as no board, and in no order, nothing is shown.

-- the version of a board that was read, which is how many events its matches have had in all; 0 if none was read
abbrev pub version_by : Result (List ℕ) ℕ → ℕ
version_by (Ok board) = version_of board
version_by (Err index) = 0

-- the version of the board that the words are read as; 0 if one of them is no match's
abbrev pub version_told : List ℕ → ℕ
version_told words = version_by (read_words 1 words)

-- what `make` makes of a profile and a board; it is empty if there is no such profile or the board could not be read
abbrev pub shown_with : {X : Type 0} → Option Profile → Result (List ℕ) ℕ → (Profile → List ℕ → List X) → List X
shown_with (Some profile) (Ok board) make = make profile board
shown_with _ _ make = []

-- the table of the board that the words are read as, by the profile with this code; no rows if there is no such board or profile
abbrev pub table_shown : ℕ → List ℕ → List NamedClub → List RowOfC
table_shown code words clubs = shown_with (profile_with code) (read_words 1 words) (λ profile board. map row_seen (rows_of profile board clubs))

-- the screen of a board for a group, by a profile, as text; or if the number of a row is given, as the line of JSON that answers that row
abbrev pub text_by : Option ℕ → ℕ → List NamedClub → Profile → List ℕ → List ℕ
text_by None group clubs profile board = screen_text profile board clubs group
text_by (Some row) group clubs profile board = json_line (screen_value row profile board clubs group)

-- the screen of the board that the words are read as, for a group, as text; or if the number of a row is given, as the line of JSON that
-- answers that row. It is empty if the words are no board or no profile has this code
abbrev pub text_shown : Option ℕ → ℕ → ℕ → List ℕ → List NamedClub → List ℕ
text_shown row code group words clubs = shown_with (profile_with code) (read_words 1 words) (text_by row group clubs)

-- how many bytes a screen has at most as text; or if the number of a row is given, as the line of JSON that answers that row
abbrev pub max_length : Option ℕ → ℕ
max_length None = 296
max_length (Some row) = 1423

-- a buffer was `before` and is `after`: a text and a zero stand at its front, and the rest is as it was
pub record IsWritten (text before after : List ℕ) : Type 0 where
  pub front : take (length text + 1) after ≡ text ++ 0 ∷ []
  pub beyond : drop (length text + 1) after ≡ drop (length text + 1) before

-- a text was written to a caller's buffer, from `before` to `after`: whole, if it and a zero fit; otherwise the buffer is as it was and the
-- call returns 56. The number written for its length, `told`, is right in both cases
pub record HandsOver (text before after : List ℕ) (told status : ℕ) : Type 0 where
  pub told_length : told ≡ length text
  pub whole : length text < length before → (status ≡ 0) × IsWritten text before after
  pub no_room : length before ≤ length text → (status ≡ 56) × (after ≡ before)

-- what a call for a text writes to: the caller's buffer, the length of the text, and the number of a bad word or of the slot of a bad club
pub record TextLeft : Type 0 where
  pub out : List ℕ
  pub long : ℕ
  pub at : ℕ

-- what a call for a text returns and writes, by the fault of its inputs if there is one: 0 and the whole text; or a fault's number, 56 if
-- there is no room, with the buffer unchanged. `long` is written with 0 and 56 only, `at` only for a bad word or club. 23, out of memory,
-- may come in place of any of these. Room for more than `most` bytes is always enough
pub record AnswersWithText (fault : Option Fault) (text : List ℕ) (most : ℕ) (before after : TextLeft) (status : ℕ) : Type 0 where
  pub told : status ≢ 23 → status ≡ status_with (fault_with_text fault text (length before.out))
  pub placed : status ≢ 23 → after.at ≡ place_with (fault_with_text fault text (length before.out)) before.at
  pub done : status ≡ 0 → IsWritten text before.out after.out
  pub measured : (status ≡ 0) ⊎ (status ≡ 56) → after.long ≡ length text
  pub room : most < length before.out → status ≢ 56
  pub unchanged : status ≢ 0 → after.out ≡ before.out
  pub unmeasured : status ≢ 0 → status ≢ 56 → after.long ≡ before.long
  pub no_place : status ≡ 23 → after.at ≡ before.at

-- Answers to rows as values of JSON; `row` is the number of the row. The members of an object stand in the order of their names.
use Rattle.std.specs.Prelude.{ℕ, pos, ◌-ℤ◌, List, [], ◌∷◌, codes, Option, None, Some, Result, Ok, Err}
use Rattle.serde_json.specs.Data.{Data, Items, Members, item, no_items, member, no_members, array, boolean, null, number, object, put, string, unsigned}
use Rattle.serde_json.specs.Find.{of_integer}
use Rattle.ucl_word.specs.declared.event.Accepted.{Accepted}
use Rattle.ucl_word.specs.declared.record.MatchRecord.{MatchRecord}
use Rattle.ucl_word.specs.declared.refusal.Refusal.{Refusal}
use Rattle.ucl_word.specs.Names.{found_of, kind_name, refusal_code, refusal_name}
use Rattle.ucl_board.specs.declared.night_event.NightEvent.{NightEvent}
use Rattle.ucl_board.specs.Fixtures.{fixture_of, match_numbers}
use Rattle.ucl_board.specs.Words.{game_at, version_of}
use Rattle.ucl_order.specs.declared.mark.Mark.{Mark}
use Rattle.ucl_order.specs.declared.mark.Mark.TheVariants.{Plus, Minus, Blank}
use Rattle.ucl_order.specs.declared.profile.Profile.{Profile}
use Rattle.ucl_order.specs.declared.table.Row.{Row}
use Rattle.ucl_order.specs.Names.{profile_name}
use Rattle.ucl_order.specs.Roster.{NamedClub, coefficient_of, name_of}
use Rattle.ucl_order.specs.Rows.{rows_of}
use Rattle.ucl_screen.specs.Matches.{state_name}
use Rattle.ucl_screen.specs.Screen.{in_play}
use Rattle.ucl_screen.specs.Numbers.{hex_digits}
use Rattle.ucl_json.specs.declared.header.BoardHeader.{BoardHeader}

-- a natural number as a value
abbrev pub number_value : ℕ → Data
number_value n = number (unsigned n)

-- a value with one member more, if it is an object, and else the value as it is
abbrev pub with_member : List ℕ → Data → Data → Data
with_member name value (object members) = object (put name value members)
with_member name value (array items) = array items
with_member name value (string text) = string text
with_member name value (number n) = number n
with_member name value (boolean b) = boolean b
with_member name value null = null

-- the elements of an array: the value of each of these, in their order
abbrev pub items_of : {T : Type 0} → (T → Data) → List T → Items
items_of value_of [] = no_items
items_of value_of (x ∷ xs) = item (value_of x) (items_of value_of xs)

-- ---- words and clubs

-- the elements of an array: each of these words in sixteen hexadecimal digits
abbrev pub word_items : List ℕ → Items
word_items words = items_of (λ word. string (hex_digits word)) words

-- the club of a slot: its name, and its coefficient in thousandths
abbrev pub club_value : List NamedClub → ℕ → Data
club_value roster slot = object (
    member (codes "club") (string (name_of roster slot)) (
    member (codes "coefficient") (number_value (coefficient_of roster slot)) no_members))

-- the elements of an array: the four clubs, in the order of their slots
abbrev pub club_items : List NamedClub → Items
club_items roster = item (club_value roster 1) (item (club_value roster 2) (item (club_value roster 3) (item (club_value roster 4) no_items)))

-- ---- a match as it stands

-- an array of two numbers: one of the home side, and one of the visiting side
abbrev pub sides_value : ℕ → ℕ → Data
sides_value home away = array (item (number_value home) (item (number_value away) no_items))

-- the match with the number `game`, as its record m stands, between the clubs in the slots `home` and `away`; its reporter is that of its
-- last event, 0 if it has none
abbrev pub match_value : ℕ → MatchRecord → Data
match_value game m = object (
    member (codes "away") (number_value (fixture_of game).away) (
    member (codes "expulsions") (sides_value m.home_expulsions m.away_expulsions) (
    member (codes "home") (number_value (fixture_of game).home) (
    member (codes "match") (number_value game) (
    member (codes "number") (number_value m.number) (
    member (codes "reporter") (number_value m.reporter) (
    member (codes "score") (sides_value m.home_goals m.away_goals) (
    member (codes "state") (string (state_name m.state)) (
    member (codes "yellows") (sides_value m.home_yellows m.away_yellows) no_members)))))))))

-- the elements of an array: the matches of a board that have these numbers
abbrev pub match_items : List ℕ → List ℕ → Items
match_items board games = items_of (λ game. match_value game (game_at board game)) games

-- the answer with the twelve matches of a board, and the clubs that play them
unfoldable pub matches_value : ℕ → List ℕ → List NamedClub → Data
matches_value row board roster = object (
    member (codes "clubs") (array (club_items roster)) (
    member (codes "matches") (array (match_items board match_numbers)) (
    member (codes "reply") (string (codes "matches")) (
    member (codes "row") (number_value row) no_members))))

-- ---- replies

-- the reply to an event that was accepted: the event, its number in its match, and the edition and the version of the board after it
abbrev pub accepted_value : ℕ → NightEvent → ℕ → ℕ → ℕ → Data
accepted_value row event event_number edition version = object (
    member (codes "edition") (number_value edition) (
    member (codes "event") (string (kind_name event.call.kind)) (
    member (codes "expected") (number_value event.call.expected) (
    member (codes "match") (number_value event.call.game) (
    member (codes "number") (number_value event_number) (
    member (codes "reply") (string (codes "ok")) (
    member (codes "reporter") (number_value event.reporter) (
    member (codes "row") (number_value row) (
    member (codes "version") (number_value version) no_members)))))))))

-- the reply to an event that is refused and not stale: the event, and the code and the name of the refusal
abbrev pub coded_value : ℕ → NightEvent → ℕ → List ℕ → Data
coded_value row event code name = object (
    member (codes "code") (number_value code) (
    member (codes "event") (string (kind_name event.call.kind)) (
    member (codes "expected") (number_value event.call.expected) (
    member (codes "match") (number_value event.call.game) (
    member (codes "name") (string name) (
    member (codes "reply") (string (codes "refused")) (
    member (codes "reporter") (number_value event.reporter) (
    member (codes "row") (number_value row) no_members))))))))

-- the reply to an event that is refused: `Some` has the event number that its match has, if the event is stale; the reply then has it as
-- `number`, and the match as it stands, which is m
abbrev pub refused_by : ℕ → NightEvent → ℕ → List ℕ → Option ℕ → MatchRecord → Data
refused_by row event code name None m = coded_value row event code name
refused_by row event code name (Some found) m =
    with_member (codes "stands") (match_value event.call.game m) (with_member (codes "number") (number_value found) (coded_value row event code name))

-- the reply to an event that is refused; m is its match as it stands, which the reply has if the event is stale
abbrev pub refused_value : ℕ → NightEvent → Refusal → MatchRecord → Data
refused_value row event refusal m = refused_by row event (refusal_code refusal) (refusal_name refusal) (found_of refusal) m

-- the reply to an event, by what the board answered to it; `board` is the board after it, in this edition
abbrev pub reply_value : ℕ → NightEvent → Result Accepted Refusal → ℕ → List ℕ → Data
reply_value row event (Ok accepted) edition board = accepted_value row event accepted.number edition (version_of board)
reply_value row event (Err refusal) edition board = refused_value row event refusal (game_at board event.call.game)

-- the refusal of a row, with this code and name: `field` is the name of its bad field, and `text` the start of its text
abbrev pub bad_value : ℕ → ℕ → List ℕ → List ℕ → List ℕ → Data
bad_value row code name field text = object (
    member (codes "code") (number_value code) (
    member (codes "field") (string field) (
    member (codes "name") (string name) (
    member (codes "reply") (string (codes "refused")) (
    member (codes "row") (number_value row) (
    member (codes "text") (string text) no_members))))))

-- the reply to a bad row: `field` is the name of its first bad field, and `text` the start of its text
abbrev pub bad_row_value : ℕ → List ℕ → List ℕ → Data
bad_row_value row field text = bad_value row 20 (codes "bad-row") field text

-- ---- words

-- the answer with the twelve words of a board
abbrev pub words_value : ℕ → List ℕ → Data
words_value row words = object (
    member (codes "reply") (string (codes "words")) (
    member (codes "row") (number_value row) (
    member (codes "words") (array (word_items words)) no_members)))

-- ---- screens

-- the sign of a mark in the table: + for a club that is sure to be among the first two, - for one that is sure not to be
abbrev pub mark_name : Mark → List ℕ
mark_name Plus = codes "+"
mark_name Minus = codes "-"
mark_name Blank = codes ""

-- the goals of a club less those against it, which may be negative
abbrev pub difference_value : Row → Data
difference_value row = number (of_integer (pos row.goals_for -ℤ pos row.goals_against))

-- a row of the table, with the name of its club
unfoldable pub place_value : List NamedClub → Row → Data
place_value roster row = object (
    member (codes "club") (string (name_of roster row.slot)) (
    member (codes "drawn") (number_value row.draws) (
    member (codes "goal_difference") (difference_value row) (
    member (codes "goals_against") (number_value row.goals_against) (
    member (codes "goals_for") (number_value row.goals_for) (
    member (codes "lost") (number_value row.losses) (
    member (codes "mark") (string (mark_name row.mark)) (
    member (codes "place") (number_value row.place) (
    member (codes "played") (number_value row.played) (
    member (codes "points") (number_value row.points) (
    member (codes "slot") (number_value row.slot) (
    member (codes "won") (number_value row.wins) no_members))))))))))))

-- the elements of an array: the rows of a table, from the first place to the last
abbrev pub place_items : List NamedClub → List Row → Items
place_items roster rows = items_of (place_value roster) rows

-- the screen of a board, for a group and by a tie-break order: the table, and the clubs and the words from which it is worked out
unfoldable pub screen_value : ℕ → Profile → List ℕ → List NamedClub → ℕ → Data
screen_value row profile board roster group = object (
    member (codes "clubs") (array (club_items roster)) (
    member (codes "group") (string (group ∷ [])) (
    member (codes "in_play") (number_value (in_play board)) (
    member (codes "order") (string (profile_name profile)) (
    member (codes "reply") (string (codes "screen")) (
    member (codes "row") (number_value row) (
    member (codes "table") (array (place_items roster (rows_of profile board roster))) (
    member (codes "version") (number_value (version_of board)) (
    member (codes "words") (array (word_items board)) no_members)))))))))

-- the screen of a board, by the group and the order of a header, with its edition and the twelve matches
unfoldable pub edition_screen_value : ℕ → BoardHeader → List ℕ → List NamedClub → Data
edition_screen_value row header board roster =
    with_member (codes "matches") (array (match_items board match_numbers)) (
    with_member (codes "edition") (number_value header.edition) (screen_value row header.profile board roster header.group))

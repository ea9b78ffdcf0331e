-- The matches of a board as text. The line of a match has three parts: state, counts and clubs.
use Rattle.std.specs.Prelude.{ℕ, ◌++◌, List, codes, decimal, flat_map}
use Rattle.ucl_word.specs.declared.record.MatchRecord.{MatchRecord}
use Rattle.ucl_word.specs.declared.record.State.{State}
use Rattle.ucl_word.specs.declared.record.State.TheVariants.{Scheduled, InPlay, Finished}
use Rattle.ucl_board.specs.Fixtures.{fixture_of, match_numbers}
use Rattle.ucl_board.specs.Words.{game_at}
use Rattle.ucl_order.specs.Roster.{NamedClub, name_of}
use Rattle.ucl_screen.specs.Lines.{left, right, zeros_before}

-- the name of the state of a match, as its line shows it
abbrev pub state_name : State → List ℕ
state_name Scheduled = codes "SCHEDULED"
state_name InPlay = codes "IN PLAY"
state_name Finished = codes "FINISHED"

-- the number of the home side, a hyphen, and the number of the visiting side
abbrev pub sides_text : ℕ → ℕ → List ℕ
sides_text home away = decimal home ++ codes "-" ++ decimal away

-- the first part of a line: the number of the match, the number of its last event, and its state
unfoldable pub state_text : ℕ → MatchRecord → List ℕ
state_text number game = codes "match " ++ right 2 (decimal number) ++ codes " v" ++ zeros_before 4 game.number ++ codes " " ++ left 9 (state_name game.state)

-- the second part of a line: goals, yellow cards that no second one turned into an expulsion, and expulsions, home side first
unfoldable pub counts_text : MatchRecord → List ℕ
counts_text game =
    right 2 (decimal game.home_goals) ++ codes "-" ++ decimal game.away_goals
    ++ codes " Y " ++ sides_text game.home_yellows game.away_yellows ++ codes " E " ++ sides_text game.home_expulsions game.away_expulsions

-- the last part of a line: the reporter of the last event, 0 if there is none, and the names of the home club and the visiting club
unfoldable pub clubs_text : MatchRecord → List ℕ → List ℕ → List ℕ
clubs_text game home away = codes "by " ++ right 3 (decimal game.reporter) ++ codes " " ++ home ++ codes " v " ++ away

-- the line of the match of a board with this number, 1 to 12, with the names of its clubs
unfoldable pub match_line : List ℕ → List NamedClub → ℕ → List ℕ
match_line board clubs number =
    let game = game_at board number in
    let fixture = fixture_of number in
    state_text number game ++ codes " " ++ counts_text game ++ codes " " ++ clubs_text game (name_of clubs fixture.home) (name_of clubs fixture.away) ++ codes "\n"

-- the lines of the twelve matches of a board, by number
unfoldable pub matches_text : List ℕ → List NamedClub → List ℕ
matches_text board clubs = flat_map (match_line board clubs) match_numbers

-- The matches of a board with their scores. An appearance is a match from the side of one of its clubs.
use Rattle.std.specs.Prelude.{◌≢◌, ◌≤◌, ℕ, not, Bool, List, map, filter, ◌+◌, ◌*◌, ◌==◌, ◌&&◌, nat_lt, true, false, if◌then◌else◌}
use Rattle.std.specs.Prelude.{Option, Some, None}
use Rattle.ucl_word.specs.declared.record.MatchRecord.{MatchRecord}
use Rattle.ucl_word.specs.Rules.{is_scheduled, is_finished}
use Rattle.ucl_board.specs.Fixtures.{IsSlot, fixture_of, match_numbers}
use Rattle.ucl_board.specs.Words.{game_at}
use Rattle.ucl_order.specs.declared.game.Match.{Match}
use Rattle.ucl_order.specs.declared.game.Score.{Score}
use Rattle.ucl_order.specs.declared.game.Appearance.{Appearance}

-- the part of a match record that a table needs, without the event number and the reporter of the last event
abbrev pub score_of : MatchRecord → Score
score_of game = record {
  state = game.state;
  home_goals = game.home_goals;
  away_goals = game.away_goals;
  home_yellows = game.home_yellows;
  away_yellows = game.away_yellows;
  home_expulsions = game.home_expulsions;
  away_expulsions = game.away_expulsions;
}

-- no number of the score is above the limit of a valid match record: 63 goals, 63 yellow cards and 31 expulsions a side
pub record IsScore (score : Score) : Type 0 where
  pub home_goals : score.home_goals ≤ 63
  pub away_goals : score.away_goals ≤ 63
  pub home_yellows : score.home_yellows ≤ 63
  pub away_yellows : score.away_yellows ≤ 63
  pub home_expulsions : score.home_expulsions ≤ 31
  pub away_expulsions : score.away_expulsions ≤ 31

-- the match has a score within the limits of a valid match record
abbrev pub HasScore : Match → Type 0
HasScore game = IsScore game.score

-- the match of a board with this number, 1 to 12: the slots of the home club and the visiting club, and the score
abbrev pub match_at : List ℕ → ℕ → Match
match_at board number = record { home = (fixture_of number).home; away = (fixture_of number).away; score = score_of (game_at board number) }

-- the twelve matches of a board, by their numbers
unfoldable pub matches_of : List ℕ → List Match
matches_of board = map (match_at board) match_numbers

-- the match is in play or finished
abbrev pub has_started : Match → Bool
has_started game = not (is_scheduled game.score.state)

-- the match is finished
abbrev pub has_finished : Match → Bool
has_finished game = is_finished game.score.state

-- the match is in play
abbrev pub is_under_way : Match → Bool
is_under_way game = has_started game && not (has_finished game)

-- two different clubs of the group play the match
abbrev pub IsPairing : Match → Type 0
IsPairing game = IsSlot game.home × IsSlot game.away × (game.home ≢ game.away)

-- those of the matches that are in play or finished
abbrev pub started : List Match → List Match
started matches = filter has_started matches

-- the matches of a board that are in play or finished
abbrev pub started_of : List ℕ → List Match
started_of board = started (matches_of board)

-- those of the matches that are finished
abbrev pub finished : List Match → List Match
finished matches = filter has_finished matches

-- those of the matches that are in play
abbrev pub under_way : List Match → List Match
under_way matches = filter is_under_way matches

-- those of the matches that are scheduled or in play
abbrev pub unfinished : List Match → List Match
unfinished matches = filter (λ game. not (has_finished game)) matches

-- the match from the side of the home club
abbrev pub seen_from_home : Match → Appearance
seen_from_home game = record { is_away = false; scored = game.score.home_goals; conceded = game.score.away_goals; yellows = game.score.home_yellows; expulsions = game.score.home_expulsions }

-- the match from the side of the visiting club
abbrev pub seen_from_away : Match → Appearance
seen_from_away game = record { is_away = true; scored = game.score.away_goals; conceded = game.score.home_goals; yellows = game.score.away_yellows; expulsions = game.score.away_expulsions }

-- the match from the side of a club; None if the club does not play it
abbrev pub seen_by : ℕ → Match → Option Appearance
seen_by club game =
    if game.home == club then Some (seen_from_home game)
    else (if game.away == club then Some (seen_from_away game)
    else None)

-- the club scored more goals than its opponent
abbrev pub is_won : Appearance → Bool
is_won game = nat_lt game.conceded game.scored

-- the club scored as many goals as its opponent
abbrev pub is_drawn : Appearance → Bool
is_drawn game = game.scored == game.conceded

-- the club scored fewer goals than its opponent
abbrev pub is_lost : Appearance → Bool
is_lost game = nat_lt game.scored game.conceded

-- what a match adds to the club's disciplinary total: 1 for each yellow card that no second one turned into an expulsion,
-- 3 for each expulsion
abbrev pub disciplinary_points : Appearance → ℕ
disciplinary_points game = game.yellows + 3 * game.expulsions

-- What a club has done in a list of matches, its results.
use Rattle.std.specs.Prelude.{ℕ, ◌+◌, ◌*◌, List, length, filter, count_by, sum_by, ℤ, pos, ◌-ℤ◌}
use Rattle.std.specs.List.{filter_map}
use Rattle.ucl_order.specs.declared.game.Match.{Match}
use Rattle.ucl_order.specs.declared.game.Appearance.{Appearance}
use Rattle.ucl_order.specs.declared.results.Results.{Results}
use Rattle.ucl_order.specs.Matches.{seen_by, is_won, is_drawn, is_lost, disciplinary_points}

-- the matches of the list that the club plays, each from the side of the club
abbrev pub appearances : ℕ → List Match → List Appearance
appearances club matches = filter_map (seen_by club) matches

-- the matches of the list in which the club is the visitor, each from the side of the club
abbrev pub away_matches : ℕ → List Match → List Appearance
away_matches club matches = filter (λ game. game.is_away) (appearances club matches)

-- how many of the matches the club plays
abbrev pub played : ℕ → List Match → ℕ
played club matches = length (appearances club matches)

-- how many of the matches the club won
abbrev pub wins : ℕ → List Match → ℕ
wins club matches = count_by is_won (appearances club matches)

-- how many of the matches the club drew
abbrev pub draws : ℕ → List Match → ℕ
draws club matches = count_by is_drawn (appearances club matches)

-- how many of the matches the club lost
abbrev pub losses : ℕ → List Match → ℕ
losses club matches = count_by is_lost (appearances club matches)

-- the points for a win
abbrev pub points_of_win : ℕ
points_of_win = 3

-- the points for so many wins and so many draws, each of which gives one
abbrev pub points_for : ℕ → ℕ → ℕ
points_for wins draws = points_of_win * wins + draws

-- the points of the club in the matches: three for a win, one for a draw
abbrev pub points : ℕ → List Match → ℕ
points club matches = points_for (wins club matches) (draws club matches)

-- the goals that the club scored in the matches
abbrev pub goals_for : ℕ → List Match → ℕ
goals_for club matches = sum_by (λ game. game.scored) (appearances club matches)

-- the goals that the club conceded in the matches
abbrev pub goals_against : ℕ → List Match → ℕ
goals_against club matches = sum_by (λ game. game.conceded) (appearances club matches)

-- the goal difference of the club in the matches, an integer
abbrev pub difference : ℕ → List Match → ℤ
difference club matches = pos (goals_for club matches) -ℤ pos (goals_against club matches)

-- the goals that the club scored as the visitor in the matches
abbrev pub away_goals : ℕ → List Match → ℕ
away_goals club matches = sum_by (λ game. game.scored) (away_matches club matches)

-- how many of the matches the club won as the visitor
abbrev pub away_wins : ℕ → List Match → ℕ
away_wins club matches = count_by is_won (away_matches club matches)

-- the disciplinary total of the club in the matches: 1 for each yellow card that no second one turned into an expulsion, 3 for each
-- expulsion
abbrev pub discipline : ℕ → List Match → ℕ
discipline club matches = sum_by disciplinary_points (appearances club matches)

-- the results of a club from its appearances: each number is counted over all of them at once
unfoldable pub totals : List Appearance → Results
totals games = record {
  played = length games;
  wins = count_by is_won games;
  draws = count_by is_drawn games;
  losses = count_by is_lost games;
  goals_for = sum_by (λ game. game.scored) games;
  goals_against = sum_by (λ game. game.conceded) games;
  away_goals = sum_by (λ game. game.scored) (filter (λ game. game.is_away) games);
  away_wins = count_by is_won (filter (λ game. game.is_away) games);
  discipline = sum_by disciplinary_points games;
}

-- the results of a club in a list of matches; matches that it does not play count for nothing
abbrev pub results_of : ℕ → List Match → Results
results_of club matches = totals (appearances club matches)

-- What a club has done, counted one match at a time as the code counts it, and the limits of the numbers.
use Rattle.std.specs.Prelude.{◌≡◌, ℕ, ◌+◌, ◌*◌, ◌≤◌, ◌&&◌, if◌then◌else◌, All, List, length}
use Rattle.ucl_board.specs.Fixtures.{IsSlot}
use Rattle.ucl_order.specs.declared.game.Match.{Match}
use Rattle.ucl_order.specs.declared.game.Appearance.{Appearance}
use Rattle.ucl_order.specs.declared.results.Results.{Results}
use Rattle.ucl_order.specs.Matches.{HasScore, IsPairing, is_won, is_drawn, is_lost, disciplinary_points}
use Rattle.ucl_order.specs.declared.mark.Mark.{Mark}
use Rattle.ucl_order.specs.declared.table.Row.{Row}
use Rattle.ucl_order.specs.Results.{away_matches, played, points_for}

-- the results of a club once one match more is counted; the match is given from the side of the club
abbrev pub with_match : Results → Appearance → Results
with_match before game = record {
  played = before.played + 1;
  wins = before.wins + (if is_won game then 1 else 0);
  draws = before.draws + (if is_drawn game then 1 else 0);
  losses = before.losses + (if is_lost game then 1 else 0);
  goals_for = before.goals_for + game.scored;
  goals_against = before.goals_against + game.conceded;
  away_goals = before.away_goals + (if game.is_away then game.scored else 0);
  away_wins = before.away_wins + (if game.is_away && is_won game then 1 else 0);
  discipline = before.discipline + disciplinary_points game;
}

-- the row of the table for the club in a slot, with its place and mark, and with the numbers of its results
abbrev pub row_by : ℕ → ℕ → Mark → Results → Row
row_by place slot mark results = record {
  slot = slot;
  place = place;
  mark = mark;
  played = results.played;
  wins = results.wins;
  draws = results.draws;
  losses = results.losses;
  goals_for = results.goals_for;
  goals_against = results.goals_against;
  points = points_for results.wins results.draws;
}

-- no number of the results is above what a club can reach in so many matches, if each count of goals or cards in a match is at most 255
pub record IsWithin (matches : ℕ) (results : Results) : Type 0 where
  pub played : results.played ≤ matches
  pub wins : results.wins ≤ matches
  pub draws : results.draws ≤ matches
  pub losses : results.losses ≤ matches
  pub goals_for : results.goals_for ≤ 255 * matches
  pub goals_against : results.goals_against ≤ 255 * matches
  pub away_goals : results.away_goals ≤ 255 * matches
  pub away_wins : results.away_wins ≤ matches
  pub discipline : results.discipline ≤ 1020 * matches

-- no number of the results is above what a club of a group can reach in its six matches, three of them away, with at most 63 goals, 63
-- yellow cards and 31 expulsions a side; so each number fits its bits, or field, of a key that packs them
pub record FitsFields (results : Results) : Type 0 where
  pub points : points_for results.wins results.draws ≤ 18
  pub goals_for : results.goals_for ≤ 378
  pub goals_against : results.goals_against ≤ 378
  pub away_goals : results.away_goals ≤ 189
  pub played : results.played ≤ 6
  pub wins : results.wins ≤ 6
  pub draws : results.draws ≤ 6
  pub losses : results.losses ≤ 6
  pub away_wins : results.away_wins ≤ 3
  pub discipline : results.discipline ≤ 936

-- each club plays six of the matches
abbrev pub HasSixEach : List Match → Type 0
HasSixEach matches = (club : ℕ) → IsSlot club → played club matches ≡ 6

-- matches of one group, all or some of them: each is of two different clubs, its score is within the limits of a match record, and no club
-- plays more than six, or more than three away
pub record AreOfGroup (matches : List Match) : Type 0 where
  pub few : length matches ≤ 12
  pub pairings : All IsPairing matches
  pub scores : All HasScore matches
  pub six : (club : ℕ) → IsSlot club → played club matches ≤ 6
  pub three_away : (club : ℕ) → IsSlot club → length (away_matches club matches) ≤ 3

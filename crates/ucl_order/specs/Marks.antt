-- Marks: which clubs are certain to be among the first two of the group when it ends, and which are certain not to be.
-- A club can reach its points from finished matches and three for each one left.
use Rattle.std.specs.Prelude.{◌≡◌, ℕ, ◌+◌, ◌*◌, ◌==◌, ◌&&◌, not, nat_lt, nat_le, if◌then◌else◌, Bool, List, count_by, take, Contains, map}
use Rattle.std.specs.List.{list_all}
use Rattle.ucl_word.specs.declared.record.State.TheVariants.{Finished}
use Rattle.ucl_board.specs.Fixtures.{IsMatch}
use Rattle.ucl_board.specs.Words.{AreWords, game_at}
use Rattle.ucl_order.specs.declared.game.Match.{Match}
use Rattle.ucl_order.specs.declared.mark.Mark.{Mark}
use Rattle.ucl_order.specs.declared.mark.Mark.TheVariants.{Plus, Minus, Blank}
use Rattle.ucl_order.specs.declared.profile.Profile.{Profile}
use Rattle.ucl_order.specs.Roster.{NamedClub}
use Rattle.ucl_order.specs.Matches.{matches_of, has_finished, finished, unfinished, started_of}
use Rattle.ucl_order.specs.Results.{played, points, points_of_win}
use Rattle.ucl_order.specs.Order.{is_in, all_clubs, order_of}
use Rattle.ucl_order.specs.declared.mark.PointBounds.{PointBounds}

-- the points of a club from the finished ones of these matches
abbrev pub sure_points : List Match → ℕ → ℕ
sure_points matches club = points club (finished matches)

-- how many of these matches the club plays that are scheduled or in play
abbrev pub matches_left : List Match → ℕ → ℕ
matches_left matches club = played club (unfinished matches)

-- the most points that the club can end with: its points from finished matches, and three for each match that it has left
abbrev pub reach : List Match → ℕ → ℕ
reach matches club = sure_points matches club + points_of_win * matches_left matches club

-- the other club can still have as many points as the club has from finished matches
abbrev pub is_rival : List Match → ℕ → ℕ → Bool
is_rival matches club other = not (other == club) && nat_le (sure_points matches club) (reach matches other)

-- the other club has more points from finished matches than the club can reach
abbrev pub is_out_of_reach : List Match → ℕ → ℕ → Bool
is_out_of_reach matches club other = not (other == club) && nat_lt (reach matches club) (sure_points matches other)

-- how many other clubs can still have as many points as the club has from finished matches
abbrev pub rivals : List Match → ℕ → ℕ
rivals matches club = count_by (is_rival matches club) all_clubs

-- how many other clubs have more points from finished matches than the club can reach
abbrev pub out_of_reach : List Match → ℕ → ℕ
out_of_reach matches club = count_by (is_out_of_reach matches club) all_clubs

-- the mark of a club while some match is not finished, by points: plus if at most one other club can still have as many points as it has,
-- else minus if at least two have more than it can reach, else blank
abbrev pub early_mark : List Match → ℕ → Mark
early_mark matches club = if nat_le (rivals matches club) 1 then Plus else (if nat_le 2 (out_of_reach matches club) then Minus else Blank)

-- the mark of a club once all matches are finished: plus if it is among the first two of the order, else minus
abbrev pub final_mark : List ℕ → ℕ → Mark
final_mark order club = if is_in (take 2 order) club then Plus else Minus

-- the mark of a club by the twelve matches and the order: the final mark if all matches are finished, else the early mark, by points
abbrev pub mark_by : List Match → List ℕ → ℕ → Mark
mark_by matches order club = if list_all has_finished matches then final_mark order club else early_mark matches club

-- the mark of a club on a board, with the clubs of this roster ordered under the profile
unfoldable pub mark_of : Profile → List ℕ → List NamedClub → ℕ → Mark
mark_of profile board roster club = mark_by (matches_of board) (order_of profile (started_of board) roster) club

-- the club goes through to the round of 16: it is among the first two of the order of this board and roster under the profile
abbrev pub GoesThrough : Profile → List ℕ → List NamedClub → ℕ → Type 0
GoesThrough profile board roster club = Contains (take 2 (order_of profile (started_of board) roster)) club

-- the later board is a completion of the board: all its matches are finished, each with a valid record, and those that were finished are as
-- they were
pub record IsCompletion (board later : List ℕ) : Type 0 where
  pub words : AreWords later
  pub ended : (game : ℕ) → IsMatch game → (game_at later game).state ≡ Finished
  pub kept : (game : ℕ) → IsMatch game → (game_at board game).state ≡ Finished → game_at later game ≡ game_at board game

-- the bounds of the clubs' points, by slot: the points from finished matches, and the points if the club won all its other matches
pub record ArePointBounds (matches : List Match) (bounds : PointBounds) : Type 0 where
  pub sure : bounds.sure ≡ map (sure_points matches) all_clubs
  pub reach : bounds.reach ≡ map (reach matches) all_clubs

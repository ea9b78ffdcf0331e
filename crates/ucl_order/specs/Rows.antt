-- The rows of the table of a board.
use Rattle.std.specs.Prelude.{◌≡◌, ℕ, ◌-◌, ◌≤◌, List, [], ◌∷◌, map, slice_index}
use Rattle.ucl_board.specs.Fixtures.{IsSlot}
use Rattle.ucl_order.specs.declared.game.Match.{Match}
use Rattle.ucl_order.specs.declared.mark.Mark.{Mark}
use Rattle.ucl_order.specs.declared.mark.Mark.TheVariants.{Plus, Minus}
use Rattle.ucl_order.specs.declared.profile.Profile.{Profile}
use Rattle.ucl_order.specs.declared.table.Row.{Row}
use Rattle.ucl_order.specs.Roster.{NamedClub}
use Rattle.ucl_order.specs.Matches.{started_of}
use Rattle.ucl_order.specs.Results.{played, wins, draws, losses, goals_for, goals_against, points}
use Rattle.ucl_order.specs.Order.{order_of}
use Rattle.ucl_order.specs.Marks.{IsCompletion, GoesThrough, mark_of}

-- the row of the table for the club in a slot, with its place and mark, and with its numbers in these matches
abbrev pub row_with : ℕ → ℕ → Mark → List Match → Row
row_with place slot mark matches = record {
  slot = slot;
  place = place;
  mark = mark;
  played = played slot matches;
  wins = wins slot matches;
  draws = draws slot matches;
  losses = losses slot matches;
  goals_for = goals_for slot matches;
  goals_against = goals_against slot matches;
  points = points slot matches;
}

-- the slot of the club at a place, 1 to 4, of the board's order under the profile
abbrev pub club_at : Profile → List ℕ → List NamedClub → ℕ → ℕ
club_at profile board roster place = slice_index (order_of profile (started_of board) roster) (place - 1)

-- the row at a place, 1 to 4, of a board's table: the club's mark, and its numbers in the matches in play and finished
unfoldable pub row_of : Profile → List ℕ → List NamedClub → ℕ → Row
row_of profile board roster place =
    let slot = club_at profile board roster place in
    row_with place slot (mark_of profile board roster slot) (started_of board)

-- the table of a board with this roster: four rows by place, with the clubs ordered under the profile
abbrev pub rows_of : Profile → List ℕ → List NamedClub → List Row
rows_of profile board roster = map (row_of profile board roster) (1 ∷ 2 ∷ 3 ∷ 4 ∷ [])

-- no number of the row is above what a club can reach in six matches of at most 63 goals a side
pub record IsWithinTable (row : Row) : Type 0 where
  pub slot : IsSlot row.slot
  pub played : row.played ≤ 6
  pub wins : row.wins ≤ 6
  pub draws : row.draws ≤ 6
  pub losses : row.losses ≤ 6
  pub goals_for : row.goals_for ≤ 378
  pub goals_against : row.goals_against ≤ 378
  pub points : row.points ≤ 18

-- the mark of the row is right in each completion of the board: with a plus the club is among the first two, with a minus it is not
pub record MarkIsCertain (profile : Profile) (board : List ℕ) (roster : List NamedClub) (row : Row) : Type 0 where
  pub plus : row.mark ≡ Plus → (later : List ℕ) → IsCompletion board later → GoesThrough profile later roster row.slot
  pub minus : row.mark ≡ Minus → (later : List ℕ) → IsCompletion board later → GoesThrough profile later roster row.slot → ⊥

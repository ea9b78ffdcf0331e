-- The events that stand on a board, as the code keeps them, and the board that a mend makes of them event by event.
use Rattle.std.specs.Prelude.{◌≡◌, ℕ, ◌≤◌, List}
use Rattle.ucl_board.specs.History.{IsLegal, board_of}
use Rattle.ucl_mends.specs.declared.standing.StandingEvent.{StandingEvent}
use Rattle.ucl_mends.specs.declared.standing.Fate.{Fate}
use Rattle.ucl_mends.specs.Mended.{fate_of, history_in, kept_by}

-- these events are a legal history, with room for 49,140 in the memory that holds them, and the board is that of this history
pub record AreStanding (events : List StandingEvent) (room : ℕ) (board : List ℕ) : Type 0 where
  pub legal : IsLegal (history_in events)
  pub board_is : board_of (history_in events) ≡ board
  pub enough : 49140 ≤ room

-- these events are a legal history, and the board is that of this history
pub record AreOnBoard (events : List StandingEvent) (board : List ℕ) : Type 0 where
  pub legal : IsLegal (history_in events)
  pub board_is : board_of (history_in events) ≡ board

-- a mend that names this row goes on by one event, whose fate is `fate`; `board` is the board of what it kept before, `board2` of what it
-- keeps after it
abbrev pub MendsOneMore : ℕ → StandingEvent → Fate → List ℕ → List ℕ → Type 0
MendsOneMore row event fate board board2 = (kept : List StandingEvent) → AreOnBoard kept board
    → (fate ≡ fate_of row kept event) × AreOnBoard (kept_by kept event fate) board2

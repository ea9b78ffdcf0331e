-- Which views of passes can occur. `words_after` says what a board's words are after a history, and `May` which step may come next.
use Rattle.std.specs.Prelude.{◌≡◌, ◌≢◌, ℕ, List}
use mathlib.Core.Option.{some}
use lib.ListN.{get_elem?}
use Rattle.ucl_board.specs.declared.entry.Entry.{Entry}
use Rattle.ucl_log.specs.Log.{LoggedStep, Log}
use Rattle.ucl_live_board.specs.declared.view.View.{View}
use Rattle.ucl_live_board.specs.BoardInvariant.{BoardInvariant}

-- a view occurs at a seat: there are words and views of all passes that meet the invariant of the board, with this view at this seat
pub record OccursIn (words_after : List Entry → ℕ → List ℕ) (May : Log → LoggedStep → Type 0) (seat : ℕ) (view : View) : Type 0 where
  pub words : List ℕ
  pub views : List View
  pub rule : BoardInvariant words_after May words views
  pub here : get_elem? views seat ≡ some view

-- a view occurs: some words and views of all passes meet the invariant of the board, with this view at some seat
abbrev pub OccursSomewhere : (List Entry → ℕ → List ℕ) → (Log → LoggedStep → Type 0) → View → Type 0
OccursSomewhere words_after May view = (seat : ℕ) × OccursIn words_after May seat view

-- two views occur together: there are words and views of all passes that meet the invariant, with v at this seat and w at another
pub record OccurTogether (words_after : List Entry → ℕ → List ℕ) (May : Log → LoggedStep → Type 0) (seat : ℕ) (v w : View) : Type 0 where
  pub words : List ℕ
  pub views : List View
  pub rule : BoardInvariant words_after May words views
  pub here : get_elem? views seat ≡ some v
  pub other : ℕ
  pub apart : other ≢ seat
  pub there : get_elem? views other ≡ some w

-- if some state that satisfies the invariant has a pass with the view `old` at a seat, some such state has `left` at that seat and `second`
-- at another, as after a split of the pass
abbrev pub BothOccur : (List Entry → ℕ → List ℕ) → (Log → LoggedStep → Type 0) → View → View → View → Type 0
BothOccur words_after May old left second = (seat : ℕ) → OccursIn words_after May seat old → OccurTogether words_after May seat left second

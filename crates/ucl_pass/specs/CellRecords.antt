-- What each public call of a cell board promises: one record for each, with what every shared board says (`says`), how many steps the call
-- takes (`acts`), and that its pass has then seen the whole history (`up_to_date`). `old` is what contracts know of the pass before, `new`
-- after. By `occurs` some state that satisfies the invariant has the pass as it is then.
use Rattle.std.specs.Prelude.{◌≡◌, ℕ, ◌+◌, ◌<◌, List, length, Result}
use Rattle.atomic_table.specs.Seated.{TableId}
use Rattle.atomic_table.specs.declared.shared.Seat.{Seat}
use Rattle.crossbeam_utils.specs.declared.atomic.seq_cell.Doing as cell
use Rattle.crossbeam_utils.specs.Seq.{cell_view}
use Rattle.ucl_word.specs.declared.event.EventCall.{EventCall}
use Rattle.ucl_word.specs.declared.event.Accepted.{Accepted}
use Rattle.ucl_word.specs.declared.refusal.Refusal.{Refusal}
use Rattle.ucl_board.specs.declared.reading.Reading.{Reading}
use Rattle.ucl_log.specs.Log.{IsLegalStep, history_of}
use Rattle.ucl_live_board.specs.LiveRecords.{LiveReported, LiveRead, LiveSplit, LiveFull, LiveMet}
use Rattle.ucl_live_board.specs.Passes.{Enlistment, opening_pass}
use Rattle.ucl_live_board.specs.PossibleViews.{BothOccur}
use Rattle.ucl_live_board.specs.declared.view.View.{View}
use Rattle.ucl_live_board.specs.Views.{count_of, left_pass, note_pass, told_pass}
use Rattle.ucl_pass.specs.CellSteps.{LooksOnly, LooksAndShows}
use Rattle.ucl_pass.specs.CellCalls.{CellReportSteps, CellEnlistSteps, LoadsAtLast, HasNumberLeft}
use Rattle.ucl_pass.specs.CellInvariants.{IsUpToDate, CellOccurs, cell_pass_view, words_after}

-- What contracts see of a pass: its board, and its view: the prefix of the log of all steps that it knows, its own steps, its share.
pub record CellPass : Type 0 where
  pub board : TableId
  pub view : View

-- What contracts see of the pass that acts by this seat of a cell (its identity there).
abbrev pub cell_pass_of : {T : Type 0} → Seat T (cell.Doing T View) → CellPass
cell_pass_of seat = record { board = seat.table_id; view = cell_view seat }

-- A pass is of this board, and some state that satisfies the invariant has it.
abbrev pub IsCellPassOf : TableId → CellPass → Type 0
IsCellPassOf board pass = (pass.board ≡ board) × CellOccurs pass.view

-- What `open` promises of the first pass of a new board: it has seen and done nothing, and has the whole board to itself.
pub record CellOpened (new : CellPass) : Type 0 where
  pub fresh : cell_pass_view new.view ≡ opening_pass
  pub acts : count_of new.view ≡ 0

-- What a report promises: the event `call` was entered or refused, as `reply` says, in exactly these steps, one or more.
pub record CellReported (old : CellPass) (call : EventCall) (reply : Result Accepted Refusal) (new : CellPass) : Type 0 where
  pub own : new.board ≡ old.board
  pub says : LiveReported (cell_pass_view old.view) call reply (cell_pass_view new.view)
  pub steps : CellReportSteps old.view call reply new.view
  pub acts : count_of old.view < count_of new.view
  pub up_to_date : IsUpToDate new.view
  pub occurs : CellOccurs new.view

-- What a reading promises: one load, and the version of `read` is how many events had been accepted before it.
pub record CellRead (old : CellPass) (read : Reading) (new : CellPass) : Type 0 where
  pub own : new.board ≡ old.board
  pub says : LiveRead (cell_pass_view old.view) read (cell_pass_view new.view)
  pub step : (words : List ℕ) × LooksAndShows old.view words words new.view
  pub version : read.version ≡ length (history_of new.view.log)
  pub acts : count_of new.view ≡ count_of old.view + 1
  pub up_to_date : IsUpToDate new.view
  pub occurs : CellOccurs new.view

-- What a split promises of the pass that it splits, `old` and then `new`, and of the `second` pass that it returns: it takes no step, the
-- first keeps half of its share of the board, and the second knows as much and has the other half.
pub record CellSplit (old new second : CellPass) : Type 0 where
  pub own : (new.board ≡ old.board) × (second.board ≡ old.board)
  pub says : LiveSplit (cell_pass_view old.view) (cell_pass_view new.view) (cell_pass_view second.view)
  pub kept : new.view ≡ left_pass old.view
  pub acts : count_of second.view ≡ count_of old.view
  pub occurs : BothOccur words_after IsLegalStep old.view new.view second.view

-- What an enlistment promises: a reader's pass became a reporter's, with a number of its own, in exactly these steps, one or more.
pub record CellEnlisted (old new : CellPass) : Type 0 where
  pub own : new.board ≡ old.board
  pub enlisted : Enlistment (cell_pass_view old.view) (cell_pass_view new.view)
  pub steps : CellEnlistSteps old.view new.view
  pub acts : count_of old.view < count_of new.view
  pub up_to_date : IsUpToDate new.view
  pub occurs : CellOccurs new.view

-- What an enlistment promises if no number is left: the reader's pass comes back, and has found 255 reporters enlisted.
pub record CellFull (old new : CellPass) : Type 0 where
  pub own : new.board ≡ old.board
  pub says : LiveFull (cell_pass_view old.view) (cell_pass_view new.view)
  pub steps : (words : List ℕ) × LoadsAtLast HasNumberLeft old.view words new.view
  pub acts : count_of old.view < count_of new.view
  pub up_to_date : IsUpToDate new.view
  pub occurs : CellOccurs new.view

-- What a meeting of two passes promises: the pass `old`, then `new`, has seen all events that either had seen, after one load; the other
-- pass, `other_old` and then `other_new`, is as it was.
pub record CellMet (other_old other_new old new : CellPass) : Type 0 where
  pub own : (other_new.board ≡ other_old.board) × (new.board ≡ old.board)
  pub says : LiveMet (cell_pass_view other_old.view) (cell_pass_view other_new.view) (cell_pass_view old.view) (cell_pass_view new.view)
  pub step : (words : List ℕ) × LooksOnly (told_pass old.view (note_pass other_old.view)) words words new.view
  pub unchanged : other_new ≡ other_old
  pub acts : count_of new.view ≡ count_of old.view + 1
  pub up_to_date : IsUpToDate new.view
  pub occurs : CellOccurs new.view

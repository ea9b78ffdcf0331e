-- The thirteen words of a cell board, its invariant, and what contracts read off the view of a pass. A state is the words and the views of
-- all passes at one moment.
use Rattle.std.specs.Prelude.{◌≡◌, ℕ, true, List, [], ◌∷◌, ◌++◌}
use Rattle.std.specs.List.{fold}
use Rattle.ucl_board.specs.declared.entry.Entry.{Entry}
use Rattle.ucl_board.specs.History.{board_of}
use Rattle.ucl_log.specs.Log.{Action, CountRaised, Whole, TakenStep, Log, logged_by, IsLegalStep}
use Rattle.ucl_live_board.specs.declared.view.View.{View}
use Rattle.ucl_live_board.specs.BoardInvariant.{BoardInvariant}
use Rattle.ucl_live_board.specs.PossibleViews.{OccursSomewhere}
use Rattle.ucl_live_board.specs.Passes.{PassView}
use Rattle.ucl_live_board.specs.Views.{pass_view_by}

-- The words of the board after a history and with `enlisted` reporters: the words of the twelve matches, then that number.
abbrev pub words_after : List Entry → ℕ → List ℕ
words_after history enlisted = board_of history ++ enlisted ∷ []

-- The invariant of the board: one log of all steps, each as the rules allow (`IsLegalStep`), gives its words and what each pass knows.
abbrev pub CellInvariant : List ℕ → List View → Type 0
CellInvariant = BoardInvariant words_after IsLegalStep

-- A predicate on words and views is at least as strong as the invariant of the board: if it holds, the invariant holds.
abbrev pub ImpliesInvariant : (List ℕ → List View → Type 0) → Type 0
ImpliesInvariant holds = (words : List ℕ) (views : List View) → holds words views → CellInvariant words views

-- Some state that satisfies the invariant has a pass with this view.
abbrev pub CellOccurs : View → Type 0
CellOccurs = OccursSomewhere words_after IsLegalStep

-- The versions that a pass has read after a step with this action at this length of the history, if they were `shown` before: a reading
-- (`Whole true`) adds the length, and an enlistment empties the list.
abbrev pub shown_after : Action → ℕ → List ℕ → List ℕ
shown_after (Whole true) length shown = shown ++ length ∷ []
shown_after (CountRaised found) length shown = []
shown_after action length shown = shown

-- The versions that a pass with these steps has read, oldest first, since it was enlisted if it is a reporter's.
abbrev pub versions_loaded : List TakenStep → List ℕ
versions_loaded steps = fold (λ (shown : List ℕ) (step : TakenStep). shown_after step.action step.length shown) [] steps

-- What every shared board says of a pass, by its view: the events that it has seen, its own, its number, its share, its readings' versions.
abbrev pub cell_pass_view : View → PassView
cell_pass_view pass = pass_view_by versions_loaded pass

-- The last step of the log that the pass knows is its own: so it has seen the whole history, as it was at that step.
pub record IsUpToDate (pass : View) : Type 0 where
  pub before : Log
  pub seat : ℕ
  pub steps : List TakenStep
  pub last : TakenStep
  pub log : pass.log ≡ before ++ logged_by seat last ∷ []
  pub own : pass.own ≡ steps ++ last ∷ []

-- The thirteen words of a word board, the invariant that holds between any two atomic steps, and what each kind of step says of its pass:
-- a step of the word `step.word` finds `found`; `before.0` and `after.0` are what its pass knows before and after it.
use Rattle.std.specs.Prelude.{◌≡◌, ℕ, ◌==◌, List, [], ◌∷◌, if◌then◌else◌}
use Rattle.atomic_table.specs.Table.{State, Step, Me}
use Rattle.ucl_word.specs.declared.event.EventCall.{EventCall}
use Rattle.ucl_board.specs.declared.entry.Entry.{Entry}
use Rattle.ucl_board.specs.History.{board_of}
use Rattle.ucl_log.specs.Log.{Look, Swap, First, Second, Action, Match, CountRead, CountRaised, TakenStep}
use Rattle.ucl_steps.specs.LocalState.{IsNextOfProtocol}
use Rattle.ucl_live_board.specs.declared.view.View.{View}
use Rattle.ucl_live_board.specs.BoardInvariant.{BoardInvariant}
use Rattle.ucl_live_board.specs.PossibleViews.{OccursIn, BothOccur}
use Rattle.ucl_live_board.specs.Steps.{BoardStep}
use Rattle.ucl_live_board.specs.Views.{Takes}

-- The words of the board after a history and with `enlisted` reporters: word 0 is their number, words 1 to 12 are the matches.
abbrev pub words_after : List Entry → ℕ → List ℕ
words_after history enlisted = enlisted ∷ board_of history

-- The invariant of the board: there is one log of all steps, each the next of the protocol, which gives its words and what each pass knows.
abbrev pub TableInvariant : State Entry View → Type 0
TableInvariant state = BoardInvariant words_after IsNextOfProtocol state.words state.views

-- A predicate on states is at least as strong as the invariant of the board: each state that satisfies it satisfies the invariant.
abbrev pub ImpliesInvariant : (State Entry View → Type 0) → Type 0
ImpliesInvariant holds = (state : State Entry View) → holds state → TableInvariant state

-- Some state that satisfies the invariant has this pass at this seat.
abbrev pub Occurs : ℕ → View → Type 0
Occurs seat pass = OccursIn words_after IsNextOfProtocol seat pass

-- If some state that satisfies the invariant has the pass `old` at a seat, some such state has `left` at that seat and `second` at another:
-- the two passes that a split makes of `old`.
abbrev pub OccurAfterSplit : View → View → View → Type 0
OccurAfterSplit = BothOccur words_after IsNextOfProtocol

-- The pass at a seat took one step with this action (which word, what was done and what was found), the next step of the protocol.
abbrev pub Steps : ℕ → Action → View → View → Type 0
Steps seat action before after = BoardStep words_after IsNextOfProtocol seat action before after

-- The load of a match word that begins the report of the event `call`, by the pass at a seat.
abbrev pub LookStep : ℕ → EventCall → Step Entry → Me Entry View → ℕ → Me Entry View → Type 0
LookStep seat call step before found after = Steps seat (Match (Look call) step.word found) before.0 after.0

-- A load of a match word, by the pass at some seat, in the first collect of a reading, which loads all match words.
abbrev pub FirstStep : Step Entry → Me Entry View → ℕ → Me Entry View → Type 0
FirstStep step before found after = (seat : ℕ) × Steps seat (Match First step.word found) before.0 after.0

-- A load of a match word, by the pass at a seat, in the second collect of a reading, which looks whether a word has changed.
abbrev pub SecondStep : ℕ → Step Entry → Me Entry View → ℕ → Me Entry View → Type 0
SecondStep seat step before found after = Steps seat (Match Second step.word found) before.0 after.0

-- The compare-and-exchange of a match word by a report, won or lost, by the pass at a seat.
abbrev pub ExchangeStep : ℕ → Step Entry → Me Entry View → ℕ → Me Entry View → Type 0
ExchangeStep seat step before found after = Steps seat (Match Swap step.word found) before.0 after.0

-- A load of the number of enlisted reporters, and of no other word, by the pass at a seat.
abbrev pub EnlistedStep : ℕ → Step Entry → Me Entry View → ℕ → Me Entry View → Type 0
EnlistedStep seat step before found after = (step.word ≡ 0) × Steps seat (CountRead found) before.0 after.0

-- A compare-and-exchange of the number of enlisted reporters, by the pass at a seat: it is won, and adds one, if it finds `step.first`.
abbrev pub EnlistStep : ℕ → Step Entry → Me Entry View → ℕ → Me Entry View → Type 0
EnlistStep seat step before found after = (step.word ≡ 0) × Steps seat (if found == step.first then CountRaised found else CountRead found) before.0 after.0

-- A step of this kind, whatever it finds, adds exactly one step to those of the pass that takes it, of which the log is made.
abbrev pub LogsOneStep : (Step Entry → Me Entry View → ℕ → Me Entry View → Type 0) → Type 0
LogsOneStep kind = (step : Step Entry) (before : Me Entry View) (found : ℕ) (after : Me Entry View)
    → kind step before found after → (taken : TakenStep) × Takes before.0 (taken ∷ []) after.0

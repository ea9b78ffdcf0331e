-- The theorems of word boards, between any two atomic steps. A state has the words and, by seat, the view of each pass.
use Rattle.std.specs.Prelude.{◌≡◌, ◌<◌, ℕ, List, length}
use mathlib.Core.List.{IsPrefix}
use mathlib.Core.Option.{some}
use lib.ListN.{get_elem?}
use Rattle.atomic_table.specs.Table.{State}
use Rattle.ucl_word.specs.Counts.{GainsOne}
use Rattle.ucl_board.specs.declared.entry.Entry.{Entry}
use Rattle.ucl_board.specs.Words.{word_at}
use Rattle.ucl_board.specs.History.{board_of, IsLegal}
use Rattle.ucl_log.specs.Log.{enlisted_by, number_of}
use Rattle.ucl_steps.specs.BoardObject.{HasLinearizableCalls}
use Rattle.ucl_steps.specs.LogRuns.{LeadsToLog}
use Rattle.ucl_live_board.specs.Numbers.{IsGivenAfter}
use Rattle.ucl_live_board.specs.declared.view.View.{View}
use Rattle.ucl_words.specs.TableInvariants.{TableInvariant}
use Rattle.ucl_words.specs.LaterState.{LaterState}

-- After any legal history in which the word of the entry's match is `old`, the entry may follow, and makes that word `new`.
abbrev pub IsNextWord : Entry → ℕ → ℕ → Type 0
IsNextWord entry old new = GainsOne IsLegal (λ history. word_at (board_of history) entry.game) entry old new

-- Two entries of one match that turn the same word into the same word are one entry: so a compare-and-exchange tells which event it
-- entered.
abbrev pub WordsTellTheEntry : Type 0
WordsTellTheEntry =
    (history : List Entry) (entry other : Entry) (old new : ℕ) → IsLegal history → entry.game ≡ other.game
    → word_at (board_of history) entry.game ≡ old → IsNextWord entry old new → IsNextWord other old new → entry ≡ other

-- In a state that satisfies the invariant (by `rule`, which has the log of all steps), all reports and readings of all passes are
-- linearizable, and the log is a run of the protocol's pure machine (`ucl_steps`), of which each step on a match word is one step.
pub record BoardIsLinearizable (state : State Entry View) (rule : TableInvariant state) : Type 0 where
  pub linearizable : HasLinearizableCalls rule.log
  pub run : LeadsToLog (length state.views) rule.log

-- Every state that satisfies the invariant is linearizable, so every board is, between any two steps of any threads.
abbrev pub BoardsAreLinearizable : Type 0
BoardsAreLinearizable = (state : State Entry View) (rule : TableInvariant state) → BoardIsLinearizable state rule

-- If one state is later than another, and both satisfy the invariant, its log begins with the log of the earlier one.
abbrev pub LaterBoardsExtend : Type 0
LaterBoardsExtend = (earlier later : State Entry View) (old : TableInvariant earlier) (new : TableInvariant later)
    → LaterState earlier later
    → IsPrefix old.log new.log

-- If a reader's pass of the earlier state is a reporter's in the later one, its number is above all that the earlier state had given.
abbrev pub NumbersRiseInTime : Type 0
NumbersRiseInTime =
    (earlier later : State Entry View) (rule : TableInvariant earlier) → TableInvariant later → LaterState earlier later
    → (seat : ℕ) (reader reporter : View) → get_elem? earlier.views seat ≡ some reader → number_of reader.own ≡ 0
    → get_elem? later.views seat ≡ some reporter → 0 < number_of reporter.own
    → IsGivenAfter (enlisted_by rule.log) earlier.views (number_of reporter.own)

-- What a step on a shared board tells its pass. `v` is the view of the pass before the step, and `w` after it. `words_after` says what a
-- board's words are after a history, and `May` which step may come after a log.
use Rattle.std.specs.Prelude.{◌≡◌, ℕ, List, [], ◌∷◌, ◌++◌, All, IsSome}
use mathlib.Core.List.{IsPrefix}
use Rattle.ucl_word.specs.declared.event.EventCall.{EventCall}
use Rattle.ucl_word.specs.declared.event.Kind.TheVariants.{KickOff}
use Rattle.ucl_word.specs.Counts.{EachMay}
use Rattle.ucl_board.specs.declared.entry.Entry.{Entry}
use Rattle.ucl_log.specs.Log.{Action, TakenStep, LoggedStep, Log, logged_by, taken_by, IsConsistentLog, MayBeTaken}
use Rattle.ucl_live_board.specs.declared.view.View.{View}
use Rattle.ucl_live_board.specs.PossibleViews.{OccursIn}

-- the view of a seat's pass after a step, which came after this log: the pass then knows the whole log
abbrev pub stepped_to : Log → ℕ → TakenStep → View → View
stepped_to before seat step v =
    record { log = before ++ logged_by seat step ∷ []; told = []; own = v.own ++ step ∷ []; share = v.share; copied = v.copied }

-- the pass at a seat took one step with this action (which word, what was done and found), and its view v became w: `May` allows the step
-- after the log `before`, which begins with all that the pass had known or been told; the pass has a share; and some state that satisfies
-- the invariant has w at the seat
pub record BoardStep (words_after : List Entry → ℕ → List ℕ) (May : Log → LoggedStep → Type 0) (seat : ℕ) (action : Action) (v w : View) : Type 0 where
  pub before : Log
  pub is_log : IsConsistentLog before
  pub follows : EachMay May before
  pub since : IsPrefix v.log before
  pub heard : All (λ (heard : Log). IsPrefix heard before) v.told
  pub own : v.own ≡ taken_by seat before
  pub step : TakenStep
  pub of : step.action ≡ action
  pub may : MayBeTaken before (logged_by seat step)
  pub next : May before (logged_by seat step)
  pub is : w ≡ stepped_to before seat step v
  pub acts : IsSome v.share
  pub occurs : OccursIn words_after May seat w

-- a stand-in for an event, for a step that belongs to no report
abbrev pub no_call : EventCall
no_call = record { game = 0; expected = 0; kind = KickOff }

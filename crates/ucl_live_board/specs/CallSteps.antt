-- Which steps a call on any shared board takes. `v` is the view before the call, and `w` after it.
use Rattle.std.specs.Prelude.{◌≡◌, ◌⊎◌, ℕ, List, [], ◌∷◌, length, Option, Some, None, Result, Ok, Err}
use Rattle.ucl_word.specs.declared.event.EventCall.{EventCall}
use Rattle.ucl_word.specs.declared.event.Accepted.{Accepted}
use Rattle.ucl_word.specs.declared.refusal.Refusal.{Refusal}
use Rattle.ucl_board.specs.declared.entry.Entry.{Entry}
use Rattle.ucl_board.specs.History.{entry_of}
use Rattle.ucl_log.specs.Log.{Access, Match, CountRead, CountRaised, TakenStep, step_taken, history_of, enlisted_by}
use Rattle.ucl_live_board.specs.declared.view.View.{View}
use Rattle.ucl_live_board.specs.Views.{Takes}

-- the steps of the log that these accesses (steps on match words) are: the last adds `entry`, if it is not None; the others add none
abbrev pub steps_with : Option Entry → List Access → List TakenStep
steps_with entry [] = []
steps_with entry (a ∷ []) = step_taken (Match a.kind a.game a.found) a.index a.length entry ∷ []
steps_with entry (a ∷ b ∷ more) = step_taken (Match a.kind a.game a.found) a.index a.length None ∷ steps_with entry (b ∷ more)

-- the entry that an event with this reply made in the history, for the reporter with this number; None if it was refused
abbrev pub entry_made : ℕ → EventCall → Result Accepted Refusal → Option Entry
entry_made number call (Ok reply) = Some (entry_of number call)
entry_made number call (Err refusal) = None

-- a step is on the number of enlisted reporters, by a load or a compare-and-exchange, found so many, and added no entry
abbrev pub FoundEnlisted : ℕ → TakenStep → Type 0
FoundEnlisted found step = ((step.action ≡ CountRead found) ⊎ (step.action ≡ CountRaised found)) × (step.entry ≡ None)

-- the pass took one step, on the number of enlisted reporters, and found so many
pub record CountsReporters (found : ℕ) (v w : View) : Type 0 where
  pub step : TakenStep
  pub takes : Takes v (step ∷ []) w
  pub found_is : FoundEnlisted found step

-- told at a meeting what another pass has seen, the pass took one step: it loaded how many reporters are enlisted, and then knows it
pub record MeetingSteps (v w : View) : Type 0 where
  pub found : ℕ
  pub index : ℕ
  pub takes : Takes v (step_taken (CountRead found) index (length (history_of w.log)) None ∷ []) w
  pub listed : enlisted_by w.log ≡ found

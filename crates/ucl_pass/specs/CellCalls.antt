-- The steps of each call on a cell board, one after another; CellSteps says what each kind of step does. `before` is what contracts know of
-- the pass before the call, and `after` afterwards.
use Rattle.std.specs.Prelude.{◌≡◌, ◌≢◌, ◌<◌, ℕ, zero, suc, List, Result, IsOk, MatchResult}
use Rattle.ucl_word.specs.declared.event.EventCall.{EventCall}
use Rattle.ucl_word.specs.declared.event.Accepted.{Accepted}
use Rattle.ucl_word.specs.declared.refusal.Refusal.{Refusal}
use Rattle.ucl_board.specs.History.{sequential_reply}
use Rattle.ucl_log.specs.Log.{history_of, enlisted_by}
use Rattle.ucl_live_board.specs.declared.view.View.{View}
use Rattle.ucl_pass.specs.CellSteps.{LooksOnly, StoresEvent, StoresReporter}

-- A try that was lost: a load after which the call goes on, and an exchange that found other words than the load and stored nothing.
pub record LostTry (GoesOn : View → Type 0) (before after : View) : Type 0 where
  pub words : List ℕ
  pub looked : View
  pub loads : LooksOnly before words words looked
  pub goes_on : GoesOn looked
  pub found : List ℕ
  pub others : found ≢ words
  pub missed : LooksOnly looked found found after

-- So many tries were lost, one after another.
abbrev pub LostTries : (View → Type 0) → ℕ → View → View → Type 0
LostTries GoesOn zero before after = before ≡ after
LostTries GoesOn (suc tries) before after = (between : View) × LostTries GoesOn tries before between × LostTry GoesOn between after

-- Tries that were lost, and then a load, which found these words.
pub record LoadsAtLast (GoesOn : View → Type 0) (before : View) (words : List ℕ) (after : View) : Type 0 where
  pub lost : ℕ
  pub between : View
  pub tries : LostTries GoesOn lost before between
  pub loads : LooksOnly between words words after

-- The rules accept the event `call` after all events that the pass has seen.
abbrev pub Accepts : EventCall → View → Type 0
Accepts call pass = IsOk (sequential_reply (history_of pass.log) call)

-- The steps of a report. In each lost try the rules accepted the event after the load. The reply is that of the rules after the last load:
-- if they accept the event, the exchange that follows found the words of that load and entered the event; else no step follows.
pub record CellReportSteps (before : View) (call : EventCall) (reply : Result Accepted Refusal) (after : View) : Type 0 where
  pub words : List ℕ
  pub looked : View
  pub loads : LoadsAtLast (Accepts call) before words looked
  pub answer : sequential_reply (history_of looked.log) call ≡ reply
  pub ends : MatchResult reply (λ _. (left : List ℕ) × StoresEvent call looked words left after) (λ _. after ≡ looked)

-- The pass has seen fewer than 255 reporters enlisted.
abbrev pub HasNumberLeft : View → Type 0
HasNumberLeft pass = enlisted_by pass.log < 255

-- The steps of an enlistment. After each load but one that finds 255 reporters an exchange follows; the last found the words of its load,
-- and enlisted the pass.
pub record CellEnlistSteps (before after : View) : Type 0 where
  pub words : List ℕ
  pub looked : View
  pub loads : LoadsAtLast HasNumberLeft before words looked
  pub ends : (left : List ℕ) × StoresReporter looked words left after

-- What a call on a word board does, step by step: `old` is what contracts know of its pass before the call, and `new` afterwards.
use Rattle.std.specs.Prelude.{◌≡◌, ◌≢◌, ◌⊎◌, ℕ, ◌+◌, ◌<◌, ◌≤◌, List, [], ◌∷◌, ◌++◌, length, Option, Some, None, Result, slice_get}
use Rattle.ucl_word.specs.declared.event.EventCall.{EventCall}
use Rattle.ucl_word.specs.declared.event.Accepted.{Accepted}
use Rattle.ucl_word.specs.declared.refusal.Refusal.{Refusal}
use Rattle.ucl_board.specs.declared.entry.Entry.{Entry}
use Rattle.ucl_board.specs.declared.reading.Reading.{Reading}
use Rattle.ucl_log.specs.Log.{Access, TakenStep, history_of, number_of}
use Rattle.ucl_steps.specs.declared.step.Call.{Call}
use Rattle.ucl_steps.specs.declared.step.Call.TheVariants as calls
use Rattle.ucl_steps.specs.declared.trace.Reply.{Reply}
use Rattle.ucl_steps.specs.Protocol.{MayAsk, NoCall}
use Rattle.ucl_steps.specs.LocalState.{CompletedCall}
use Rattle.ucl_steps.specs.LocalState.{local_of}
use Rattle.ucl_steps.specs.Trails.{Follows, ReportAccesses, max_tries, ReadingAccesses}
use Rattle.ucl_live_board.specs.declared.view.View.{View}
use Rattle.ucl_live_board.specs.Passes.{IsSound}
use Rattle.ucl_live_board.specs.Views.{count_of, trail_of, Takes}
use Rattle.ucl_live_board.specs.CallSteps.{steps_with, entry_made, FoundEnlisted}
use Rattle.ucl_words.specs.WordViews.{pass_view_of}

-- The trail of this pass agrees with the history: along it the lengths of the history never fall, and each access found the word of
-- its match at its length.
abbrev pub HasTrail : View → Type 0
HasTrail pass = Follows (history_of pass.log) 0 (trail_of pass) (length (history_of pass.log))

-- What always holds of a pass between two calls: its history is legal and its entries are those under its own number (`sound`); no other
-- pass has told it anything since its own last step (`told`); and its trail agrees with the history (`trail`).
pub record IsConsistent (pass : View) : Type 0 where
  pub sound : IsSound (pass_view_of pass)
  pub told : pass.told ≡ []
  pub trail : HasTrail pass

-- Between `old` and `new` the pass took steps on match words alone: exactly these accesses, none at a length of the history below what it
-- had seen or above what it has seen since; the last of them added the entry, if there is one.
pub record LeavesAccesses (old : View) (accesses : List Access) (entry : Option Entry) (new : View) : Type 0 where
  pub takes : Takes old (steps_with entry accesses) new
  pub trail : trail_of new ≡ trail_of old ++ accesses
  pub taken : count_of new ≡ count_of old + length accesses
  pub follows : Follows (history_of new.log) (length (history_of old.log)) accesses (length (history_of new.log))
  pub whole_trail : HasTrail new

-- The steps of a report of `call`: a load, on whose word the rules refuse the event, or a load and a compare-and-exchange, won (accepted)
-- or lost.
pub record ReportSteps (old : View) (call : EventCall) (reply : Result Accepted Refusal) (new : View) : Type 0 where
  pub may : MayAsk (number_of old.own) (calls.Event call)
  pub accesses : List Access
  pub leaves : LeavesAccesses old accesses (entry_made (number_of old.own) call reply) new
  pub report : ReportAccesses call reply accesses (length (history_of new.log))

-- The steps of a reading. Each try loads all match words, then loads them again up to the first that has changed; only in the last try none
-- has. There are at most `max_tries` tries, and at most one more than events were accepted after the first load.
pub record ReadingSteps (old : View) (reading : Reading) (new : View) : Type 0 where
  pub accesses : List Access
  pub leaves : LeavesAccesses old accesses None new
  pub collects : ReadingAccesses reading accesses
  pub few : length collects.tries + 1 ≤ max_tries
  pub meanwhile : (first : Access) → slice_get accesses 0 ≡ Some first → length collects.tries + first.length ≤ length (history_of new.log)

-- These steps are the compare-and-exchanges of an enlistment, which gives a reader a number: the first expects `expected` reporters. One
-- that finds another number is followed by one that expects what it found. One that finds what it expected is the last, and gives the
-- number after it. None expects 255 or more: then no number is given.
abbrev pub Enlisting : ℕ → List TakenStep → Option ℕ → Type 0
Enlisting expected [] given = (255 ≤ expected) × (given ≡ None)
Enlisting expected (step ∷ steps) given = (found : ℕ) × FoundEnlisted found step × (expected < 255)
    × (((found ≡ expected) × (steps ≡ []) × (given ≡ Some (expected + 1))) ⊎ ((found ≢ expected) × Enlisting found steps given))

-- Between `old` and `new` the pass took exactly the steps of one enlistment, which gave it the number `given`: None if 255 were given.
pub record EnlistTries (old : View) (given : Option ℕ) (new : View) : Type 0 where
  pub steps : List TakenStep
  pub takes : Takes old steps new
  pub tries : Enlisting 0 steps given

-- Between `old` and `new` the pass took no step on a match word: its trail is as it was, and agrees with the history that it has seen.
pub record KeepsTrail (old new : View) : Type 0 where
  pub trail : trail_of new ≡ trail_of old
  pub whole_trail : HasTrail new

-- The report or reading `call` of the pass was answered with this reply: it is the last of its completed calls, and its last step is the
-- last of the log that the pass knows; no call is under way.
pub record IsAnswered (old : View) (call : Call) (reply : Reply) (new : View) : Type 0 where
  pub last : CompletedCall
  pub calls : (local_of new.own).calls ≡ (local_of old.own).calls ++ last ∷ []
  pub asked : (last.call ≡ call) × (last.reply ≡ reply) × (last.number ≡ (local_of old.own).number)
  pub ended : length new.log ≡ last.last_index + 1
  pub held : (local_of new.own).held ≡ NoCall

-- Between `old` and `new` the report or reading `call` was begun and answered: its first step came after all steps that the pass had known.
pub record CompletesCall (old : View) (call : Call) (reply : Reply) (new : View) : Type 0 where
  pub answers : IsAnswered old call reply new
  pub since : length old.log ≤ answers.last.first_index

-- Between `old` and `new` the pass completed no report and no reading, and began none.
pub record DoneAsBefore (old new : View) : Type 0 where
  pub calls : (local_of new.own).calls ≡ (local_of old.own).calls
  pub held : (local_of new.own).held ≡ (local_of old.own).held

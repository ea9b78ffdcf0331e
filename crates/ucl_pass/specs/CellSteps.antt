-- What each kind of step on a cell board says of the pass that takes it: `before` and `after` are the pass, `found` and `left` all thirteen
-- words, before and after it.
use Rattle.std.specs.Prelude.{◌≡◌, ◌≢◌, ◌⊎◌, ℕ, ◌+◌, true, false, List, [], ◌∷◌, Option, Some, None, slice_index, slice_set, Result}
use Rattle.std.specs.Prelude.{MatchResult, if◌then◌else◌, nat_eq}
use lib.Pointwise.{pointwise}
use Rattle.ucl_word.specs.declared.event.EventCall.{EventCall}
use Rattle.ucl_word.specs.Counts.{GainsOne}
use Rattle.ucl_board.specs.declared.entry.Entry.{Entry}
use Rattle.ucl_board.specs.History.{IsLegal, entry_of}
use Rattle.ucl_log.specs.Log.{Action, CountRaised, Whole, TakenStep, number_of, history_of, enlisted_by, IsLegalStep}
use Rattle.ucl_live_board.specs.declared.view.View.{View}
use Rattle.ucl_live_board.specs.Steps.{BoardStep}
use Rattle.ucl_live_board.specs.Views.{Takes}
use Rattle.ucl_pass.specs.CellInvariants.{words_after}

-- If `current` are the words after a legal history, the entry may follow it, and `next` are then the words; the number of reporters stays.
abbrev pub IsNextBoard : Entry → List ℕ → List ℕ → Type 0
IsNextBoard entry current next = (enlisted : ℕ) → GainsOne IsLegal (λ history. words_after history enlisted) entry current next

-- The thirteen words with one more enlisted reporter; the last word is how many there are.
abbrev pub with_one_more : List ℕ → List ℕ
with_one_more words = slice_set words 12 (slice_index words 12 + 1)

-- The pass took one step with this action (what was done and what was found), by which it added this entry or none. The words found are
-- those of the log before the step, and the words left those of the log that the pass then knows.
pub record CellStep (action : Action) (entry : Option Entry) (before : View) (found_words left_words : List ℕ) (after : View) : Type 0 where
  pub seat : ℕ
  pub steps : BoardStep words_after IsLegalStep seat action before after
  pub entry_is : steps.step.entry ≡ entry
  pub found : found_words ≡ words_after (history_of steps.before) (enlisted_by steps.before)
  pub left : left_words ≡ words_after (history_of after.log) (enlisted_by after.log)

-- A load that is no reading, or a compare-and-exchange that stored nothing.
abbrev pub LooksOnly : View → List ℕ → List ℕ → View → Type 0
LooksOnly before found left after = CellStep (Whole false) None before found left after

-- A load of all words that a call of `read` makes (`true`: it is a whole reading). Its version is how many events are accepted by then.
abbrev pub LooksAndShows : View → List ℕ → List ℕ → View → Type 0
LooksAndShows before found left after = CellStep (Whole true) None before found left after

-- The entry of the event `call` if this pass enters it, under its number.
abbrev pub entry_at : View → EventCall → Entry
entry_at pass call = entry_of (number_of pass.own) call

-- A compare-and-exchange that entered the event `call`.
abbrev pub StoresEvent : EventCall → View → List ℕ → List ℕ → View → Type 0
StoresEvent call before found left after = CellStep (Whole false) (Some (entry_at before call)) before found left after

-- A compare-and-exchange that enlisted its pass, under the number after the one that it found.
abbrev pub StoresReporter : View → List ℕ → List ℕ → View → Type 0
StoresReporter before found left after = CellStep (CountRaised (slice_index found 12)) None before found left after

-- A compare-and-exchange: lost, it leaves the words as they are and stores nothing; won, it changes them as `Stores` says.
abbrev pub MayStore : (View → List ℕ → List ℕ → View → Type 0) → View → List ℕ → List ℕ → View → Type 0
MayStore Stores before found left after = ((found ≡ left) × LooksOnly before found left after) ⊎ ((found ≢ left) × Stores before found left after)

-- The words that a compare-and-exchange of `current` for `next` leaves where it finds `found`.
abbrev pub exchanged : List ℕ → List ℕ → List ℕ → List ℕ
exchanged current next found = if pointwise nat_eq found current then next else found

-- What is known of a compare-and-exchange of this kind by its answer: it found the words `current` and left `next`, or found others and
-- left them.
abbrev pub Answers : (View → List ℕ → List ℕ → View → Type 0) → View → List ℕ → List ℕ → Result (List ℕ) (List ℕ) → View → Type 0
Answers kind before current next answer after = MatchResult answer
    (λ found. (pointwise nat_eq found current ≡ true) × kind before found next after)
    (λ found. (pointwise nat_eq found current ≡ false) × kind before found found after)

-- What a compare-and-exchange answers: `Ok` if it found the words `current` and stored `next`, `Err` if it found others and stored nothing.
abbrev pub Exchanges : (View → List ℕ → List ℕ → View → Type 0) → View → List ℕ → List ℕ → Result (List ℕ) (List ℕ) → View → Type 0
Exchanges Stores before current next answer after = MatchResult answer
    (λ found. (found ≡ current) × Stores before current next after)
    (λ found. (found ≢ current) × LooksOnly before found found after)

-- A step of this kind, whatever it finds and leaves, adds exactly one step to those of the pass that takes it, of which the log is made.
abbrev pub LogsOneStep : (View → List ℕ → List ℕ → View → Type 0) → Type 0
LogsOneStep kind = (before : View) (found left : List ℕ) (after : View) → kind before found left after
    → (taken : TakenStep) × Takes before (taken ∷ []) after

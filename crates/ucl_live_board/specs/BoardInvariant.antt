-- The invariant of every shared board: what holds of its words and passes between any two steps. `words_after` says what a board's words
-- are after a history and so many enlistments, and `May` which step may come next.
use Rattle.std.specs.Prelude.{◌≡◌, ◌⊎◌, ℕ, zero, suc, ◌<◌, ◌≤◌, Bool, true, false, List, [], ◌∷◌, ◌++◌, map, All, length, slice_set, Some}
use Rattle.std.specs.Prelude.{None, IsTrue}
use mathlib.Core.List.{IsPrefix}
use mathlib.Core.Option.{some}
use lib.ListN.{get_elem?}
use Rattle.ucl_word.specs.Counts.{EachMay}
use Rattle.ucl_board.specs.declared.entry.Entry.{Entry}
use Rattle.ucl_board.specs.History.{IsLegal}
use Rattle.ucl_log.specs.Log.{TakenStep, LoggedStep, logged_by, Log, taken_by, added_by, number_of, history_of, enlisted_by}
use Rattle.ucl_log.specs.Log.{IsConsistentLog, LogFacts}
use Rattle.ucl_live_board.specs.declared.view.View.{View}
use Rattle.ucl_live_board.specs.Shares.{whole, Overlap}
use Rattle.ucl_live_board.specs.Views.{first_pass}

-- the view of a seat's pass fits the log: what it knows, and what it was told at a meeting with another, are prefixes of the log; its own
-- steps are those that the log has of its seat, all of which it knows; and without a share it took none
pub record ViewInvariant (log : Log) (seat : ℕ) (view : View) : Type 0 where
  pub knows : IsPrefix view.log log
  pub told : All (λ (heard : Log). IsPrefix heard log) view.told
  pub own : (view.own ≡ taken_by seat view.log) × (view.own ≡ taken_by seat log)
  pub idle : view.share ≡ None → view.own ≡ []

-- the invariant of a board with these words and views: there is one log of all steps, and `May` allows each step after those before it; the
-- words are those that `words_after` gives of its history; all views fit the log (what each pass knows of it is a prefix, and its own steps
-- are those of its seat there); only seats in the list took steps; and no two passes have shares that overlap
pub record BoardInvariant (words_after : List Entry → ℕ → List ℕ) (May : Log → LoggedStep → Type 0) (words : List ℕ) (views : List View) : Type 0 where
  pub log : Log
  pub is_log : IsConsistentLog log
  pub follows : EachMay May log
  pub words_are : words ≡ words_after (history_of log) (enlisted_by log)
  pub seated : All (λ (logged : LoggedStep). logged.seat < length views) log
  pub fits : (seat : ℕ) (view : View) → get_elem? views seat ≡ some view → ViewInvariant log seat view
  pub shared : (i j : ℕ) (v w : View) → get_elem? views i ≡ some v → get_elem? views j ≡ some w → Overlap v.share w.share → i ≡ j

-- the log of a board that was just opened, with one pass that knows nothing, is empty, and its words are those of no event and no reporter
abbrev pub BoardsOpenFresh : (List Entry → ℕ → List ℕ) → (Log → LoggedStep → Type 0) → Type 0
BoardsOpenFresh words_after May =
    (words : List ℕ) (r : BoardInvariant words_after May words (first_pass ∷ [])) → (words ≡ words_after [] 0) × (r.log ≡ [])

-- if the invariant holds before and after a pass took steps, which led its view from v to w, these steps stand at the end of the log
abbrev pub StepsComeLast : (List Entry → ℕ → List ℕ) → (Log → LoggedStep → Type 0) → Type 0
StepsComeLast words_after May =
    (before after : List ℕ) (views : List View) (r : BoardInvariant words_after May before views)
    (seat : ℕ) (v w : View) (steps : List TakenStep) → get_elem? views seat ≡ some v
    → (s : BoardInvariant words_after May after (slice_set views seat w)) → w.own ≡ v.own ++ steps
    → s.log ≡ r.log ++ map (logged_by seat) steps

-- if the invariant holds, the pass that took the last step of the log knows the whole log
abbrev pub LastStepsSeeAll : (List Entry → ℕ → List ℕ) → (Log → LoggedStep → Type 0) → Type 0
LastStepsSeeAll words_after May =
    (words : List ℕ) (views : List View) (r : BoardInvariant words_after May words views)
    (before : Log) (seat : ℕ) (x : TakenStep) (v : View) → r.log ≡ before ++ logged_by seat x ∷ [] → get_elem? views seat ≡ some v
    → v.log ≡ r.log

-- if the invariant holds, the history is legal, and each reporter's pass has a number of its own and just the entries with it (LogFacts)
abbrev pub NumbersAreApart : (List Entry → ℕ → List ℕ) → (Log → LoggedStep → Type 0) → Type 0
NumbersAreApart words_after May =
    (words : List ℕ) (views : List View) (r : BoardInvariant words_after May words views) → IsLegal (history_of r.log) × LogFacts r.log

-- if the invariant holds, what each pass has seen is a prefix of the history
abbrev pub PassesSeePrefixes : (List Entry → ℕ → List ℕ) → (Log → LoggedStep → Type 0) → Type 0
PassesSeePrefixes words_after May =
    (words : List ℕ) (views : List View) (r : BoardInvariant words_after May words views) (seat : ℕ) (v : View)
    → get_elem? views seat ≡ some v
    → IsPrefix (history_of v.log) (history_of r.log)

-- the words are those after this history with `enlisted` reporters, at most 255; no pass with one of these views has a number above that,
-- or has seen more reporters enlisted; and no entry of the history has a reporter's number above it
pub record CountsAllReporters (words_after : List Entry → ℕ → List ℕ) (words : List ℕ) (views : List View) (history : List Entry) : Type 0 where
  pub enlisted : ℕ
  pub words_are : words ≡ words_after history enlisted
  pub few : enlisted ≤ 255
  pub numbers : (seat : ℕ) (v : View) → get_elem? views seat ≡ some v → number_of v.own ≤ enlisted
  pub listed : (seat : ℕ) (v : View) → get_elem? views seat ≡ some v → enlisted_by v.log ≤ enlisted
  pub reporters : All (λ (entry : Entry). entry.reporter ≤ enlisted) history

-- if the invariant holds, the words say how many reporters are enlisted, at most 255, and no pass and no entry has a number above that
abbrev pub WordsCountReporters : (List Entry → ℕ → List ℕ) → (Log → LoggedStep → Type 0) → Type 0
WordsCountReporters words_after May =
    (words : List ℕ) (views : List View) (r : BoardInvariant words_after May words views)
    → CountsAllReporters words_after words views (history_of r.log)

-- at a seat of the set `held` there is a pass whose share has this path: a share is written as the path to it, which half of the board,
-- which half of that, and so on
pub record IsHeld (views : List View) (held : ℕ → Bool) (path : List Bool) : Type 0 where
  pub seat : ℕ
  pub view : View
  pub held_is : IsTrue (held seat)
  pub there : get_elem? views seat ≡ some view
  pub share : view.share ≡ Some path

-- the shares of the seats in the set `held` together are the share with this path, cut in halves at most so many times over
abbrev pub Covers : List View → (ℕ → Bool) → ℕ → List Bool → Type 0
Covers views held zero path = IsHeld views held path
Covers views held (suc n) path = IsHeld views held path ⊎ (Covers views held n (path ++ false ∷ []) × Covers views held n (path ++ true ∷ []))

-- each step of the log is by a seat in the set `held`, and each reporter's number that was given is that of a pass at such a seat
pub record DidAll (log : Log) (views : List View) (held : ℕ → Bool) : Type 0 where
  pub steps : All (λ (x : LoggedStep). IsTrue (held x.seat)) log
  pub numbers : (n : ℕ) → 1 ≤ n → n ≤ enlisted_by log
      → (seat : ℕ) × (v : View) × IsTrue (held seat) × (get_elem? views seat ≡ some v) × (number_of v.own ≡ n)

-- if the shares at the seats in the set `held` are the whole board, their passes took all steps and have all numbers of reporters
abbrev pub HoldersDidAll : (List Entry → ℕ → List ℕ) → (Log → LoggedStep → Type 0) → Type 0
HoldersDidAll words_after May =
    (words : List ℕ) (views : List View) (r : BoardInvariant words_after May words views) (held : ℕ → Bool) (halvings : ℕ)
    → Covers views held halvings [] → DidAll r.log views held

-- the pass with this view entered all entries of the log, and no other pass was enlisted
pub record DidAllAlone (log : Log) (view : View) : Type 0 where
  pub mine : added_by view.own ≡ history_of log
  pub number : number_of view.own ≡ enlisted_by log
  pub one : enlisted_by log ≤ 1

-- if the share of a pass is the whole board, it entered all entries of the log, and no other pass was enlisted
abbrev pub WholeIsAlone : (List Entry → ℕ → List ℕ) → (Log → LoggedStep → Type 0) → Type 0
WholeIsAlone words_after May =
    (words : List ℕ) (views : List View) (r : BoardInvariant words_after May words views) (seat : ℕ) (v : View)
    → get_elem? views seat ≡ some v → v.share ≡ whole → DidAllAlone r.log v

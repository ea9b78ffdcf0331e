-- The log of boards that threads share: all atomic steps, oldest first, but for those that ignore what they find: split, and notes joined.
-- Both boards have one: the board of words, whose log is a run of the machine of `ucl_steps`, and the cell board, whose log is no such run.
-- An access is a load or a compare-and-exchange of one match word. A step is any atomic step of a pass, and its action is what it did.
-- There are two clocks: `index` is the place of a step in the log, `length` is how many entries the history has just before it.
use Rattle.std.specs.Prelude.{◌≡◌, ℕ, ◌+◌, ◌==◌, ◌<◌, ◌≤◌, Bool, List, [], ◌∷◌, All, map, filter, length, Option, Some, None}
use Rattle.std.specs.List.{flat_map, fold}
use Rattle.ucl_word.specs.declared.event.EventCall.{EventCall}
use Rattle.ucl_word.specs.Layout.{word_of}
use Rattle.ucl_word.specs.Counts.{EachMay}
use Rattle.ucl_board.specs.declared.entry.Entry.{Entry}
use Rattle.ucl_board.specs.Fixtures.{IsMatch}
use Rattle.ucl_board.specs.History.{MayFollow, match_after}

-- the kinds of accesses: Look, the load by which a report of `call` begins; Swap, the compare-and-exchange of a report; First and Second, a
-- load of the first and of the second collect of a reading
pub data AccessKind : Type 0 where
  Look : (call : EventCall) → AccessKind
  Swap : AccessKind
  First : AccessKind
  Second : AccessKind

-- an access: its kind, the match, the word that it found, its index in the log, and the length of the history before it
pub record Access : Type 0 where
  pub kind : AccessKind
  pub game : ℕ
  pub found : ℕ
  pub index : ℕ
  pub length : ℕ

-- the access of this kind to this match, with the word found, the index in the log and the length of the history before it
abbrev pub access : AccessKind → ℕ → ℕ → ℕ → ℕ → Access
access kind game found index length = record { kind = kind; game = game; found = found; index = index; length = length }

-- the action of a step, with what it found. Match: an access. CountRead: the number of enlisted reporters, which stays, by a load or a lost
-- compare-and-exchange. CountRaised: the same number, which the step raised by one. Whole: all words, on a board that has such steps;
-- `shown` if a reading returned them
pub data Action : Type 0 where
  Match : (kind : AccessKind) (game found : ℕ) → Action
  CountRead : (found : ℕ) → Action
  CountRaised : (found : ℕ) → Action
  Whole : (shown : Bool) → Action

-- a step that a pass took: its action, its index in the log, the length of the history just before it, and the entry that it added, if any
pub record TakenStep : Type 0 where
  pub action : Action
  pub index : ℕ
  pub length : ℕ
  pub entry : Option Entry

-- the step with this action, index in the log, length of the history before it, and entry that it added
abbrev pub step_taken : Action → ℕ → ℕ → Option Entry → TakenStep
step_taken action index length entry = record { action = action; index = index; length = length; entry = entry }

-- a step in the log, with the seat of the pass that took it
pub record LoggedStep : Type 0 where
  pub seat : ℕ
  pub step : TakenStep

-- this step as an item of the log, with the seat of the pass that took it
abbrev pub logged_by : ℕ → TakenStep → LoggedStep
logged_by seat step = record { seat = seat; step = step }

-- the log: the steps of all passes, oldest first
abbrev pub Log : Type 0
Log = List LoggedStep

-- the steps of a log that the pass with this seat took
abbrev pub taken_by : ℕ → Log → List TakenStep
taken_by seat log = map (λ logged. logged.step) (filter (λ logged. logged.seat == seat) log)

-- a list of the entry that a step added, empty if it added none
abbrev pub entry_list : Option Entry → List Entry
entry_list None = []
entry_list (Some entry) = entry ∷ []

-- the entries that these steps added, oldest first
abbrev pub added_by : List TakenStep → List Entry
added_by steps = flat_map (λ step. entry_list step.entry) steps

-- the history of a log: the entries that its steps added, oldest first
abbrev pub history_of : Log → List Entry
history_of log = flat_map (λ logged. entry_list logged.step.entry) log

-- a list of the number of the reporter that this action enlisted, empty if it enlisted none
abbrev pub enlists : Action → List ℕ
enlists (CountRaised found) = (found + 1) ∷ []
enlists _ = []

-- how many reporters the steps of a log enlisted
abbrev pub enlisted_by : Log → ℕ
enlisted_by log = length (flat_map (λ logged. enlists logged.step.action) log)

-- the reporter's number of a pass after this action: if it enlists, one more than it found, else `number`, as before
abbrev pub number_by : Action → ℕ → ℕ
number_by (CountRaised found) number = found + 1
number_by action number = number

-- the reporter's number of the pass that took these steps, 0 if it is a reader's pass
abbrev pub number_of : List TakenStep → ℕ
number_of steps = fold (λ (number : ℕ) (step : TakenStep). number_by step.action number) 0 steps

-- the access that this action is, as a list, with its index in the log and the history's length; empty if it is none
abbrev pub access_list : Action → ℕ → ℕ → List Access
access_list (Match kind game found) index length = access kind game found index length ∷ []
access_list _ index length = []

-- the accesses among these steps
abbrev pub accesses_in : List TakenStep → List Access
accesses_in steps = flat_map (λ step. access_list step.action step.index step.length) steps

-- this action, after this log, found what is current: the match's word, or how many are enlisted (fewer than 255 if it enlists one)
abbrev pub ReadsCurrent : Log → Action → Type 0
ReadsCurrent log (Match kind game found) = IsMatch game × (found ≡ word_of (match_after (history_of log) game))
ReadsCurrent log (CountRead found) = found ≡ enlisted_by log
ReadsCurrent log (CountRaised found) = (found ≡ enlisted_by log) × (found < 255)
ReadsCurrent log (Whole shown) = Unit {0}

-- a step that may come next in a log: it has the right index and length of the history, and found what the steps before it left
pub record MayBeTaken (log : Log) (logged : LoggedStep) : Type 0 where
  pub index : logged.step.index ≡ length log
  pub there : ReadsCurrent log logged.step.action
  pub length : logged.step.length ≡ length (history_of log)

-- a consistent log: each step may come next after the steps before it
abbrev pub IsConsistentLog : Log → Type 0
IsConsistentLog log = EachMay MayBeTaken log

-- the entry that a step adds, if any, may come next in the history, and has `number`, the reporter's number of the pass that took the step
abbrev pub MayAdd : List Entry → ℕ → Option Entry → Type 0
MayAdd history number None = Unit {0}
MayAdd history number (Some entry) = MayFollow history entry × (entry.reporter ≡ number)

-- if this action enlists, its pass had no reporter's number yet (`number` is 0), and the step added no entry
abbrev pub MayEnlist : ℕ → Action → Option Entry → Type 0
MayEnlist number (CountRaised found) entry = (number ≡ 0) × (entry ≡ None)
MayEnlist number action entry = Unit {0}

-- a step that keeps the history of a log legal, adds only an entry with the number of its own pass, and enlists only a pass with no number
pub record IsLegalStep (log : Log) (logged : LoggedStep) : Type 0 where
  pub adds : MayAdd (history_of log) (number_of (taken_by logged.seat log)) logged.step.entry
  pub enlists : MayEnlist (number_of (taken_by logged.seat log)) logged.step.action logged.step.entry

-- a log in which each step is legal after the steps before it: it keeps the history legal and adds only entries of its own pass
abbrev pub HasLegalSteps : Log → Type 0
HasLegalSteps log = EachMay IsLegalStep log

-- `May`, a rule on which steps may follow a log, is legal: if it allows each step of a consistent log, then each of these steps is legal:
-- it keeps the history legal, adds only an entry with the number of its own pass, and enlists only a pass that has no number
abbrev pub IsLegalRule : (Log → LoggedStep → Type 0) → Type 0
IsLegalRule May = (log : Log) → IsConsistentLog log → EachMay May log → HasLegalSteps log

-- in a log at most 255 reporters are enlisted (few); their numbers are from 1 to how many they are (low), no two seats have one number
-- (apart), and some seat has each (given); each entry has one of these numbers (ranked); and the entries that a seat's steps added are all
-- those with its number (mine)
pub record LogFacts (log : Log) : Type 0 where
  pub few : enlisted_by log ≤ 255
  pub low : (seat : ℕ) → number_of (taken_by seat log) ≤ enlisted_by log
  pub apart : (seat other : ℕ) → 0 < number_of (taken_by seat log) → number_of (taken_by seat log) ≡ number_of (taken_by other log)
      → seat ≡ other
  pub given : (number : ℕ) → 1 ≤ number → number ≤ enlisted_by log → (seat : ℕ) × (number_of (taken_by seat log) ≡ number)
  pub ranked : All (λ (entry : Entry). (0 < entry.reporter) × (entry.reporter ≤ enlisted_by log)) (history_of log)
  pub mine : (seat : ℕ) → added_by (taken_by seat log) ≡ filter (λ entry. entry.reporter == number_of (taken_by seat log)) (history_of log)

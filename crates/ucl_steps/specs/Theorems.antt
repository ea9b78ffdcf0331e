-- Theorems of every run of the machine, and of the accesses of a call: its loads and compare-and-exchanges of match words.
-- `low` and `high` are lengths of the history before a call and after it.
use Rattle.std.specs.Prelude.{◌≡◌, ℕ, ◌+◌, ◌*◌, ◌<◌, ◌≤◌, List, length, take, Some, Result, slice_get}
use Rattle.std.specs.List.{AllByRecursion}
use Rattle.ucl_word.specs.declared.event.EventCall.{EventCall}
use Rattle.ucl_word.specs.declared.event.Accepted.{Accepted}
use Rattle.ucl_word.specs.declared.refusal.Refusal.{Refusal}
use Rattle.ucl_board.specs.declared.entry.Entry.{Entry}
use Rattle.ucl_board.specs.declared.reading.Reading.{Reading}
use Rattle.ucl_board.specs.History.{board_of, IsLegal, sequential_reply, snapshot_at}
use Rattle.ucl_steps.specs.declared.step.Cast.{Cast}
use Rattle.ucl_steps.specs.declared.step.Step.{Step}
use Rattle.ucl_steps.specs.Machine.{MachineState, initial_state, after_steps}
use Rattle.ucl_steps.specs.RunHistory.{IsLinearizableRun, run_events}
use Rattle.ucl_steps.specs.Seen.{ReadsWhole}
use Rattle.ucl_log.specs.Log.{Access}
use Rattle.ucl_steps.specs.Trails.{Follows, ReportAccesses, decided_at, max_tries, max_loads, IsUnclean, accesses_of, ReadingAccesses}

-- the calls of every list of enabled steps of any reporters and readers, cut off anywhere, are linearizable, in the order of their points.
-- A call that is pending at the end is given its response if it has its reply by then
abbrev pub RunsAreLinearizable : Type 0
RunsAreLinearizable = (cast : Cast) (steps : List Step) (state : MachineState) → after_steps steps (initial_state cast) ≡ Some state
    → IsLinearizableRun cast steps state.history state.calls

-- so no reading of a run is stale or torn
abbrev pub RunsReadWhole : Type 0
RunsReadWhole = (cast : Cast) (steps : List Step) (state : MachineState) → after_steps steps (initial_state cast) ≡ Some state
    → ReadsWhole (run_events cast steps)

-- after every list of enabled steps the match words are those of the board of the history
abbrev pub WordsAreOfTheHistory : Type 0
WordsAreOfTheHistory = (cast : Cast) (steps : List Step) (state : MachineState) → after_steps steps (initial_state cast) ≡ Some state
    → state.words ≡ board_of state.history

-- the last access of an unclean try, which found another word, comes when the history is longer than at the first load of that match
abbrev pub UncleanTriesSeeMore : Type 0
UncleanTriesSeeMore = (history : List Entry) (low high : ℕ) (ms : List Access) → Follows history low ms high
    → (try : IsUnclean ms) (first : Access) → slice_get try.firsts (length try.broken.equal) ≡ Some first
    → first.length < try.broken.last.length

-- if accesses are made while a history grows from `low` to `high` entries, no more tries of readings find a word changed than entries came
abbrev pub UncleanTriesAreFew : Type 0
UncleanTriesAreFew = (history : List Entry) (low high : ℕ) (tries : List (List Access)) → Follows history low (accesses_of tries) high
    → AllByRecursion IsUnclean tries → low + length tries ≤ high

-- a reading with these accesses is the board after the first entries of the history, as many as its version says, which is from `low` to
-- `high`; it had no more unclean tries than entries came meanwhile, at least 24 loads, at most 24 for each try, and no more than max_loads
pub record IsReadFrom (history : List Entry) (low high : ℕ) (reading : Reading) (ms : List Access) (accesses : ReadingAccesses reading ms) : Type 0 where
  pub snapshot : reading ≡ snapshot_at history reading.version
  pub within : (low ≤ reading.version) × (reading.version ≤ high)
  pub tries : low + length accesses.tries ≤ high
  pub steps : (24 ≤ length ms) × (length ms ≤ 24 * (length accesses.tries + 1))
  pub bound : (length accesses.tries < max_tries) × (length ms ≤ max_loads)

-- if the accesses of a reading follow a legal history, the reading is the board after a prefix of it, as long as its version says; it has
-- no more unclean tries than entries came meanwhile, and at most 24 loads for each try
abbrev pub ReadingsAreSnapshots : Type 0
ReadingsAreSnapshots = (history : List Entry) (low high : ℕ) (reading : Reading) (ms : List Access) → IsLegal history
    → high ≤ length history → Follows history low ms high → (accesses : ReadingAccesses reading ms)
    → IsReadFrom history low high reading ms accesses

-- if the accesses of a report follow a legal history, its reply is that of the board of one thread after the entries before its last access
abbrev pub ReportsAreSequential : Type 0
ReportsAreSequential = (history : List Entry) (low high now : ℕ) (call : EventCall) (reply : Result Accepted Refusal) (ms : List Access)
    → IsLegal history → Follows history low ms high → ReportAccesses call reply ms now
    → sequential_reply (take (decided_at reply now) history) call ≡ reply

-- One history for all callers, and the screens of what readers read: of every run of the protocol's machine, and of every word board.
-- A call's linearization point is the length of the history when it takes effect.
use Rattle.std.specs.Prelude.{◌≡◌, ℕ, ◌<◌, ◌≤◌, ◌∷◌, ◌++◌, true, List, All, length, take, flat_map, Some}
use mathlib.Core.List.{IsPrefix}
use mathlib.Core.Option.{some}
use lib.ListN.{get_elem?}
use Rattle.atomic_table.specs.Table.{State}
use Rattle.ucl_board.specs.declared.entry.Entry.{Entry}
use Rattle.ucl_board.specs.History.{IsLegal, board_of, snapshot_at}
use Rattle.ucl_order.specs.declared.profile.Profile.{Profile}
use Rattle.ucl_order.specs.Roster.{NamedClub}
use Rattle.ucl_order.specs.Rows.{rows_of}
use Rattle.ucl_screen.specs.Lines.{header}
use Rattle.ucl_screen.specs.Screen.{columns, in_play, row_line, screen_text}
use Rattle.ucl_steps.specs.declared.step.Cast.{Cast}
use Rattle.ucl_steps.specs.declared.step.Step.{Step}
use Rattle.ucl_steps.specs.Machine.{MachineState, initial_state, after_steps}
use Rattle.ucl_steps.specs.RunHistory.{IsLinearizableRun}
use Rattle.ucl_log.specs.Log.{LoggedStep, Log, IsConsistentLog, taken_by, history_of, enlisted_by}
use Rattle.ucl_steps.specs.LocalState.{CompletedCall, FollowsProtocol, IsCompletedCall, local_at}
use Rattle.ucl_steps.specs.BoardObject.{HasLinearizableCalls}
use Rattle.ucl_steps.specs.Seen.{HasSeen, accepts}
use Rattle.ucl_live_board.specs.declared.view.View.{View}
use Rattle.ucl_words.specs.LaterState.{LaterState}

-- The screen of the board after the first `version` entries of a history: the version, and the clubs of the roster in the order of the
-- profile, each with its numbers and its mark (whether one of the first two places is certain, out of reach or open).
abbrev pub screen_at : Profile → List Entry → ℕ → List NamedClub → ℕ → List ℕ
screen_at profile history version roster group =
    let board = board_of (take version history) in
    header group version (in_play board) ++ columns ++ flat_map (row_line roster) (rows_of profile board roster)

-- The screen of a snapshot of a legal history, under each profile, roster and group, is that of the history at its point.
abbrev pub ScreensShowTheHistory : Type 0
ScreensShowTheHistory =
    (history : List Entry) (point : ℕ) → IsLegal history → point ≤ length history
    → (profile : Profile) (roster : List NamedClub) (group : ℕ)
    → screen_text profile (snapshot_at history point).board roster group ≡ screen_at profile history point roster group

-- Every run of the machine has one history, for any numbers of reporters and readers (`cast`), with calls left unfinished anywhere: its
-- calls are linearizable. A Begin invokes a call, and its End is the response; of calls without an End, each that has its reply counts
-- too. Each takes effect at the linearization point that is recorded of it.
abbrev pub EveryRunHasOneHistory : Type 0
EveryRunHasOneHistory = (cast : Cast) (steps : List Step) (state : MachineState) → after_steps steps (initial_state cast) ≡ Some state
    → IsLinearizableRun cast steps state.history state.calls

-- The pass at a seat knows a prefix of the log, and its own steps are just those of its seat in the log.
pub record IsOfLog (log : Log) (seat : ℕ) (pass : View) : Type 0 where
  pub knows : IsPrefix pass.log log
  pub own : pass.own ≡ taken_by seat log

-- A word board, between two steps of any threads, has one history. There is one consistent log of all steps, which follows the protocol and
-- gives all words: the number of enlisted reporters and the board of its history. Each pass knows a prefix of the log, which has its own
-- steps; no step is of a seat without a pass, and no two reporters have one number (a reader has 0). The calls of the log are linearizable:
-- run one after the other on the board of one thread, in some order that keeps that of their steps in the log, they give the replies that
-- they got.
pub record IsOneHistory (state : State Entry View) : Type 0 where
  pub log : Log
  pub is_log : IsConsistentLog log
  pub follows : FollowsProtocol log
  pub words : state.words ≡ enlisted_by log ∷ board_of (history_of log)
  pub each : (seat : ℕ) (pass : View)
      → get_elem? state.views seat ≡ some pass → IsOfLog log seat pass
  pub only : All (λ (x : LoggedStep). x.seat < length state.views) log
  pub apart : (i j : ℕ)
      → 0 < (local_at i log).number → (local_at i log).number ≡ (local_at j log).number → i ≡ j
  pub linearizable : HasLinearizableCalls log

-- Each state that satisfies `rule`, the invariant of the board, has one history.
abbrev pub BoardsHaveOneHistory : (State Entry View → Type 0) → Type 0
BoardsHaveOneHistory rule = (state : State Entry View) → rule state → IsOneHistory state

-- The call of the pass at a seat began in this state or later. If the pass was there, the call's first step came after all that the pass
-- knew then. A pass that was not there, since it was split off later, began all its calls later.
abbrev pub BeganSince : State Entry View → ℕ → CompletedCall → Type 0
BeganSince state seat c = (pass : View) → get_elem? state.views seat ≡ some pass → length pass.log ≤ c.first_index

-- Call a precedes call b: a was completed in a state, with this log, and b began in that state or later, and was completed in a later one.
-- The passes, and the numbers of the calls among theirs, may be any.
pub record Precedes (state : State Entry View) (log later : Log) (a b : CompletedCall) : Type 0 where
  pub of_a : ℕ × ℕ
  pub of_b : ℕ × ℕ
  pub completed : IsCompletedCall log of_a.0 of_a.1 a
  pub completes : IsCompletedCall later of_b.0 of_b.1 b
  pub began : BeganSince state of_b.0 b

-- The log of a state is a prefix of the log of a later one, and each completed call is the same call there. If call a precedes call
-- b, the last step of a comes before the first step of b in the log, and b has seen a: no reading is stale. And none is torn: if b was
-- accepted, each call of the later log that has seen b has seen a.
pub record LogGoesOn (state : State Entry View) (log later : Log) : Type 0 where
  pub begins : IsPrefix log later
  pub calls : (seat k : ℕ) (c : CompletedCall) → IsCompletedCall log seat k c → IsCompletedCall later seat k c
  pub real_time : (a b : CompletedCall) → Precedes state log later a b → a.last_index < b.first_index
  pub fresh : (a b : CompletedCall) → Precedes state log later a b → HasSeen a.call a.reply b.reply
  pub whole : (a b c : CompletedCall) (seat k : ℕ) → Precedes state log later a b → accepts b.reply ≡ true → IsCompletedCall later seat k c
      → HasSeen b.call b.reply c.reply → HasSeen a.call a.reply c.reply

-- The history of a board that satisfies `rule`, its invariant, only grows, whichever steps of whichever passes come between two states: no
-- entry and no completed call ever moves, and a call that precedes another is before it in the log.
pub record HistoriesGoOn (rule : State Entry View → Type 0) : Type 0 where
  pub boards : BoardsHaveOneHistory rule
  pub later : (s t : State Entry View) (r : rule s) (q : rule t) → LaterState s t → LogGoesOn s (boards s r).log (boards t q).log

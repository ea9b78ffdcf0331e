-- One history of each run of the machine and of each running board, and the screens of its snapshots.
use Rattle.std.proofs.Common.{[], arith, ◌∙◌, inl, inr, length, refl, sym, take, ℕ, ◌<◌, ◌≤◌}
use Rattle.std.proofs.lemmas.Bool.{cases_lt}
use Rattle.std.proofs.lemmas.List.{length-take-le}
use Rattle.std.proofs.lemmas.List.Elements.{All-weaker}
use Rattle.ucl_board.proofs.HistoryTheorems.{legal_take, versions}
use Rattle.ucl_theorems.specs.Headline.{ScreensShowTheHistory, BeganSince, BoardsHaveOneHistory, HistoriesGoOn, LogGoesOn, Precedes}
use Rattle.ucl_screen.specs.Screen.{screen_text}
use mathlib.Core.List.{IsPrefix}
use Rattle.atomic_table.specs.Table.{State}
use Rattle.ucl_board.specs.declared.entry.Entry.{Entry}
use Rattle.ucl_log.proofs.Logs.{taken_none}
use Rattle.ucl_log.specs.Log.{LoggedStep}
use Rattle.ucl_steps.specs.LocalState.{CompletedCall, IsCompletedCall}
use Rattle.ucl_steps.specs.Seen.{CallsReadWhole}
use Rattle.ucl_steps.proofs.BoardObject.{calls_linearizable}
use Rattle.ucl_steps.proofs.Freshness.{calls_whole}
use Rattle.ucl_steps.proofs.LocalStates.{numbers_apart}
use Rattle.ucl_steps.proofs.LogFacts.{logs_facts}
use Rattle.ucl_steps.proofs.LaterLogs.{begins_after, calls_stay}
use Rattle.ucl_steps.proofs.LogHistory.{logs_have_points}
use Rattle.ucl_live_board.specs.declared.view.View.{View}
use Rattle.ucl_live_board.proofs.Alone.{view_at}
use Rattle.ucl_words.specs.TableInvariants.{TableInvariant}
use Rattle.ucl_words.specs.LaterState.{LaterState}
use Rattle.ucl_words.proofs.Boards.{later_go_on}

-- the screen of a snapshot of a legal history, under each profile, roster and group, is that of the history at its point
pub screens_show : ScreensShowTheHistory
unfolding screen_text
screens_show history point legal within profile roster group = rw ((versions (take point history) (legal_take history point legal)).0 ∙ length-take-le point history within)

-- each state that satisfies the invariant of the word board has one history, in which its completed calls are linearizable
pub boards_have : BoardsHaveOneHistory TableInvariant
boards_have s r = record {
  log = r.log;
  is_log = r.is_log;
  follows = r.follows;
  words = r.words_are;
  each = λ seat v at. let f = r.fits seat v at in record { knows = f.knows; own = f.own.1 };
  only = r.seated;
  apart = numbers_apart r.log (logs_facts r.log r.is_log r.follows);
  linearizable = calls_linearizable r.log r.is_log r.follows;
}

-- if state t is later than state s, the log of s is a prefix of that of t, its completed calls are the same there, and the order of calls is
-- that of real time
logs_go_on : (s t : State Entry View) (r : TableInvariant s) (q : TableInvariant t) → LaterState s t → LogGoesOn s r.log q.log
logs_go_on s t r q later = record {
  begins = more;
  calls = λ seat k c at. calls_stay r.log q.log seat k c more at;
  real_time = turn;
  fresh = λ a b over. reads.fresh over.of_a.0 over.of_b.0 over.of_a.1 over.of_b.1 a b (stays a b over) over.completes (turn a b over);
  whole = λ a b c seat k over made at. reads.whole over.of_a.0 over.of_b.0 seat over.of_a.1 over.of_b.1 k a b c (stays a b over) over.completes at (turn a b over) made;
}
  where
    more : IsPrefix r.log q.log
    more = later_go_on s t r q later

    reads : CallsReadWhole q.log
    reads = calls_whole q.log (calls_linearizable q.log q.is_log q.follows)

    stays : (a b : CompletedCall) (over : Precedes s r.log q.log a b) → IsCompletedCall q.log over.of_a.0 over.of_a.1 a
    stays a b over = calls_stay r.log q.log over.of_a.0 over.of_a.1 a more over.completed

    -- a call that began in the state or later comes after its log
    after : (seat k : ℕ) (b : CompletedCall) → IsCompletedCall q.log seat k b → BeganSince s seat b → length r.log ≤ b.first_index
    after seat k b at since = elim (cases_lt seat (length s.views)) [
      | inl there ↦
          let v = view_at s.views seat there in
          let f = r.fits seat v.0 v.1 in
          begins_after v.0.log r.log q.log seat k b q.is_log q.follows more f.knows (sym f.own.0 ∙ f.own.1) at (since v.0 v.1)
      | inr not ↦
          let none = taken_none seat r.log (All-weaker (λ (x : LoggedStep). x.seat < length s.views) (λ (x : LoggedStep). x.seat < seat) (λ x low. omega arith) r.log r.seated) in
          begins_after [] r.log q.log seat k b q.is_log q.follows more (r.log, refl) (sym none) at (omega arith)
    ]

    -- the last step of a call that was over before another began comes before the first step of that other
    turn : (a b : CompletedCall) (over : Precedes s r.log q.log a b) → a.last_index < b.first_index
    turn a b over =
        let ended = ((logs_have_points r.log r.is_log r.follows).timely over.of_a.0 over.of_a.1 a over.completed).0 in
        let began = after over.of_b.0 over.of_b.1 b over.completes over.began in
        omega arith

-- if state t is later than state s, the log that `boards_have` gives of s is a prefix of that of t, its completed calls are the same there,
-- and the order of calls is that of real time
later_logs : (s t : State Entry View) (r : TableInvariant s) (q : TableInvariant t) → LaterState s t → LogGoesOn s (boards_have s r).log (boards_have t q).log
unfolding boards_have
later_logs s t r q later = logs_go_on s t r q later

-- the history of a word board only grows: from a state to a later one no entry and no completed call moves, and the order of calls is that
-- of real time
pub histories_go : HistoriesGoOn TableInvariant
histories_go = record { boards = boards_have; later = later_logs }

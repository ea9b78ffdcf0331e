-- Logs made longer by one pass: by a step, by a collect of a reading, by all of a report. So each call can go on and end, if its pass is alone.
use Rattle.ucl_steps.proofs.Common.{◌≡◌, ◌≢◌, inl, inr, ◌⊎◌, ℕ, zero, suc, ◌+◌, ◌<◌, ◌≤◌, ◌==◌, true, false, cond, List, [], ◌∷◌, ◌++◌, length, take}
use Rattle.ucl_steps.proofs.Common.{Bool, Some, None, slice_index, refl, sym, ap, ◌∙◌, subst, arith, append-nil, eq-eqb, ne_eqb}
use Rattle.ucl_steps.proofs.Common.{board_length, board_of, length-take-le, slice_get-get_or, take_all, may_next, IsPrefix, CompletedCall, Entry, EventCall}
use Rattle.ucl_steps.proofs.Common.{IsMatch, IsReporter, match_after, word_of, record_at, after, entry_of, reading_of, refusal_of, Call, Event, Reading, Reply}
use Rattle.ucl_steps.proofs.Common.{Accepted, Copied, Refused, Stale, MatchRecord, Pending, NoCall, Holding, Collecting, Checking, Outcome, GoesOn, Answers, by_rules}
use Rattle.ucl_steps.proofs.Histories.{board_get, read_back, take_one}
use Rattle.ucl_word.specs.declared.event.Accepted as event
use Rattle.ucl_log.specs.Log.{AccessKind, Look, Swap, First, Second, IsConsistentLog, Log, LoggedStep, Match, MayBeTaken, Action, entry_list, history_of, logged_by, step_taken}
use Rattle.ucl_log.proofs.Logs.{history_more, history_same}
use Rattle.ucl_board.proofs.HistoryTheorems.{begins_through}
use Rattle.ucl_steps.proofs.LocalStates.{local_other, local_own}
use Rattle.ucl_steps.proofs.LogFacts.{logs_legal}
use Rattle.ucl_steps.specs.Protocol.{collected}
use Rattle.ucl_steps.specs.LocalState.{LocalState, FollowsProtocol, IsNextFor, IsNextOfProtocol, call_answered, call_asked, local_at, entry_by, next_match}
use Rattle.ucl_steps.specs.LocalState.{outcome, with_outcome}

-- a log of steps that found what was there, and that follows the protocol
pub record IsOfProtocol (log : Log) : Type 0 where
  pub is_log : IsConsistentLog log
  pub follows : FollowsProtocol log

-- steps of the pass of this seat alone can follow a log, by which its call goes on: no entry comes, and it holds this then
pub record GoesOnTo (log : Log) (seat : ℕ) (held : Pending) : Type 0 where
  pub later : Log
  pub is : IsOfProtocol later
  pub begins : IsPrefix log later
  pub others : (other : ℕ) → seat ≢ other → local_at other later ≡ local_at other log
  pub number : (local_at seat later).number ≡ (local_at seat log).number
  pub calls : (local_at seat later).calls ≡ (local_at seat log).calls
  pub history : history_of later ≡ history_of log
  pub holds : (local_at seat later).held ≡ held

-- steps of the pass of this seat alone can follow a log, by which a call of it ends: what it asked, the reply, the history then
pub record EndsWith (log : Log) (seat : ℕ) (asked : Call) (reply : Reply) (history : List Entry) : Type 0 where
  pub later : Log
  pub is : IsOfProtocol later
  pub begins : IsPrefix log later
  pub others : (other : ℕ) → seat ≢ other → local_at other later ≡ local_at other log
  pub number : (local_at seat later).number ≡ (local_at seat log).number
  pub call : CompletedCall
  pub calls : (local_at seat later).calls ≡ (local_at seat log).calls ++ call ∷ []
  pub asks : call.call ≡ asked
  pub gets : call.reply ≡ reply
  pub history_is : history_of later ≡ history
  pub holds : (local_at seat later).held ≡ NoCall

-- a call goes on, and then goes on again, or ends
pub then_on : (log : Log) (seat : ℕ) (h k : Pending) → (a : GoesOnTo log seat h) → GoesOnTo a.later seat k → GoesOnTo log seat k
then_on log seat h k a b = record {
  later = b.later;
  is = b.is;
  begins = begins_through log a.later b.later a.begins b.begins;
  others = λ other not. b.others other not ∙ a.others other not;
  number = b.number ∙ a.number;
  calls = b.calls ∙ a.calls;
  history = b.history ∙ a.history;
  holds = b.holds;
}

pub then_end : (log : Log) (seat : ℕ) (h : Pending) (asked : Call) (reply : Reply) (history : List Entry) → (a : GoesOnTo log seat h)
    → EndsWith a.later seat asked reply history → EndsWith log seat asked reply history
then_end log seat h asked reply history a b = record {
  later = b.later;
  is = b.is;
  begins = begins_through log a.later b.later a.begins b.begins;
  others = λ other not. b.others other not ∙ a.others other not;
  number = b.number ∙ a.number;
  call = b.call;
  calls = b.calls ∙ ap (λ (l : List CompletedCall). l ++ b.call ∷ []) a.calls;
  asks = b.asks;
  gets = b.gets;
  history_is = b.history_is;
  holds = b.holds;
}

-- the next step of the pass of a seat, on this match, if the pass holds h
module _ (log : Log) (is : IsOfProtocol log) (seat : ℕ) (h : Pending) (holds : (local_at seat log).held ≡ h) (kind : AccessKind) (game : ℕ) (low : IsMatch game) where
  abbrev local : LocalState
  local = local_at seat log

  abbrev now : ℕ
  now = length (history_of log)

  abbrev action : Action
  action = Match kind game (word_of (match_after (history_of log) game))

  abbrev step : LoggedStep
  step = logged_by seat (step_taken action (length log) now (entry_by local.number h action))

  module _ (next : IsNextFor local action) where
    is_longer : IsOfProtocol (log ++ step ∷ [])
    is_longer = record {
      is_log = may_next MayBeTaken log step is.is_log (record { index = refl; length = refl; there = (low, refl) });
      follows = may_next IsNextOfProtocol log step is.follows (record { next = next; entry = ap (λ (z : Pending). entry_by local.number z action) (sym holds) });
    }

    own : local_at seat (log ++ step ∷ []) ≡ with_outcome (outcome local.number h action now) step.step local
    own = local_own log step ∙ ap (λ (z : Pending). with_outcome (outcome local.number z action now) step.step local) holds

    pub goes_on : (k : Pending) → outcome local.number h action now ≡ GoesOn k → entry_by local.number h action ≡ None → GoesOnTo log seat k
    goes_on k on none =
        let all = own ∙ ap (λ (o : Outcome). with_outcome o step.step local) on in
        record {
          later = log ++ step ∷ [];
          is = is_longer;
          begins = (step ∷ [], refl);
          others = local_other log step;
          number = ap (λ (d : LocalState). d.number) all;
          calls = ap (λ (d : LocalState). d.calls) all;
          history = history_same log step none;
          holds = ap (λ (d : LocalState). d.held) all;
        }

    pub ends : (reply : Reply) → outcome local.number h action now ≡ Answers reply
        → EndsWith log seat (call_asked h action) reply (history_of log ++ entry_list (entry_by local.number h action))
    ends reply on =
        let all = own ∙ ap (λ (o : Outcome). with_outcome o step.step local) on in
        record {
          later = log ++ step ∷ [];
          is = is_longer;
          begins = (step ∷ [], refl);
          others = local_other log step;
          number = ap (λ (d : LocalState). d.number) all;
          call = call_answered reply step.step local;
          calls = ap (λ (d : LocalState). d.calls) all;
          asks = ap (λ (z : Pending). call_asked z action) holds;
          gets = refl;
          history_is = history_more log step;
          holds = ap (λ (d : LocalState). d.held) all;
        }

-- a pass may load match 1 for a first collect: it has no call, or its reading begins anew
abbrev pub Begins : Pending → Type 0
Begins h = (h ≡ NoCall) ⊎ (h ≡ Collecting [])

-- the words of matches 1 to n + 1, if n is below 12, are those of matches 1 to n and the next one
words_more : (history : List Entry) (n : ℕ) → n < 12 → take n (board_of history) ++ word_of (match_after history (n + 1)) ∷ [] ≡ take (suc n) (board_of history)
words_more history n low =
    let long = board_length history in
    sym (take_one (board_of history) n (word_of (match_after history (n + 1)))
    (slice_get-get_or (board_of history) n 0 (omega arith) ∙ ap (λ (w : ℕ). Some w) (board_get history n low)))

-- fewer than twelve words are no whole collect
collects_on : (words : List ℕ) (now : ℕ) → length words < 12 → collected words now ≡ Collecting words
collects_on words now few = ap (λ (b : Bool). cond b (Checking words 0 now) (Collecting words)) (ne_eqb (length words) 12 (λ e. omega arith))

-- a reading that is alone loads matches 1 to n + 1
collects : (log : Log) (is : IsOfProtocol log) (seat : ℕ) → Begins (local_at seat log).held → (n : ℕ) → n < 12
    → GoesOnTo log seat (collected (take (suc n) (board_of (history_of log))) (length (history_of log)))
collects log is seat begins zero low =
    let history = history_of log in
    let game : IsMatch 1 = (omega arith, omega arith) in
    subst (λ (words : List ℕ). GoesOnTo log seat (collected words (length history))) (words_more history 0 low) (elim begins [
      | inl none ↦ goes_on log is seat NoCall none First 1 game (sym (ap (next_match First) none)) (collected ([] ++ word_of (match_after history 1) ∷ []) (length history)) refl refl
      | inr anew ↦ goes_on log is seat (Collecting []) anew First 1 game (sym (ap (next_match First) anew))
          (collected ([] ++ word_of (match_after history 1) ∷ []) (length history)) refl refl
    ])
collects log is seat begins (suc n) low =
    let history = history_of log in
    let words = take (suc n) (board_of history) in
    let c = collects log is seat begins n (omega arith) in
    let long = board_length history in
    let count : length words ≡ suc n = length-take-le (suc n) (board_of history) (omega arith) in
    let holds : (local_at seat c.later).held ≡ Collecting words = c.holds ∙ collects_on words (length history) (omega arith) in
    let one = goes_on c.later c.is seat (Collecting words) holds First (suc n + 1) (omega arith, omega arith)
    (ap (λ (k : ℕ). k + 1) (sym count) ∙ sym (ap (next_match First) holds))
    (collected (words ++ word_of (match_after (history_of c.later) (suc n + 1)) ∷ []) (length (history_of c.later))) refl refl in
    let same : collected (words ++ word_of (match_after (history_of c.later) (suc n + 1)) ∷ []) (length (history_of c.later))
    ≡ collected (take (suc (suc n)) (board_of history)) (length history)
    = ap (λ (l : List Entry). collected (words ++ word_of (match_after l (suc n + 1)) ∷ []) (length l)) c.history
    ∙ ap (λ (l : List ℕ). collected l (length history)) (words_more history (suc n) low) in
    then_on log seat (collected words (length history)) (collected (take (suc (suc n)) (board_of history)) (length history)) c (subst (GoesOnTo c.later seat) same one)

-- a reading that is alone loads all words of the board in its first collect
pub collect : (log : Log) (is : IsOfProtocol log) (seat : ℕ) → Begins (local_at seat log).held
    → GoesOnTo log seat (Checking (board_of (history_of log)) 0 (length (history_of log)))
collect log is seat begins =
    let history = history_of log in
    let words = board_of history in
    let long = board_length history in
    subst (GoesOnTo log seat)
    (ap (λ (l : List ℕ). collected l (length history)) (take_all 12 words (omega arith))
    ∙ ap (λ (b : Bool). cond b (Checking words 0 (length history)) (Collecting words)) (eq-eqb (length words) 12 long))
    (collects log is seat begins 11 (omega arith))

-- a reading that is in its second collect
module _ (log : Log) (is : IsOfProtocol log) (seat : ℕ) (words : List ℕ) (k point : ℕ) (holds : (local_at seat log).held ≡ Checking words k point) where
  -- the word that the second collect loads next
  abbrev found : ℕ
  found = word_of (match_after (history_of log) (k + 1))

  abbrev further : Outcome
  further = cond (k == 11) (Answers (Copied (reading_of words))) (GoesOn (Checking words (k + 1) point))

  -- it finds the word of the first collect again, and goes on
  pub second : k < 11 → (found == slice_index words k) ≡ true → GoesOnTo log seat (Checking words (k + 1) point)
  second low same = goes_on log is seat (Checking words k point) holds Second (k + 1) (omega arith, omega arith) (sym (ap (next_match Second) holds)) (Checking words (k + 1) point)
      (ap (λ (b : Bool). cond b further (GoesOn (Collecting []))) same
      ∙ ap (λ (b : Bool). cond b (Answers (Copied (reading_of words))) (GoesOn (Checking words (k + 1) point))) (ne_eqb k 11 (λ e. omega arith))) refl

  -- it finds the last word of the first collect again, and ends
  last : k ≡ 11 → (found == slice_index words k) ≡ true → EndsWith log seat Reading (Copied (reading_of words)) (history_of log)
  last is_last same = subst (EndsWith log seat Reading (Copied (reading_of words))) (append-nil (history_of log))
      (ends log is seat (Checking words k point) holds Second (k + 1) (omega arith, omega arith) (sym (ap (next_match Second) holds)) (Copied (reading_of words))
      (ap (λ (b : Bool). cond b further (GoesOn (Collecting []))) same
      ∙ ap (λ (b : Bool). cond b (Answers (Copied (reading_of words))) (GoesOn (Checking words (k + 1) point))) (eq-eqb k 11 is_last)))

  -- it finds another word, and begins anew
  pub broken : k < 12 → (found == slice_index words k) ≡ false → GoesOnTo log seat (Collecting [])
  broken low other = goes_on log is seat (Checking words k point) holds Second (k + 1) (omega arith, omega arith) (sym (ap (next_match Second) holds)) (Collecting [])
      (ap (λ (b : Bool). cond b further (GoesOn (Collecting []))) other) refl

-- a reading that is alone ends, if the m + 1 words that are left to load are those of its first collect
pub checks : (m : ℕ) (log : Log) (is : IsOfProtocol log) (seat : ℕ) (words : List ℕ) (k point : ℕ) → (local_at seat log).held ≡ Checking words k point → k + m ≡ 11
    → ((i : ℕ) → k ≤ i → i < 12 → word_of (match_after (history_of log) (i + 1)) ≡ slice_index words i)
    → EndsWith log seat Reading (Copied (reading_of words)) (history_of log)
checks zero log is seat words k point holds left same =
    last log is seat words k point holds (omega arith) (eq-eqb (word_of (match_after (history_of log) (k + 1))) (slice_index words k) (same k (omega arith) (omega arith)))
checks (suc m) log is seat words k point holds left same =
    let c = second log is seat words k point holds (omega arith)
    (eq-eqb (word_of (match_after (history_of log) (k + 1))) (slice_index words k) (same k (omega arith) (omega arith))) in
    subst (EndsWith log seat Reading (Copied (reading_of words))) c.history
    (then_end log seat (Checking words (k + 1) point) Reading (Copied (reading_of words)) (history_of c.later) c
    (checks m c.later c.is seat words (k + 1) point c.holds (omega arith)
    (λ i low high. ap (λ (l : List Entry). word_of (match_after l (i + 1))) c.history ∙ same i (omega arith) high)))

-- a report with this reply is accepted at the end of a history
pub record IsEntered (log : Log) (seat number : ℕ) (e : EventCall) : Type 0 where
  pub accepted : event.Accepted
  pub ends : EndsWith log seat (Event e) (Accepted accepted) (history_of log ++ entry_of number e ∷ [])

-- a report of a reporter that is alone is accepted, if the rules accept it after the history
pub report : (log : Log) (is : IsOfProtocol log) (seat number : ℕ) (e : EventCall) → (local_at seat log).held ≡ NoCall → (local_at seat log).number ≡ number → IsReporter number
    → IsMatch e.game → refusal_of (match_after (history_of log) e.game) e.expected e.kind ≡ None → IsEntered log seat number e
report log is seat number e none number_is reporter game accepts =
    let history = history_of log in
    let old = word_of (match_after history e.game) in
    let new = word_of (after (record_at old) (local_at seat log).number e.kind) in
    let back : record_at old ≡ match_after history e.game = read_back history e.game (logs_legal log is.is_log is.follows) in
    let c = goes_on log is seat NoCall none (Look e) e.game game (none, refl, subst IsReporter (sym number_is) reporter) (Holding e old new)
    (ap (by_rules (local_at seat log).number e old) (ap (λ (m : MatchRecord). refusal_of m e.expected e.kind) back ∙ accepts)) refl in
    let found = word_of (match_after (history_of c.later) e.game) in
    let there : found ≡ old = ap (λ (l : List Entry). word_of (match_after l e.game)) c.history in
    let reply : event.Accepted = record { number = (record_at new).number } in
    let number_then = (local_at seat c.later).number in
    let same = eq-eqb found old there in
    let last = ends c.later c.is seat (Holding e old new) c.holds Swap e.game game (sym (ap (next_match Swap) c.holds)) (Accepted reply)
    (ap (λ (b : Bool). Answers (cond b (Accepted reply) (Refused (Stale (record_at found).number)))) same) in
    let entered : history_of c.later ++ entry_list (cond (found == old) (Some (entry_of number_then e)) None) ≡ history ++ entry_of number e ∷ []
    = ap (λ (b : Bool). history_of c.later ++ entry_list (cond b (Some (entry_of number_then e)) None)) same
    ∙ (ap (λ (n : ℕ). history_of c.later ++ entry_of n e ∷ []) (c.number ∙ number_is)
    ∙ ap (λ (l : List Entry). l ++ entry_of number e ∷ []) c.history) in
    record {
      accepted = reply;
      ends = then_end log seat (Holding e old new) (Event e) (Accepted reply) (history ++ entry_of number e ∷ []) c
          (subst (λ (l : List Entry). EndsWith c.later seat (Event e) (Accepted reply) l) entered last);
    }

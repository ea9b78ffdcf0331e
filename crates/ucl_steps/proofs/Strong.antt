-- No strong linearization fits three logs: one in which a report has ended while a reading is under way, and two longer ones, in which the
-- reading comes before the report, and after it.
use Rattle.ucl_steps.proofs.Common.{◌≡◌, inl, inr, ℕ, zero, suc, ◌+◌, ◌-◌, ◌<◌, ◌==◌, true, false, List, [], ◌∷◌, ◌++◌, length, take}
use Rattle.ucl_steps.proofs.Common.{Some, None, slice_get, slice_index, refl, sym, ap, ◌∙◌, subst, arith, cases_lt, eq-eqb, length_push, none-some, append-nil}
use Rattle.ucl_steps.proofs.Common.{same_Some, false≢true, may_next, at_below, at_beginning, begins_length, get_back, IsPrefix, CompletedCall, Entry, EventCall, board_of}
use Rattle.ucl_steps.proofs.Common.{entry_of, match_after, reading_of, Call, Event, Reading, Reply, Copied, NoCall, Collecting, Checking, accepts}
use Rattle.std.specs.Prelude.{filter}
use Rattle.std.proofs.Math.Seq.{take-append-add}
use Rattle.ucl_word.specs.Counts.{MatchEntry, counted_match}
use Rattle.ucl_word.specs.Layout.{word_of}
use Rattle.ucl_word.specs.Rules.{refusal_of}
use Rattle.ucl_word.specs.declared.event.Kind.TheVariants.{KickOff}
use Rattle.ucl_word.proofs.Sequences.{may_none}
use Rattle.ucl_log.specs.Log.{CountRaised, Log, LoggedStep, MayBeTaken, history_of, logged_by, step_taken}
use Rattle.ucl_board.proofs.HistoryTheorems.{begins_through, entries_else}
use Rattle.ucl_steps.proofs.CallEvents.{answered_at, operation_of}
use Rattle.ucl_steps.proofs.CallHistories.{all_traced, at_rest}
use Rattle.ucl_steps.proofs.EventLists.{longer, replied, responses_leave}
use Rattle.ucl_steps.proofs.Histories.{board_get, get_some}
use Rattle.ucl_board.proofs.HistoryTheorems.{versions}
use Rattle.ucl_steps.proofs.Common.{MayFollow}
use Rattle.ucl_steps.proofs.LogFacts.{logs_legal}
use Rattle.ucl_steps.proofs.Longer.{EndsWith, GoesOnTo, IsEntered, IsOfProtocol, broken, checks, collect, report, second}
use Rattle.ucl_steps.proofs.LegalSequences.{adds_at, entries_by, entries_grow, reply_at}
use Rattle.ucl_steps.specs.BoardObject.{board_object, object_reply}
use Rattle.ucl_steps.specs.CallEvents.{call_events}
use Rattle.ucl_steps.specs.LocalState.{LocalState, IsNextOfProtocol, local_at}
use Rattle.ucl_steps.specs.Linearizability.{Response, Operation, IsOperation, Linearizes, is_pending}
use Rattle.ucl_steps.specs.LocalState.{IsCompletedCall}
use Rattle.ucl_steps.specs.Strong.{IsPrefixPreservingOnLogs, LogsAreNotStronglyLinearizable}

-- if each element passes the test, a filtered list is the list
filter_all : {X : Type 0} (xs : List X) → filter (λ (x : X). true) xs ≡ xs
filter_all [] = refl
filter_all {X} (x ∷ xs) = ap (λ (l : List X). x ∷ l) (filter_all xs)

-- the version in a reply, if it is a reading's
abbrev version_in : Reply → ℕ
version_in (Copied reading) = reading.version
version_in reply = 0

-- a longer log, by whose end the pass of seat 0 has made one call, a reading with this version
record Reads (trunk : Log) (point : ℕ) : Type 0 where
  log : Log
  is : IsOfProtocol log
  begins : IsPrefix trunk log
  call : CompletedCall
  calls : (local_at 0 log).calls ≡ call ∷ []
  asks : call.call ≡ Reading
  version : version_in call.reply ≡ point
  rests : (local_at 0 log).held ≡ NoCall

-- a call that ends a reading after a log is one
reads : (trunk log : Log) (reply : Reply) (point : ℕ) (history : List Entry) → IsPrefix trunk log → (local_at 0 log).calls ≡ [] → version_in reply ≡ point
    → EndsWith log 0 Reading reply history → Reads trunk point
reads trunk log reply point history p none same e = record {
  log = e.later;
  is = e.is;
  begins = begins_through trunk log e.later p e.begins;
  call = e.call;
  calls = e.calls ∙ ap (λ (l : List CompletedCall). l ++ e.call ∷ []) none;
  asks = e.asks;
  version = ap version_in e.gets ∙ same;
  rests = e.holds;
}

-- a report is accepted in a log, and in one longer log a reading has version 0, in another it has version 2
record Fork : Type 0 where
  trunk : Log
  is : IsOfProtocol trunk
  call : CompletedCall
  calls : (local_at 1 trunk).calls ≡ call ∷ []
  event : EventCall
  enters : call.call ≡ Event event
  accepted : accepts call.reply ≡ true
  early : Reads trunk 0
  late : Reads trunk 2

-- an element of a list of one is that one
only_one : {X : Type 0} (x y : X) (k : ℕ) → slice_get (x ∷ []) k ≡ Some y → x ≡ y
only_one x y zero at = same_Some x y at
only_one x y (suc k) at = absurd (none-some y at)

-- no function is a strong linearization of a fork
module _ (f : Log → List (Operation (ℕ × Call) Reply)) (strong : IsPrefixPreservingOnLogs (λ call. true) f) (fork : Fork) where
  abbrev trunk : Log
  trunk = fork.trunk

  abbrev early : Log
  early = fork.early.log

  abbrev late : Log
  late = fork.late.log

  linear : (log : Log) → IsOfProtocol log → Linearizes board_object (call_events log) (f log)
  linear log is = strong.linearizes log (is.is_log, is.follows)

  -- the operations of the trunk are the first ones of a longer log
  extends : (log : Log) → IsOfProtocol log → IsPrefix trunk log → IsPrefix (f trunk) (f log)
  extends log is begins = subst (λ (l : List (Operation (ℕ × Call) Reply)). IsPrefix l (f log)) (filter_all (f trunk))
      (subst (IsPrefix (filter (λ (o : Operation (ℕ × Call) Reply). true) (f trunk))) (filter_all (f log)) (strong.extends trunk log (is.is_log, is.follows) begins))

  -- each completed call has a place
  placed : (log : Log) → IsOfProtocol log → (seat k : ℕ) (c : CompletedCall) → IsCompletedCall log seat k c → (j : ℕ) × (slice_get (f log) j ≡ Some (operation_of log seat c))
  placed log is seat k c at =
      let l = linear log is in
      let s = (all_traced log is.is_log is.follows).completed seat k c at in
      let n = l.linearization.each_once (operation_of log seat c) (longer (call_events log) l.responses (answered_at log c) (operation_of log seat c) s.0).0 in
      (n.0, n.1)

  -- the report has a place already when the reading is under way
  reported : (j : ℕ) × (slice_get (f trunk) j ≡ Some (operation_of trunk 1 fork.call))
  reported = placed trunk fork.is 1 0 fork.call (ap (λ (l : List CompletedCall). slice_get l 0) fork.calls)

  -- the reading with version 0 has a place
  abbrev reading : Operation (ℕ × Call) Reply
  reading = operation_of early 0 fork.early.call

  read : (i : ℕ) × (slice_get (f early) i ≡ Some reading)
  read = placed early fork.early.is 0 0 fork.early.call (ap (λ (l : List CompletedCall). slice_get l 0) fork.early.calls)

  -- the accepted report is not before it
  not_before : reported.0 < read.0 → ⊥
  not_before less =
      let run = f early in
      let legal = (linear early fork.early.is).linearization.legal in
      let on = extends early fork.early.is fork.early.begins in
      let entered = adds_at [] run legal reported.0 (operation_of trunk 1 fork.call) fork.event
      (at_beginning (f trunk) run reported.0 (operation_of trunk 1 fork.call) on reported.1) fork.enters fork.accepted in
      let long = ap length entered ∙ length_push (entries_by [] (take reported.0 run)) (entry_of fork.call.number fork.event) in
      let grow = begins_length (entries_by [] (take (suc reported.0) run)) (entries_by [] (take read.0 run)) (entries_grow [] run (suc reported.0) read.0 (omega arith)) in
      let reply = ap version_in (reply_at [] run legal read.0 reading read.1 ∙ ap (object_reply (entries_by [] (take read.0 run))) fork.early.asks) in
      let none = fork.early.version in
      omega arith

  -- in the other longer log the reader has no call with this reply, and none pending
  not_late : (s : IsOperation (call_events late ++ (linear late fork.late.is).responses) reading) → ⊥
  not_late s =
      let l = linear late fork.late.is in
      let es = call_events late in
      let traces = all_traced late fork.late.is.is_log fork.late.is.follows in
      elim (cases_lt s.answered (length es)) [
        | inl less ↦
            let response = get_back es l.responses s.answered (Response 0 fork.early.call.reply) less s.response in
            let a = traces.responses s.answered 0 fork.early.call.reply response in
            let t = (traces.completed 0 a.number a.call a.is).0 in
            let there = sym response ∙ (ap (slice_get es) (sym a.at ∙ sym t.1) ∙ t.0.response) in
            let reply : fork.early.call.reply ≡ a.call.reply
            = replied 0 0 fork.early.call.reply a.call.reply (same_Some (Response 0 fork.early.call.reply) (Response 0 a.call.reply) there) in
            let call = only_one fork.late.call a.call a.number (ap (λ (c : List CompletedCall). slice_get c a.number) (sym fork.late.calls) ∙ a.is) in
            let two : 2 ≡ 0 = sym fork.late.version ∙ (ap (λ (c : CompletedCall). version_in c.reply) call ∙ (ap version_in (sym reply) ∙ fork.early.version)) in
            cc two
        | inr not ↦
            let pending = l.well_formed s.answered (Response 0 fork.early.call.reply) s.response in
            let n : length es + (s.answered - length es) ≡ s.answered = omega arith in
            let whole = ap (λ (k : ℕ). take k (es ++ l.responses)) (sym n) ∙ take-append-add es l.responses (s.answered - length es) in
            let rests = responses_leave 0 es l.responses (s.answered - length es) l.only (at_rest es late traces 0 fork.late.rests) in
            false≢true (sym rests ∙ (ap (is_pending 0) (sym whole) ∙ pending))
      ]

  contradiction : ⊥
  contradiction = elim (cases_lt reported.0 read.0) [
    | inl less ↦ not_before less
    | inr not ↦
        let low = at_below (f trunk) reported.0 (operation_of trunk 1 fork.call) reported.1 in
        let x = get_some (f trunk) read.0 (omega arith) in
        let on = extends early fork.early.is fork.early.begins in
        let same = same_Some x.0 reading (sym (at_beginning (f trunk) (f early) read.0 x.0 on x.1) ∙ read.1) in
        let there = at_beginning (f trunk) (f late) read.0 x.0 (extends late fork.late.is fork.late.begins) x.1 ∙ ap (λ (o : Operation (ℕ × Call) Reply). Some o) same in
        not_late ((linear late fork.late.is).linearization.operations read.0 reading there)
  ]

-- a reporter's kick-off of a match, without an event before it
abbrev kick_off : ℕ → EventCall
kick_off game = record { game = game; expected = 0; kind = KickOff }

-- the entry of reporter 1's kick-off
abbrev entered : ℕ → Entry
entered game = entry_of 1 (kick_off game)

-- the pass of seat 1 is enlisted
abbrev enlistment : LoggedStep
enlistment = logged_by 1 (step_taken (CountRaised 0) 0 0 None)

enlisted : IsOfProtocol (enlistment ∷ [])
enlisted = record {
  is_log = may_next MayBeTaken [] enlistment (may_none MayBeTaken) (record { index = refl; length = refl; there = (refl, omega arith) });
  follows = may_next IsNextOfProtocol [] enlistment (may_none IsNextOfProtocol) (record { next = (refl, refl); entry = refl });
}

-- the kick-offs of matches 1 and 2 are accepted one after the other, and the second changes the word of match 2
accepts_first : refusal_of (match_after [] 1) 0 KickOff ≡ None
unfolding refusal_of counted_match
accepts_first = refl

accepts_second : refusal_of (match_after (entered 1 ∷ []) 2) 0 KickOff ≡ None
unfolding refusal_of counted_match
accepts_second = refl

differs : (word_of (match_after (entered 1 ∷ entered 2 ∷ []) 2) == word_of (match_after [] 2)) ≡ false
unfolding word_of counted_match
differs = refl

-- a reading has loaded all words once
begun : GoesOnTo (enlistment ∷ []) 0 (Checking (board_of []) 0 0)
begun = collect (enlistment ∷ []) enlisted 0 (inl refl)

-- it has found the word of match 1 again
checked : GoesOnTo begun.later 0 (Checking (board_of []) 1 0)
checked = second begun.later begun.is 0 (board_of []) 0 0 begun.holds (omega arith)
    (eq-eqb (word_of (match_after (history_of begun.later) 1)) (slice_index (board_of []) 0)
    (ap (λ (l : List Entry). word_of (match_after l 1)) begun.history ∙ sym (board_get [] 0 (omega arith))))

-- reporter 1 enters the kick-off of match 1
kicked : IsEntered checked.later 1 1 (kick_off 1)
kicked =
    let own : local_at 1 checked.later ≡ local_at 1 (enlistment ∷ []) = checked.others 1 (λ e. omega arith) ∙ begun.others 1 (λ e. omega arith) in
    report checked.later checked.is 1 1 (kick_off 1) (ap (λ (d : LocalState). d.held) own) (ap (λ (d : LocalState). d.number) own) (omega arith, omega arith) (omega arith, omega arith)
    (ap (λ (l : List Entry). refusal_of (match_after l 1) 0 KickOff) (checked.history ∙ begun.history) ∙ accepts_first)

abbrev trunk_log : Log
trunk_log = kicked.ends.later

trunk_history : history_of trunk_log ≡ entered 1 ∷ []
trunk_history = kicked.ends.history_is ∙ ap (λ (l : List Entry). l ++ entered 1 ∷ []) (checked.history ∙ begun.history)

-- the reader has not gone on meanwhile
waits : local_at 0 trunk_log ≡ local_at 0 checked.later
waits = kicked.ends.others 0 (λ e. omega arith)

unread : (local_at 0 trunk_log).calls ≡ []
unread = ap (λ (d : LocalState). d.calls) waits ∙ (checked.calls ∙ begun.calls)

-- the reader goes on, and finds all other words again: version 0
early_reading : Reads trunk_log 0
early_reading = reads trunk_log trunk_log (Copied (reading_of (board_of []))) 0 (history_of trunk_log) ([], append-nil trunk_log) unread (versions [] (may_none MayFollow)).0
    (checks 10 trunk_log kicked.ends.is 0 (board_of []) 1 0 (ap (λ (d : LocalState). d.held) waits ∙ checked.holds) refl
    (λ i low high. ap (λ (l : List Entry). word_of (match_after l (i + 1))) trunk_history
    ∙ (ap (λ (l : List MatchEntry). word_of (counted_match l)) (entries_else [] (entered 1) (i + 1) (λ e. omega arith))
    ∙ sym (board_get [] i high))))

-- or reporter 1 enters the kick-off of match 2 first
kicked_again : IsEntered trunk_log 1 1 (kick_off 2)
kicked_again =
    let own : local_at 1 checked.later ≡ local_at 1 (enlistment ∷ []) = checked.others 1 (λ e. omega arith) ∙ begun.others 1 (λ e. omega arith) in
    report trunk_log kicked.ends.is 1 1 (kick_off 2) kicked.ends.holds (kicked.ends.number ∙ ap (λ (d : LocalState). d.number) own) (omega arith, omega arith) (omega arith, omega arith)
    (ap (λ (l : List Entry). refusal_of (match_after l 2) 0 KickOff) trunk_history ∙ accepts_second)

later_history : history_of kicked_again.ends.later ≡ entered 1 ∷ entered 2 ∷ []
later_history = kicked_again.ends.history_is ∙ ap (λ (l : List Entry). l ++ entered 2 ∷ []) trunk_history

waits_again : local_at 0 kicked_again.ends.later ≡ local_at 0 trunk_log
waits_again = kicked_again.ends.others 0 (λ e. omega arith)

-- then the reader finds another word at match 2, and begins anew
anew : GoesOnTo kicked_again.ends.later 0 (Collecting [])
anew = broken kicked_again.ends.later kicked_again.ends.is 0 (board_of []) 1 0 (ap (λ (d : LocalState). d.held) (waits_again ∙ waits) ∙ checked.holds) (omega arith)
    (ap (λ (l : List Entry). word_of (match_after l 2) == slice_index (board_of []) 1) later_history
    ∙ (ap (λ (w : ℕ). word_of (match_after (entered 1 ∷ entered 2 ∷ []) 2) == w) (board_get [] 1 (omega arith)) ∙ differs))

-- and both its collects find the same words: version 2
collected_again : GoesOnTo anew.later 0 (Checking (board_of (history_of anew.later)) 0 (length (history_of anew.later)))
collected_again = collect anew.later anew.is 0 (inr anew.holds)

late_reading : Reads trunk_log 2
late_reading =
    let history = history_of anew.later in
    let c = collected_again in
    let p = begins_through trunk_log kicked_again.ends.later anew.later kicked_again.ends.begins anew.begins in
    reads trunk_log c.later (Copied (reading_of (board_of history))) 2 (history_of c.later) (begins_through trunk_log anew.later c.later p c.begins)
    (c.calls ∙ (anew.calls ∙ (ap (λ (d : LocalState). d.calls) waits_again ∙ unread)))
    ((versions history (logs_legal anew.later anew.is.is_log anew.is.follows)).0 ∙ ap length (anew.history ∙ later_history))
    (checks 11 c.later c.is 0 (board_of history) 0 (length history) c.holds refl
    (λ i low high. ap (λ (l : List Entry). word_of (match_after l (i + 1))) c.history ∙ sym (board_get history i high)))

fork : Fork
fork =
    let call = kicked.ends.call in
    let none : (local_at 1 checked.later).calls ≡ []
    = ap (λ (d : LocalState). d.calls) (checked.others 1 (λ e. omega arith) ∙ begun.others 1 (λ e. omega arith)) in
    record {
      trunk = trunk_log;
      is = kicked.ends.is;
      call = call;
      calls = kicked.ends.calls ∙ ap (λ (l : List CompletedCall). l ++ call ∷ []) none;
      event = kick_off 1;
      enters = kicked.ends.asks;
      accepted = ap accepts kicked.ends.gets;
      early = early_reading;
      late = late_reading;
    }

-- the protocol is not strongly linearizable
pub not_strong : LogsAreNotStronglyLinearizable
not_strong f strong = contradiction f strong fork

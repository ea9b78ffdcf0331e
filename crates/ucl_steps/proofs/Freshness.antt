-- What a call has seen of another, if calls are linearizable: a reading shows each report that was accepted before it, by the entries that the
-- board of one thread has then. So stale and torn readings are refused.
use Rattle.ucl_steps.proofs.Common.{◌≡◌, ◌≢◌, inl, inr, ℕ, zero, suc, ◌+◌, ◌<◌, ◌≤◌, true, List, [], ◌∷◌, ◌++◌, length, take, Option, Some, None}
use Rattle.ucl_steps.proofs.Common.{slice_get, refl, sym, ap, ◌∙◌, subst, arith, same_Some, slice_get-get_or, get_or, cases_lt, false≢true, at_below, All, All-append}
use Rattle.ucl_steps.proofs.Common.{All-cons, All-nil, may_none, may_next, begins_length, entries-append, Entry, EventCall, IsLegal, IsMatch, MayFollow}
use Rattle.ucl_steps.proofs.Common.{attempted, board_of, entries_of, entry_of, match_after, may_attempt, sequential_reply, MatchRecord, Refusal}
use Rattle.ucl_steps.proofs.Common.{Call, Event, Reading, Reply, Accepted, Refused, Copied, accepts}
use Rattle.ucl_steps.proofs.Common.{CompletedCall}
use Rattle.std.specs.Prelude.{Ok, Err, Result}
use Rattle.std.proofs.lemmas.List.Elements.{All-from_recursion, All-get_or, All-weaker}
use Rattle.ucl_word.specs.Counts.{counted_match}
use Rattle.ucl_word.specs.Rules.{answer, refusal_of}
use Rattle.ucl_word.specs.declared.event.Accepted as event
use Rattle.ucl_word.specs.declared.event.Kind.TheVariants.{KickOff}
use Rattle.ucl_board.specs.History.{IsAttempt}
use Rattle.ucl_board.specs.Words.{game_at}
use Rattle.ucl_board.specs.declared.reading.Reading as board
use Rattle.ucl_board.proofs.HistoryTheorems.{game_after, go_on, one_entry_more}
use Rattle.ucl_steps.specs.BoardObject.{BoardEvent, MayInvoke, board_object, object_entries, object_reply, operation_at}
use Rattle.ucl_steps.specs.Linearizability.{Invocation, Response, IsLinearizable, IsLegalSequence, IsOperation, Linearizes, Operation, is_response, process_of}
use Rattle.ucl_steps.specs.Protocol.{MayAsk, report_reply}
use Rattle.ucl_steps.specs.Seen.{HasSeen, LinearizableCallsReadWhole, LinearizableReadsWhole, ReadsWhole, StaleAndTornAreRefused, first_event}
use Rattle.ucl_steps.specs.Seen.{stale_reading, torn_reading}
use Rattle.ucl_steps.proofs.EventLists.{longer}
use Rattle.ucl_steps.proofs.Histories.{number_is}
use Rattle.ucl_steps.proofs.LegalSequences.{adds_at, entries_by, entries_grow, reply_at}

-- an accepted event has the next event number
next_number : (number : ℕ) (o : Option Refusal) (accepted : event.Accepted) → Accepted accepted ≡ report_reply (answer number o) → accepted.number ≡ number + 1
next_number number None accepted is = cc
next_number number (Some refusal) accepted is = absurd cc

-- the reply to a report is no copy of the board, that to a reading is one of all entries
no_copy : (r : Result event.Accepted Refusal) (read : board.Reading) → Copied read ≡ report_reply r → ⊥
no_copy (Ok accepted) read is = cc
no_copy (Err refusal) read is = cc

copied_by : (h : List Entry) (call : Call) (read : board.Reading) → Copied read ≡ object_reply h call → read ≡ record { board = board_of h; version = length h }
copied_by h (Event e) read is = absurd (no_copy (sequential_reply h e) read is)
copied_by h Reading read is = cc

no_acceptance : (h : List Entry) (accepted : event.Accepted) → Accepted accepted ≡ object_reply h Reading → ⊥
no_acceptance h accepted is = cc

-- nothing is to be seen but by a reading
unseen : (call : Call) (reply later : Reply) → ((read : board.Reading) → later ≡ Copied read → ⊥) → HasSeen call reply later
unseen (Event e) (Accepted accepted) (Copied read) not = absurd (not read refl)
unseen call (Copied read) (Copied again) not = absurd (not again refl)
unseen call reply later not = tt

-- the entries stay legal
legal_after : (h : List Entry) (number : ℕ) (call : Call) → IsLegal h → MayAsk number call → IsLegal (object_entries h number call)
legal_after h number (Event e) legal may = (go_on h (attempted number e ∷ []) legal (All-cons IsAttempt (attempted number e) [] may (All-nil IsAttempt))).legal
legal_after h number Reading legal may = legal

-- a run of the board of one thread, of calls that may be asked
module _ (run : List (Operation (ℕ × Call) Reply)) (legal : IsLegalSequence board_object [] run)
    (may : (i : ℕ) (o : Operation (ℕ × Call) Reply) → slice_get run i ≡ Some o → MayAsk o.call.0 o.call.1) where
  abbrev entries : ℕ → List Entry
  entries i = entries_by [] (take i run)

  legal_from : (h : List Entry) (ops : List (Operation (ℕ × Call) Reply)) → IsLegal h → ((i : ℕ) (o : Operation (ℕ × Call) Reply) → slice_get ops i ≡ Some o → MayAsk o.call.0 o.call.1)
      → (i : ℕ) → IsLegal (entries_by h (take i ops))
  legal_from h [] is each zero = is
  legal_from h [] is each (suc i) = is
  legal_from h (o ∷ ops) is each zero = is
  legal_from h (o ∷ ops) is each (suc i) = legal_from (object_entries h o.call.0 o.call.1) ops (legal_after h o.call.0 o.call.1 is (each 0 o refl)) (λ k. each (suc k)) i

  legal_at : (i : ℕ) → IsLegal (entries i)
  legal_at = legal_from [] run (may_none MayFollow) may

  -- a match has no fewer entries later
  more_at : (game i j : ℕ) → i ≤ j → length (entries_of game (entries i)) ≤ length (entries_of game (entries j))
  more_at game i j le =
      let p = entries_grow [] run i j le in
      begins_length (entries_of game (entries i)) (entries_of game (entries j)) (entries_of game p.0, sym (entries-append game (entries i) p.0) ∙ ap (entries_of game) p.1)

  -- the event number of a match in a reading is how many entries the match had then
  shown_at : (i : ℕ) (o : Operation (ℕ × Call) Reply) (read : board.Reading) (game : ℕ) → slice_get run i ≡ Some o → o.reply ≡ Copied read → IsMatch game
      → (game_at read.board game).number ≡ length (entries_of game (entries i))
  shown_at i o read game at copied is =
      ap (λ (r : board.Reading). (game_at r.board game).number) (copied_by (entries i) o.call.1 read (sym copied ∙ reply_at [] run legal i o at))
      ∙ (ap (λ (m : MatchRecord). m.number) (game_after (entries i) game (legal_at i) is) ∙ number_is (entries i) game)

  -- an accepted report was given the number of the entry that it added
  given_at : (i : ℕ) (o : Operation (ℕ × Call) Reply) (e : EventCall) (accepted : event.Accepted) → slice_get run i ≡ Some o → o.call.1 ≡ Event e → o.reply ≡ Accepted accepted
      → accepted.number ≡ length (entries_of e.game (entries i)) + 1
  given_at i o e accepted at asked replied =
      let m = match_after (entries i) e.game in
      next_number m.number (refusal_of m e.expected e.kind) accepted (sym replied ∙ (reply_at [] run legal i o at ∙ ap (object_reply (entries i)) asked))
      ∙ ap (λ (n : ℕ). n + 1) (number_is (entries i) e.game)

  game_of : (i : ℕ) (o : Operation (ℕ × Call) Reply) (e : EventCall) → slice_get run i ≡ Some o → o.call.1 ≡ Event e → IsMatch e.game
  game_of i o e at asked = (subst (MayAsk o.call.0) asked (may i o at)).1

  -- of two operations the later has seen the earlier
  seen_at : (i j : ℕ) (a b : Operation (ℕ × Call) Reply) → slice_get run i ≡ Some a → slice_get run j ≡ Some b → i < j → HasSeen a.call.1 a.reply b.reply
  seen_at i j a b at bt less = by a.call.1 a.reply b.reply refl refl refl
    where
      by : (call : Call) (reply later : Reply) → a.call.1 ≡ call → a.reply ≡ reply → b.reply ≡ later → HasSeen call reply later
      by (Event e) (Accepted accepted) (Copied read) asked replied copied =
          let given = given_at i a e accepted at asked replied in
          let shown = shown_at j b read e.game bt copied (game_of i a e at asked) in
          let added = ap (λ (l : List Entry). length (entries_of e.game l)) (adds_at [] run legal i a e at asked (ap accepts replied)) in
          let one = one_entry_more (entries i) (entry_of a.call.0 e) e.game refl in
          let more = more_at e.game (suc i) j (omega arith) in
          omega arith
      by call (Copied read) (Copied again) asked replied copied =
          let first = ap (λ (r : board.Reading). r.version) (copied_by (entries i) a.call.1 read (sym replied ∙ reply_at [] run legal i a at)) in
          let second = ap (λ (r : board.Reading). r.version) (copied_by (entries j) b.call.1 again (sym copied ∙ reply_at [] run legal j b bt)) in
          let more = begins_length (entries i) (entries j) (entries_grow [] run i j (omega arith)) in
          omega arith
      by call reply later asked replied copied = tt

  -- a reading that has seen an accepted report comes after it
  not_seen : (i j : ℕ) (b c : Operation (ℕ × Call) Reply) (read : board.Reading) → slice_get run i ≡ Some c → slice_get run j ≡ Some b → i ≤ j → c.reply ≡ Copied read
      → (call : Call) (reply : Reply) → b.call.1 ≡ call → b.reply ≡ reply → accepts reply ≡ true → HasSeen call reply (Copied read) → ⊥
  not_seen i j b c read at bt le copied (Event e) (Accepted accepted) asked replied made seen =
      let given = given_at j b e accepted bt asked replied in
      let shown = shown_at i c read e.game at copied (game_of j b e bt asked) in
      let more = more_at e.game i j le in
      omega arith
  not_seen i j b c read at bt le copied Reading (Accepted accepted) asked replied made seen =
      no_acceptance (entries j) accepted (sym replied ∙ (reply_at [] run legal j b bt ∙ ap (object_reply (entries j)) asked))
  not_seen i j b c read at bt le copied call (Refused refusal) asked replied made seen = false≢true made
  not_seen i j b c read at bt le copied call (Copied again) asked replied made seen = false≢true made

-- in each linearizable history no reading is stale or torn
module _ (history : List BoardEvent) (invokes : All MayInvoke history) (linear : IsLinearizable board_object history) where
  abbrev l : Linearizes board_object history linear.0
  l = linear.1

  abbrev whole_history : List BoardEvent
  whole_history = history ++ l.responses

  responds : (e : BoardEvent) → is_response e ≡ true → MayInvoke e
  responds (Invocation process asked) is = absurd (false≢true is)
  responds (Response process reply) is = tt

  all_invoke : All MayInvoke whole_history
  all_invoke = All-append MayInvoke history l.responses invokes (All-weaker (λ (e : BoardEvent). is_response e ≡ true) MayInvoke responds l.responses l.only)

  -- each call that was made may be asked
  may_ask : (i : ℕ) (o : Operation (ℕ × Call) Reply) → slice_get linear.0 i ≡ Some o → MayAsk o.call.0 o.call.1
  may_ask i o at =
      let s = l.linearization.operations i o at in
      let e : BoardEvent = Invocation o.process o.call in
      let low = at_below whole_history o.invoked e s.invocation in
      subst MayInvoke (same_Some (get_or whole_history o.invoked e) e (sym (slice_get-get_or whole_history o.invoked e low) ∙ s.invocation))
      (All-get_or MayInvoke whole_history o.invoked e low all_invoke)

  -- an operation has a place
  place_of : (o : Operation (ℕ × Call) Reply) → IsOperation history o → (i : ℕ) × (slice_get linear.0 i ≡ Some o)
  place_of o s = let n = l.linearization.each_once o (longer history l.responses s.answered o (s, refl)).0 in (n.0, n.1)

  -- places are in the order of time
  places : (a b : Operation (ℕ × Call) Reply) (of_a : IsOperation history a) (of_b : IsOperation history b) → of_a.answered < b.invoked → (place_of a of_a).0 < (place_of b of_b).0
  places a b of_a of_b less =
      let s = longer history l.responses of_a.answered a (of_a, refl) in
      let same = s.1 in
      l.linearization.order (place_of a of_a).0 (place_of b of_b).0 a b (place_of a of_a).1 (place_of b of_b).1 s.0 (omega arith)

  reads_whole : ReadsWhole history
  reads_whole = record {
    fresh = λ a b of_a of_b less. seen_at linear.0 l.linearization.legal may_ask (place_of a of_a).0 (place_of b of_b).0 a b (place_of a of_a).1 (place_of b of_b).1
        (places a b of_a of_b less);
    whole = λ a b c of_a of_b of_c less made seen.
        let i = place_of a of_a in
        let j = place_of b of_b in
        let k = place_of c of_c in
        let first = places a b of_a of_b less in
        elim (cases_lt j.0 k.0) [
          | inl later ↦ seen_at linear.0 l.linearization.legal may_ask i.0 k.0 a c i.1 k.1 (omega arith)
          | inr not ↦ unseen a.call.1 a.reply c.reply (λ read copied.
              not_seen linear.0 l.linearization.legal may_ask k.0 j.0 b c read k.1 j.1 not copied b.call.1 b.reply refl refl made
              (subst (HasSeen b.call.1 b.reply) copied seen))
        ];
  }

pub linearizable_whole : LinearizableReadsWhole
linearizable_whole history invokes linear = reads_whole history invokes linear

-- among the completed calls of a log with linearizable calls no reading is stale, and none is torn
pub calls_whole : LinearizableCallsReadWhole
calls_whole log l =
    let reads = linearizable_whole l.history l.asked l.linearizable.linearizable in
    let operation = λ (seat : ℕ) (c : CompletedCall). operation_at seat c (l.invoked seat c) in
    record {
      fresh = λ i j m n a b at bt turn. reads.fresh (operation i a) (operation j b) (l.completed i m a at) (l.completed j n b bt) ((l.order i j m n a b at bt).1 turn);
      whole = λ i j h m n o a b c at bt ct turn. reads.whole (operation i a) (operation j b) (operation h c) (l.completed i m a at) (l.completed j n b bt) (l.completed h o c ct)
          ((l.order i j m n a b at bt).1 turn);
    }

-- reporter 1's kick-off of a match, invoked at this place, and a reader's reading, as operations
abbrev entering : ℕ → ℕ → Operation (ℕ × Call) Reply
entering game place = record { process = 1; call = (1, Event (first_event game)); invoked = place; reply = Accepted (record { number = 1 }) }

abbrev shown : ℕ → board.Reading → Operation (ℕ × Call) Reply
shown place read = record { process = 0; call = (0, Reading); invoked = place; reply = Copied read }

-- a match that has not kicked off shows event number 0
number_none : (game : ℕ) → IsMatch game → (game_at (board_of []) game).number ≡ 0
number_none game is = ap (λ (m : MatchRecord). m.number) (game_after [] game (may_none MayFollow) is) ∙ number_is [] game

stale_refused : IsLinearizable board_object stale_reading → ⊥
stale_refused linear =
    let may : All MayInvoke stale_reading = All-from_recursion MayInvoke stale_reading (((omega arith, omega arith), (omega arith, omega arith)), (tt, (tt, (tt, tt)))) in
    let first : IsOperation stale_reading (entering 1 0)
    = record { invocation = refl; answered = 1; response = refl; order = omega arith; next = λ place e low high at. absurd (omega arith) } in
    let second : IsOperation stale_reading (shown 2 (record { board = board_of []; version = 0 }))
    = record { invocation = refl; answered = 3; response = refl; order = omega arith; next = λ place e low high at. absurd (omega arith) } in
    let seen : 1 ≤ (game_at (board_of []) 1).number
    = (linearizable_whole stale_reading may linear).fresh (entering 1 0) (shown 2 (record { board = board_of []; version = 0 })) first second (omega arith) in
    let none = number_none 1 (omega arith, omega arith) in
    omega arith

-- the board with the kick-off of match 2 alone
abbrev second_alone : List Entry
second_alone = entry_of 1 (first_event 2) ∷ []

accepts_first : refusal_of (match_after [] 2) 0 KickOff ≡ None
unfolding refusal_of counted_match
accepts_first = refl

second_legal : IsLegal second_alone
second_legal = may_next MayFollow [] (entry_of 1 (first_event 2)) (may_none MayFollow)
    (may_attempt [] (attempted 1 (first_event 2)) (may_none MayFollow) ((omega arith, omega arith), (omega arith, omega arith)) accepts_first)

-- an event of the reporter is none of the reader
other_process : (f e : BoardEvent) → slice_get (f ∷ []) 0 ≡ Some e → process_of f ≡ 1 → process_of e ≢ 0
other_process f e at is none = let same = ap process_of (same_Some f e at) in omega arith

between : (place : ℕ) (e : BoardEvent) → 0 < place → place < 5 → slice_get torn_reading place ≡ Some e → process_of e ≢ 0
between zero e low high at = absurd (omega arith)
between (suc zero) e low high at = other_process (Invocation 1 (1, Event (first_event 1))) e at refl
between (suc (suc zero)) e low high at = other_process (Response 1 (Accepted (record { number = 1 }))) e at refl
between (suc (suc (suc zero))) e low high at = other_process (Invocation 1 (1, Event (first_event 2))) e at refl
between (suc (suc (suc (suc zero)))) e low high at = other_process (Response 1 (Accepted (record { number = 1 }))) e at refl
between (suc (suc (suc (suc (suc n))))) e low high at = absurd (omega arith)

torn_refused : IsLinearizable board_object torn_reading → ⊥
torn_refused linear =
    let may : All MayInvoke torn_reading = All-from_recursion MayInvoke torn_reading
    (tt, (((omega arith, omega arith), (omega arith, omega arith)), (tt, (((omega arith, omega arith), (omega arith, omega arith)), (tt, (tt, tt)))))) in
    let read : board.Reading = record { board = board_of second_alone; version = 1 } in
    let first : IsOperation torn_reading (entering 1 1)
    = record { invocation = refl; answered = 2; response = refl; order = omega arith; next = λ place e low high at. absurd (omega arith) } in
    let second : IsOperation torn_reading (entering 2 3)
    = record { invocation = refl; answered = 4; response = refl; order = omega arith; next = λ place e low high at. absurd (omega arith) } in
    let reading : IsOperation torn_reading (shown 0 read) = record { invocation = refl; answered = 5; response = refl; order = omega arith; next = between } in
    let one : (game_at (board_of second_alone) 2).number ≡ 1
    = ap (λ (m : MatchRecord). m.number) (game_after second_alone 2 second_legal (omega arith, omega arith)) ∙ number_is second_alone 2 in
    let none : (game_at (board_of second_alone) 1).number ≡ 0
    = ap (λ (m : MatchRecord). m.number) (game_after second_alone 1 second_legal (omega arith, omega arith)) ∙ number_is second_alone 1 in
    let there : 1 ≤ (game_at (board_of second_alone) 2).number = omega arith in
    let seen : 1 ≤ (game_at (board_of second_alone) 1).number
    = (linearizable_whole torn_reading may linear).whole (entering 1 1) (entering 2 3) (shown 0 read) first second reading (omega arith) refl there in
    omega arith

pub refused : StaleAndTornAreRefused
refused = record { stale = stale_refused; torn = torn_refused }

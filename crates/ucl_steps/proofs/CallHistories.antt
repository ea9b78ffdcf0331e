-- The history of calls of a log, one step more: its events, what each pass has under way, and that the completed calls are its operations.
use Rattle.ucl_steps.proofs.Common.{◌≡◌, ◌≢◌, inl, inr, ℕ, ◌+◌, ◌-◌, ◌≤◌, false, List, ◌∷◌, ◌++◌, length, take, drop}
use Rattle.ucl_steps.proofs.Common.{Option, Some, None, refl, sym, ap, ◌∙◌, subst, arith, [], append-nil, append_assoc, length-append, length_push, le_refl}
use Rattle.ucl_steps.proofs.Common.{slice_get, none-some, take-append-le, take-append-drop, take-append_seam, take-take, at_either, at_end, IsPrefix}
use Rattle.ucl_steps.proofs.Common.{Call, Event, Reading, Reply}
use Rattle.ucl_steps.proofs.Common.{Pending, NoCall, Holding, Collecting, Checking, Outcome, GoesOn, Answers, CompletedCall, IsMatch}
use Rattle.std.specs.Prelude.{not}
use Rattle.ucl_word.proofs.Sequences.{may_induction, may_begin, may_last}
use Rattle.ucl_log.specs.Log.{AccessKind, Look, Swap, First, Second, CountRead, CountRaised, Whole, IsConsistentLog, ReadsCurrent, Log, LoggedStep, Match, MayBeTaken, Action}
use Rattle.ucl_steps.specs.LocalState.{LocalState, FollowsProtocol, IsNextFor, IsNextOfProtocol, call_answered, call_asked, local_at, begun_index}
use Rattle.ucl_steps.specs.LocalState.{next_match, outcome, with_outcome, with_step, with_action}
use Rattle.ucl_steps.specs.LocalState.{IsCompletedCall}
use Rattle.ucl_steps.specs.Linearizability.{Invocation, Response, Operation, IsWellFormed, is_pending, process_of}
use Rattle.ucl_steps.specs.BoardObject.{BoardEvent}
use Rattle.ucl_steps.specs.CallEvents.{call_events_after, call_events, events_on, invocation_by, response_by}
use Rattle.ucl_steps.proofs.CallEvents.{answered_at, events_before, operation_of}
use Rattle.ucl_steps.proofs.LocalStates.{by_seat, checking, local_own, collecting, holding}
use Rattle.ucl_steps.proofs.EventLists.{HasUnderWay, IsOperationAt, longer, operation_made, same_fields, under_way_invoked, under_way_none, under_way_other, well_formed_next}
use Rattle.ucl_steps.proofs.LaterLogs.{calls_stay}

-- the events that x brings, a step that comes after this log
abbrev own_events : Log → LoggedStep → List BoardEvent
own_events log x = events_on x.seat (local_at x.seat log) x.step.action x.step.length

-- the events of two parts of a log are those of the first, and then those of the second after it
events_append : (before xs ys : Log) → call_events_after before (xs ++ ys) ≡ call_events_after before xs ++ call_events_after (before ++ xs) ys
events_append before [] ys = ap (λ (l : Log). call_events_after l ys) (sym (append-nil before))
events_append before (x ∷ xs) ys =
    let own = own_events before x in
    ap (λ (l : List BoardEvent). own ++ l) (events_append (before ++ x ∷ []) xs ys)
    ∙ (sym (append_assoc own (call_events_after (before ++ x ∷ []) xs) (call_events_after ((before ++ x ∷ []) ++ xs) ys))
    ∙ ap (λ (l : Log). (own ++ call_events_after (before ++ x ∷ []) xs) ++ call_events_after l ys) (append_assoc before (x ∷ []) xs))

-- the events of a log with one step more are those of the log, and then those of the step
pub events_more : (log : Log) (x : LoggedStep) → call_events (log ++ x ∷ []) ≡ call_events log ++ own_events log x
events_more log x = events_append [] log (x ∷ []) ∙ ap (λ (l : List BoardEvent). call_events log ++ l) (append-nil (own_events log x))

-- there are no fewer events before a later place of a log
events_low : (log : Log) (place : ℕ) → events_before log place ≤ length (call_events log)
events_low log place =
    let e = ap (λ (l : Log). length (call_events l)) (sym (take-append-drop place log))
    ∙ (ap length (events_append [] (take place log) (drop place log))
    ∙ length-append (call_events (take place log)) (call_events_after (take place log) (drop place log))) in
    omega arith

pub events_rise : (log : Log) (p q : ℕ) → p ≤ q → events_before log p ≤ events_before log q
events_rise log p q le =
    let e : take p (take q log) ≡ take p log = take-take p q log le in
    let low = events_low (take q log) p in
    let same = ap (λ (l : Log). length (call_events l)) e in
    omega arith

-- before a place of a log there are as many events in a longer log; before its end there are all
pub events_same : (log : Log) (x : LoggedStep) (place : ℕ) → place ≤ length log → events_before (log ++ x ∷ []) place ≡ events_before log place
events_same log x place le = ap (λ (l : Log). length (call_events l)) (take-append-le place log (x ∷ []) le)

-- before the end of a prefix of a log there are all events of the prefix
events_of_prefix : (log more : Log) → events_before (log ++ more) (length log) ≡ length (call_events log)
events_of_prefix log more = ap (λ (l : Log). length (call_events l)) (take-append_seam log more)

-- the call that a pass makes which holds this
abbrev call_held : Pending → Call
call_held (Holding e old new) = Event e
call_held held = Reading

-- the call that a pass with this number has under way if it holds this, invoked at this place of the events
abbrev under_by : Pending → ℕ → ℕ → Option ((ℕ × Call) × ℕ)
under_by NoCall number place = None
under_by held number place = Some ((number, call_held held), place)

under_some : (h : Pending) (number place : ℕ) → h ≢ NoCall → under_by h number place ≡ Some ((number, call_held h), place)
under_some h number place some = search arith

-- what a pass in this state has under way
abbrev under_way : Log → LocalState → Option ((ℕ × Call) × ℕ)
under_way log d = under_by d.held d.number (events_before log d.first_index)

-- a step on a match word that the protocol lets come next is of the call under way, if there is one
asked_held : (d : LocalState) (t : Action) (h : Pending) → d.held ≡ h → IsNextFor d t → h ≢ NoCall → call_asked h t ≡ call_held h
asked_held d (Match (Look e) game found) h is next not = absurd (not (sym is ∙ next.0))
asked_held d t h is next not = search arith

-- if a call goes on after a step, it is the call that the step was of
abbrev GoesWith : Call → Outcome → Type 0
GoesWith call (GoesOn held) = (held ≢ NoCall) × (call_held held ≡ call)
GoesWith call (Answers reply) = Unit {0}

-- the match of a step of this kind is the one that is next for a pass that holds this
abbrev IsNextGame : AccessKind → Pending → ℕ → Type 0
IsNextGame (Look e) h game = Unit {0}
IsNextGame kind h game = game ≡ next_match kind h

-- if the call of such a step goes on, the pass holds that call
goes : (number : ℕ) (h : Pending) (kind : AccessKind) (game found now : ℕ) → IsMatch game → IsNextGame kind h game
    → GoesWith (call_asked h (Match kind game found)) (outcome number h (Match kind game found) now)
goes number h kind game found now is next = search (arith, holding, collecting, checking)

goes_with : (d : LocalState) (kind : AccessKind) (game found now : ℕ) → IsMatch game → IsNextFor d (Match kind game found)
    → GoesWith (call_asked d.held (Match kind game found)) (outcome d.number d.held (Match kind game found) now)
goes_with d (Look e) game found now is next = goes d.number d.held (Look e) game found now is tt
goes_with d Swap game found now is next = goes d.number d.held Swap game found now is next
goes_with d First game found now is next = goes d.number d.held First game found now is next
goes_with d Second game found now is next = goes d.number d.held Second game found now is next

-- a completed call of a pass got its response at this place of the events of the whole log, of which this is a prefix
pub record IsAnswered (whole log : Log) (process place : ℕ) : Type 0 where
  pub number : ℕ
  pub call : CompletedCall
  pub is : IsCompletedCall log process number call
  pub at : answered_at whole call ≡ place

-- a completed call is an operation of these events, with its response after those that came before its last step
abbrev pub IsTraced : List BoardEvent → Log → ℕ → CompletedCall → Type 0
IsTraced es whole seat c = IsOperationAt es (answered_at whole c) (operation_of whole seat c) × (events_before whole c.last_index ≤ answered_at whole c)

-- these events are those of the calls of a prefix of a log: what each pass has under way, its completed calls, and no others
pub record Traces (whole log : Log) (es : List BoardEvent) : Type 0 where
  pub way : (seat : ℕ) → HasUnderWay es seat (under_way whole (local_at seat log))
  pub completed : (seat k : ℕ) (c : CompletedCall) → IsCompletedCall log seat k c → IsTraced es whole seat c
  pub formed : IsWellFormed es
  pub responses : (place process : ℕ) (reply : Reply) → slice_get es place ≡ Some (Response process reply) → IsAnswered whole log process place

-- a pass that holds no call has none pending
pub at_rest : (es : List BoardEvent) (log : Log) → Traces log log es → (seat : ℕ) → (local_at seat log).held ≡ NoCall → is_pending seat es ≡ false
at_rest es log t seat none =
    subst (λ (h : Pending). HasUnderWay es seat (under_by h (local_at seat log).number (events_before log (local_at seat log).first_index))) none (t.way seat)

-- a pass that has a call in hand keeps the place at which the call began
first_kept : (h : Pending) (first now : ℕ) → h ≢ NoCall → begun_index h first now ≡ first
first_kept h first now some = search arith

pair_same : (n : ℕ) (c d : Call) → c ≡ d → ◌≡◌ {A = ℕ × Call} (n, c) (n, d)
pair_same n c d is = ap {B = ℕ × Call} (λ (z : Call). (n, z)) is

-- this call with this number, invoked at this place
abbrev way_of : ℕ → Call → ℕ → Option ((ℕ × Call) × ℕ)
way_of number call place = Some ((number, call), place)

-- an invocation is no response
pub no_response : (p q : ℕ) (c : ℕ × Call) (r : Reply) → ◌≡◌ {A = BoardEvent} (Invocation p c) (Response q r) → ⊥
no_response p q c r is = cc

-- a prefix of a log with one step more
module _ (whole log : Log) (x : LoggedStep) (here : events_before whole x.step.index ≡ length (call_events log))
    (next_place : events_before whole (x.step.index + 1) ≡ length (call_events (log ++ x ∷ []))) where
  abbrev new_log : Log
  new_log = log ++ x ∷ []

  abbrev d : LocalState
  d = local_at x.seat log

  -- the place of the invocation of the step's call
  abbrev first : ℕ
  first = events_before whole (begun_index d.held d.first_index x.step.index)

  answered_later : (process place : ℕ) → IsAnswered whole log process place → IsAnswered whole new_log process place
  answered_later process place s = search (arith, s.number, s.call, calls_stay log new_log process s.number s.call (x ∷ [], refl) s.is, s.at)

  -- these events are those of the calls of the log, but for what the pass of the step has under way
  record Before (es : List BoardEvent) : Type 0 where
    others : (seat : ℕ) → x.seat ≢ seat → HasUnderWay es seat (under_way whole (local_at seat log))
    completed : (seat k : ℕ) (c : CompletedCall) → IsCompletedCall log seat k c → IsTraced es whole seat c
    formed : IsWellFormed es
    responses : (place process : ℕ) (reply : Reply) → slice_get es place ≡ Some (Response process reply) → IsAnswered whole log process place

  -- a step that finishes no call
  quiet : (es : List BoardEvent) → Before es → (y : LocalState) → with_step d x.step ≡ y → y.calls ≡ d.calls → HasUnderWay es x.seat (under_way whole y) → Traces whole new_log es
  quiet es b y is same own = record {
    way = by_seat log x (λ seat z. HasUnderWay es seat (under_way whole z)) y is own b.others;
    completed = λ seat k c at. b.completed seat k c (by_seat log x (λ i z. slice_get z.calls k ≡ Some c → IsCompletedCall log i k c) y is
        (λ at. ap (λ (l : List CompletedCall). slice_get l k) (sym same) ∙ at) (λ i not at. at) seat at);
    formed = b.formed;
    responses = λ place process reply at. answered_later process place (b.responses place process reply at);
  }

  -- a step that finishes a call of its pass with this reply, of which the events end with the response
  module _ (es : List BoardEvent) (b : Before es) (reply : Reply) (is : with_step d x.step ≡ with_outcome (Answers reply) x.step d)
      (all : call_events new_log ≡ es ++ Response x.seat reply ∷ []) (asked : Call) (asked_is : asked ≡ call_asked d.held x.step.action)
      (long : length (call_events log) ≤ length es) (own : HasUnderWay es x.seat (Some ((d.number, asked), first))) where
    abbrev event : BoardEvent
    event = Response x.seat reply

    abbrev es2 : List BoardEvent
    es2 = es ++ Response x.seat reply ∷ []

    abbrev c0 : CompletedCall
    c0 = call_answered reply x.step d

    old : (seat k : ℕ) (c : CompletedCall) → IsCompletedCall log seat k c → IsTraced es2 whole seat c
    old seat k c at = let s = b.completed seat k c at in (longer es (event ∷ []) (answered_at whole c) (operation_of whole seat c) s.0, s.1)

    last_is : length es ≡ events_before whole (x.step.index + 1) - 1
    last_is = let push = length_push es event in let total = next_place ∙ ap length all in omega arith

    made : IsTraced es2 whole x.seat c0
    made =
        let o : Operation (ℕ × Call) Reply = record { process = x.seat; call = (d.number, asked); invoked = first; reply = reply } in
        let same : o ≡ operation_of whole x.seat c0 =
        same_fields o (operation_of whole x.seat c0) refl (pair_same d.number asked (call_asked d.held x.step.action) asked_is) refl refl in
        let made = operation_made es x.seat reply (d.number, asked) first own.1 in
        let last = last_is in
        (subst (IsOperationAt es2 (answered_at whole c0)) same (made.0, made.1 ∙ last_is), omega arith)

    answers : Traces whole new_log es2
    answers = record {
      way = by_seat log x (λ seat z. HasUnderWay es2 seat (under_way whole z)) (with_outcome (Answers reply) x.step d) is (under_way_none es x.seat reply)
          (λ seat not. under_way_other es event seat (under_way whole (local_at seat log)) not (b.others seat not));
      completed = λ seat k c. by_seat log x (λ i z. slice_get z.calls k ≡ Some c → IsTraced es2 whole i c) (with_outcome (Answers reply) x.step d) is
          (λ at. elim (at_either d.calls c0 k c at) [ inl u ↦ old x.seat k c u.1 | inr u ↦ subst (IsTraced es2 whole x.seat) u.1 made ])
          (λ i not at. old i k c at) seat;
      formed = well_formed_next es event b.formed own.0;
      responses = λ place process r at. elim (at_either es event place (Response process r) at) [
        | inl u ↦ answered_later process place (b.responses place process r u.1)
        | inr u ↦ subst (λ (i : ℕ). IsAnswered whole new_log i place) (ap process_of u.1) (record {
          number = length d.calls;
          call = c0;
          is = ap (λ (z : LocalState). slice_get z.calls (length d.calls)) (local_own log x ∙ is) ∙ at_end d.calls c0;
          at = sym last_is ∙ sym u.0;
        })
      ];
    }

  -- what is known after the invocation of a step's call, and before its response
  record Begun (asked : Call) (es : List BoardEvent) : Type 0 where
    before : Before es
    long : length (call_events log) ≤ length es
    own : HasUnderWay es x.seat (Some ((d.number, asked), first))

  module _ (t : Traces whole log (call_events log)) (asked : Call) where
    abbrev es : List BoardEvent
    es = call_events log

    as_before : Before es
    as_before = record { others = λ seat not. t.way seat; completed = t.completed; formed = t.formed; responses = t.responses }

    -- the step begins its call
    begins_none : d.held ≡ NoCall → Begun asked (es ++ Invocation x.seat (d.number, asked) ∷ [])
    begins_none none =
        let event : BoardEvent = Invocation x.seat (d.number, asked) in
        let now : length es ≡ first = sym (ap (λ (h : Pending). events_before whole (begun_index h d.first_index x.step.index)) none ∙ here) in
        let push = length_push es event in
        record {
          before = record {
            others = λ seat not. under_way_other es event seat (under_way whole (local_at seat log)) not (t.way seat);
            completed = λ seat k c at. let s = t.completed seat k c at in (longer es (event ∷ []) (answered_at whole c) (operation_of whole seat c) s.0, s.1);
            formed = well_formed_next es event t.formed (subst (λ (h : Pending). HasUnderWay es x.seat (under_by h d.number (events_before whole d.first_index))) none (t.way x.seat));
            responses = λ place process r at. elim (at_either es event place (Response process r) at) [
              | inl u ↦ t.responses place process r u.1
              | inr u ↦ absurd (no_response x.seat process (d.number, asked) r u.1)
            ];
          };
          long = omega arith;
          own = subst (λ (n : ℕ). HasUnderWay (es ++ event ∷ []) x.seat (Some ((d.number, asked), n))) now (under_way_invoked es x.seat (d.number, asked));
        }

    -- the step is of the call that its pass has under way
    begins_held : (h : Pending) → d.held ≡ h → h ≢ NoCall → asked ≡ call_held h → Begun asked (es ++ [])
    begins_held h is some asked_is =
        let held : d.held ≢ NoCall = λ none. some (sym is ∙ none) in
        let way_is : under_way whole d ≡ Some ((d.number, asked), first)
        = under_some d.held d.number (events_before whole d.first_index) held
        ∙ (λ k. Some ((d.number, sym (asked_is ∙ ap call_held (sym is)) k), events_before whole (sym (first_kept d.held d.first_index x.step.index held) k))) in
        subst (Begun asked) (sym (append-nil es))
        (record { before = as_before; long = le_refl (length es); own = subst (HasUnderWay es x.seat) way_is (t.way x.seat) })

    begins_by : (h : Pending) → d.held ≡ h → (h ≢ NoCall → asked ≡ call_held h) → Begun asked (es ++ invocation_by h x.seat d.number asked)
    begins_by NoCall is same = begins_none is
    begins_by (Holding e old new) is same = begins_held (Holding e old new) is (holding e old new) (same (holding e old new))
    begins_by (Collecting words) is same = begins_held (Collecting words) is (collecting words) (same (collecting words))
    begins_by (Checking words checked point) is same =
        begins_held (Checking words checked point) is (checking words checked point) (same (checking words checked point))

  -- the step, by what comes of it
  after_by : (asked : Call) (es : List BoardEvent) → Begun asked es → asked ≡ call_asked d.held x.step.action → (o : Outcome) → GoesWith asked o
      → with_step d x.step ≡ with_outcome o x.step d → call_events new_log ≡ es ++ response_by o x.seat → Traces whole new_log (es ++ response_by o x.seat)
  after_by asked es b asked_is (GoesOn held) goes is all = subst (Traces whole new_log) (sym (append-nil es))
      (quiet es b.before (with_outcome (GoesOn held) x.step d) is refl (subst (HasUnderWay es x.seat) (sym way_is) b.own))
    where
      way_is : under_by held d.number first ≡ Some ((d.number, asked), first)
      way_is = under_some held d.number first goes.0 ∙ ap (λ (c : Call). way_of d.number c first) goes.1
  after_by asked es b asked_is (Answers reply) goes is all = answers es b.before reply is all asked asked_is b.long b.own

  -- a step that is on no match word
  quietly : Traces whole log (call_events log) → (y : LocalState) → with_step d x.step ≡ y → y.calls ≡ d.calls → call_events new_log ≡ call_events log ++ []
      → under_way whole d ≡ under_way whole y → Traces whole new_log (call_events new_log)
  quietly t y is same all way = subst (Traces whole new_log) (sym (all ∙ append-nil (call_events log)))
      (quiet (call_events log) (as_before t Reading) y is same (subst (HasUnderWay (call_events log) x.seat) way (t.way x.seat)))

  kept_by : (h : Pending) (number first place : ℕ) → under_by h number (events_before whole first) ≡ under_by h number (events_before whole (begun_index h first place))
  kept_by h number first place = search arith

  none_by : (h : Pending) (n m first : ℕ) → h ≡ NoCall → under_by h n first ≡ under_by h m first
  none_by h n m first none = search arith

  -- the step, by its action
  step_traced : Traces whole log (call_events log) → (action : Action) → x.step.action ≡ action → IsNextFor d action → ReadsCurrent log action
      → with_step d x.step ≡ with_action action x.step d → call_events new_log ≡ call_events log ++ events_on x.seat d action x.step.length → Traces whole new_log (call_events new_log)
  step_traced t (Match kind game found) is next there step all =
      let action : Action = Match kind game found in
      let asked = call_asked d.held action in
      let o = outcome d.number d.held action x.step.length in
      let begun = begins_by t asked d.held refl (asked_held d action d.held refl next) in
      let joined = all ∙ sym (append_assoc (call_events log) (invocation_by d.held x.seat d.number asked) (response_by o x.seat)) in
      subst (Traces whole new_log) (sym joined)
      (after_by asked (call_events log ++ invocation_by d.held x.seat d.number asked) begun (ap (call_asked d.held) (sym is)) o
      (goes_with d kind game found x.step.length there.0 next) step joined)
  step_traced t (CountRead found) is next there step all = quietly t (with_action (CountRead found) x.step d) step refl all (kept_by d.held d.number d.first_index x.step.index)
  step_traced t (CountRaised found) is next there step all =
      quietly t (with_action (CountRaised found) x.step d) step refl all (none_by d.held d.number (found + 1) (events_before whole d.first_index) next.0)
  step_traced t (Whole shown) is next there step all = absurd next

-- the events of each prefix of a log that follows the protocol are those of its calls
prefix_traced : (whole log : Log) → IsConsistentLog log → FollowsProtocol log → IsPrefix log whole → Traces whole log (call_events log)
prefix_traced whole log = may_induction MayBeTaken (λ l. FollowsProtocol l → IsPrefix l whole → Traces whole l (call_events l))
    (λ f p. search (arith, none-some))
    (λ xs x before may was f p.
    let first = may_begin IsNextOfProtocol xs (x ∷ []) f in
    let next = may_last IsNextOfProtocol xs x f in
    let here = ap (events_before whole) may.index ∙ at_prefix xs (x ∷ p.0, sym (append_assoc xs (x ∷ []) p.0) ∙ p.1) in
    let push = length_push xs x in
    let place = may.index in
    let end : x.step.index + 1 ≡ length (xs ++ x ∷ []) = omega arith in
    step_traced whole xs x here (ap (events_before whole) end ∙ at_prefix (xs ++ x ∷ []) p) (was first (x ∷ p.0, sym (append_assoc xs (x ∷ []) p.0) ∙ p.1))
    x.step.action refl next.next may.there refl (events_more xs x))
    log
  where
    at_prefix : (l : Log) → IsPrefix l whole → events_before whole (length l) ≡ length (call_events l)
    at_prefix l p = ap (λ (w : Log). events_before w (length l)) (sym p.1) ∙ events_of_prefix l p.0

-- the events of each log that follows the protocol are those of its calls
pub all_traced : (log : Log) → IsConsistentLog log → FollowsProtocol log → Traces log log (call_events log)
all_traced log is follows = prefix_traced log log is follows ([], append-nil log)

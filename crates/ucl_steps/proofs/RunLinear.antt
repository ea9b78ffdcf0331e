-- Every run of the machine is linearizable: its calls that have their replies, each in its place, are a run of the board of one thread, in the
-- order of time. Calls that have their replies and have not ended are given their responses: their callers can end them.
use Rattle.ucl_steps.proofs.Common.{◌≡◌, inl, inr, ◌⊎◌, ℕ, zero, suc, ◌+◌, ◌≤◌, ◌==◌, Bool, true, false, cond, List, [], ◌∷◌, ◌++◌, length, map, Option, Some}
use Rattle.std.proofs.lemmas.List.{take-map}
use Rattle.ucl_steps.proofs.Common.{◌<◌, ◌↔◌, IfSome, at_below, at_longer, cases_lt, drop, get_or, length-map, slice_get-get_or, take-append-drop}
use Rattle.ucl_steps.proofs.Common.{None, slice_get, IsSome, refl, sym, ap, ◌∙◌, subst, arith, append-nil, append_assoc, length_push, none-some, same_Some, false≢true}
use Rattle.ucl_steps.proofs.Common.{cases_order, take, take-length, le_refl, cond_some, option_and_then_some, All, All-append, All-cons, All-nil, Entry, EventCall}
use Rattle.ucl_steps.proofs.Common.{Refusal, Stale, by_rules, refusal_of, record_at, word_at, slice_index, reading_of, Caller, Reporter, Call, Event, Reading}
use Rattle.ucl_steps.proofs.Common.{Step, Begin, Look, Swap, First, Second, End, CallRecord, Reply, Accepted, Refused, Copied, CallerState, Idle, Wanting, Within}
use Rattle.ucl_steps.proofs.Common.{Answered, Holding, Collecting, Checking, GoesOn, Answers, MachineState, Cast, initial_state, after_steps, after_step}
use Rattle.ucl_steps.proofs.Common.{after_step_holding, after_begin, after_end, after_reply, after_outcome, stored, state_after_first, held_by, caller_of, caller_number}
use Rattle.ucl_steps.proofs.Common.{change_at, with_end, with_reply, may_begin, accepts, option_and_then, and_parts, leb-true}
use Rattle.ucl_steps.specs.BoardObject.{BoardEvent, MayInvoke, board_object}
use Rattle.ucl_steps.specs.Traces.{IsLeftBy}
use Rattle.ucl_steps.specs.declared.trace.Trace.{Trace}
use Rattle.ucl_steps.specs.Linearizability.{Invocation, Response, IsLinearization, IsOperation, Operation, is_response, state_after}
use Rattle.ucl_steps.specs.Protocol.{MayAsk}
use Rattle.ucl_steps.specs.RunHistory.{IsLinearizableRun, TakesEffect, event_at, operation_by, process_for, response_with, run_events}
use Rattle.ucl_steps.specs.Theorems.{RunsAreLinearizable, RunsReadWhole}
use Rattle.ucl_steps.proofs.Calls.{Explains, IsSequential, IsSettled, Knows, by_number, decided, explained_by, in_call, lies}
use Rattle.ucl_steps.proofs.EventLists.{IsOperationAt, same_fields, same_operation}
use Rattle.ucl_steps.proofs.Freshness.{linearizable_whole}
use Rattle.ucl_steps.proofs.Histories.{get-change_at, map_unseen}
use Rattle.ucl_steps.proofs.LogRuns.{run_append as steps_append}
use Rattle.ucl_steps.proofs.LegalSequences.{leaves, linearization, to_map}
use Rattle.ucl_steps.proofs.Placed.{Done, Each, PointsFrom, operation_with, size, sizes}
use Rattle.ucl_steps.proofs.Points.{IsExplained}
use Rattle.ucl_steps.proofs.RunEvents.{IsPlaced, Told, not_some, run_more, same_places, told_begin, told_end, told_none, told_reply}
use Rattle.ucl_steps.proofs.Runs.{Keeps, begun_before, kept_at_start, run_kept, step_kept}

-- a step gives a call its reply
record Replies (w w' : MachineState) : Type 0 where
  number : ℕ
  call : CallRecord
  at : slice_get w.calls number ≡ Some call
  unended : call.ended ≡ None
  unreplied : call.reply ≡ None
  reply : Reply
  point : ℕ
  calls : w'.calls ≡ change_at number (with_reply point reply) w.calls
  early : call.begun ≤ point
  late : point ≤ length w.history
  last : accepts reply ≡ true → point ≡ length w.history
  grows : length w'.history ≡ length w.history + cond (accepts reply) 1 0

-- a step within a call gives it its reply, or leaves all calls and the history
abbrev IsInside : MachineState → MachineState → Type 0
IsInside w w' = ((w'.calls ≡ w.calls) × (w'.history ≡ w.history)) ⊎ Replies w w'

-- some events tell of these calls, if the history has n entries
abbrev TellsOf : List BoardEvent → List CallRecord → ℕ → Type 0
TellsOf es calls n = (list : List Done) × Told es list calls n

abbrev Tells : List BoardEvent → MachineState → Type 0
Tells es w = TellsOf es w.calls (length w.history)

-- a state that has what a run keeps
module _ (w : MachineState) (kept : Keeps w) where
  abbrev now : ℕ
  now = length w.history

  -- the call of a caller that gets its reply
  module _ (c : Caller) (x : CallerState) (k : ℕ) (holds : held_by w.callers c ≡ Some x) (within : in_call x ≡ Some k) where
    abbrev mine : Knows w.history w.calls c x k
    mine = kept.knows c x k holds within

    replies_now : (w2 : MachineState) (reply : Reply) → w2.calls ≡ w.calls → mine.call.reply ≡ None → length w2.history ≡ now + cond (accepts reply) 1 0
        → IsInside w (after_reply c k now reply w2)
    replies_now w2 reply same none grows = search (arith, mine.at, mine.unended, begun_before w kept k mine.call mine.at, le_refl)

  look_inside : (n k : ℕ) (e : EventCall) → held_by w.callers (Reporter n) ≡ Some (Wanting k e) → (o : Option Refusal)
      → IsInside w (after_outcome (Reporter n) k now (by_rules n e (word_at w.words e.game) o) w)
  look_inside n k e holds o = search (arith, replies_now, (kept.knows (Reporter n) (Wanting k e) k holds refl).sees.reply)

  swap_inside : (n k : ℕ) (e : EventCall) (old new : ℕ) → held_by w.callers (Reporter n) ≡ Some (Within k (Holding e old new)) → (b : Bool)
      → IsInside w (after_outcome (Reporter n) k now (Answers (cond b (Accepted (record { number = (record_at new).number })) (Refused (Stale (record_at (word_at w.words e.game)).number))))
      (cond b (stored n e new w) w))
  swap_inside n k e old new holds true = replies_now (Reporter n) (Within k (Holding e old new)) k holds refl (stored n e new w) (Accepted (record { number = (record_at new).number })) refl
      (kept.knows (Reporter n) (Within k (Holding e old new)) k holds refl).sees.asks.reply
      (length_push w.history (record { game = e.game; reporter = n; kind = e.kind }))
  swap_inside n k e old new holds false = replies_now (Reporter n) (Within k (Holding e old new)) k holds refl w (Refused (Stale (record_at (word_at w.words e.game)).number)) refl
      (kept.knows (Reporter n) (Within k (Holding e old new)) k holds refl).sees.asks.reply (omega arith)

  second_inside : (c : Caller) (k : ℕ) (words : List ℕ) (checked point : ℕ) → held_by w.callers c ≡ Some (Within k (Checking words checked point)) → (a b : Bool)
      → IsInside w (after_outcome c k point (cond a (cond b (Answers (Copied (reading_of words))) (GoesOn (Checking words (checked + 1) point))) (GoesOn (Collecting []))) w)
  second_inside c k words checked point holds a b = let m = kept.knows c (Within k (Checking words checked point)) k holds refl in
      search (arith, m.at, m.unended, m.sees.reads.reply, m.sees.early, m.sees.late, false≢true)

  tells_inside : (es : List BoardEvent) (w' : MachineState) → Tells es w → IsInside w w' → Tells (es ++ []) w'
  tells_inside es w' t (inl same) = subst (λ (l : List BoardEvent). Tells l w') (sym (append-nil es))
      (t.0, subst (λ (l : List CallRecord). Told es t.0 l (length w'.history)) (sym same.0) (subst (λ (h : List Entry). Told es t.0 w.calls (length h)) (sym same.1) t.1))
  tells_inside es w' t (inr r) =
      let told : TellsOf es (change_at r.number (with_reply r.point r.reply) w.calls) (now + cond (accepts r.reply) 1 0)
      = (_, told_reply es t.0 w.calls now t.1 r.number r.call r.at r.unended r.reply r.point r.unreplied r.early r.late r.last) in
      subst (λ (l : List BoardEvent). Tells l w') (sym (append-nil es))
      (subst (λ (l : List CallRecord). TellsOf es l (length w'.history)) (sym r.calls)
      (subst (TellsOf es (change_at r.number (with_reply r.point r.reply) w.calls)) (sym r.grows) told))

  -- a caller that is idle has ended all its calls
  all_ended : (c : Caller) → held_by w.callers c ≡ Some Idle → (i : ℕ) (a : CallRecord) → slice_get w.calls i ≡ Some a → a.caller ≡ c → IsSome a.ended
  all_ended c holds i a at own = by a.ended refl
    where
      by : (o : Option ℕ) → a.ended ≡ o → IsSome o
      by (Some n) is = refl
      by None is =
          let h = kept.unended i a at is in
          let same = same_Some h.holds Idle (sym h.held_is ∙ (ap (held_by w.callers) own ∙ holds)) in
          absurd (none-some i (ap in_call (sym same) ∙ h.in_it))

  -- and one that is in a call has ended its others
  one_open : (c : Caller) (x : CallerState) (k : ℕ) → held_by w.callers c ≡ Some x → in_call x ≡ Some k
      → (i : ℕ) (a : CallRecord) → slice_get w.calls i ≡ Some a → a.ended ≡ None → a.caller ≡ c → i ≡ k
  one_open c x k holds within i a at none own =
      let h = kept.unended i a at none in
      let same = same_Some h.holds x (sym h.held_is ∙ (ap (held_by w.callers) own ∙ holds)) in
      same_Some i k (sym h.in_it ∙ (ap in_call same ∙ within))

  some_reply : (o : Option Reply) → IsSome o → (r : Reply) × (o ≡ Some r)
  some_reply o some = search (arith, false≢true)

  tells_end : (es : List BoardEvent) (c : Caller) (k : ℕ) → Tells es w → held_by w.callers c ≡ Some (Answered k) → Tells (es ++ event_at w (End c) (Some (Answered k))) (after_end c k w)
  tells_end es c k t holds =
      let m = kept.knows c (Answered k) k holds refl in
      let r = some_reply m.call.reply m.sees in
      let told = told_end es t.0 w.calls now t.1 k m.call m.at m.unended r.0 r.1
      (λ i a at none own. one_open c (Answered k) k holds refl i a at none (own ∙ m.caller)) in
      let event : es ++ Response (process_for m.call.caller) r.0 ∷ [] ≡ es ++ event_at w (End c) (Some (Answered k))
      = ap (λ (d : Caller). es ++ Response (process_for d) r.0 ∷ []) m.caller
      ∙ ap (λ (o : Option Reply). es ++ response_with (process_for c) o) (sym r.1 ∙ ap (option_and_then (λ (a : CallRecord). a.reply)) (sym m.at)) in
      (t.0, subst (λ (l : List BoardEvent). Told l t.0 (change_at k (with_end now) w.calls) now) event told)

  tells_step : (es : List BoardEvent) (s : Step) (o : Option CallerState) (w' : MachineState) → Tells es w → held_by w.callers (caller_of s) ≡ o → after_step_holding s o w ≡ Some w'
      → Tells (es ++ event_at w s o) w'
  tells_step es (Begin c call) (Some Idle) w' t holds done =
      let made = cond_some (may_begin c call) (after_begin c call w) w' done in
      subst (Tells (es ++ event_at w (Begin c call) (Some Idle))) made.1 (t.0, told_begin es t.0 w.calls now t.1 c call (all_ended c holds))
  tells_step es (Look (Reporter n)) (Some (Wanting k e)) w' t holds done =
      subst (Tells (es ++ [])) (same_Some _ w' done) (tells_inside es _ t (look_inside n k e holds (refusal_of (record_at (word_at w.words e.game)) e.expected e.kind)))
  tells_step es (Swap (Reporter n)) (Some (Within k (Holding e old new))) w' t holds done =
      subst (Tells (es ++ [])) (same_Some _ w' done) (tells_inside es _ t (swap_inside n k e old new holds (word_at w.words e.game == old)))
  tells_step es (First c) (Some (Within k (Collecting words))) w' t holds done =
      subst (Tells (es ++ [])) (same_Some _ w' done) (tells_inside es (state_after_first c k words w) t (inl (refl, refl)))
  tells_step es (Second c) (Some (Within k (Checking words checked point))) w' t holds done =
      subst (Tells (es ++ [])) (same_Some _ w' done)
      (tells_inside es _ t (second_inside c k words checked point holds (slice_index w.words checked == slice_index words checked) (checked == 11)))
  tells_step es (End c) (Some (Answered k)) w' t holds done =
      subst (Tells (es ++ event_at w (End c) (Some (Answered k)))) (same_Some (after_end c k w) w' done) (tells_end es c k t holds)
  tells_step es s o w' t holds done = absurd (none-some w' done)

-- one step more
one_more : (done : List Step) (s : Step) (w v u : MachineState) → after_steps done w ≡ Some v → after_step v s ≡ Some u → after_steps (done ++ s ∷ []) w ≡ Some u
one_more done s w v u is then = steps_append done (s ∷ []) w v is ∙ ap (option_and_then (after_steps [])) then

-- the events of each run tell of its calls
pub run_tells : (cast : Cast) (steps done : List Step) (v w : MachineState) → after_steps done (initial_state cast) ≡ Some v → Keeps v → Tells (run_events cast done) v
    → after_steps steps v ≡ Some w → Tells (run_events cast (done ++ steps)) w
run_tells cast [] done v w is kept t e =
    subst (λ (l : List Step). Tells (run_events cast l) w) (sym (append-nil done)) (subst (Tells (run_events cast done)) (same_Some v w e) t)
run_tells cast (s ∷ steps) done v w is kept t e = option_and_then_some (after_steps steps) (after_step v s) w e (λ u first then.
    let o = held_by v.callers (caller_of s) in
    let more = tells_step v kept (run_events cast done) s o u t refl first in
    let there = one_more done s (initial_state cast) v u is first in
    let told = subst (λ (l : List BoardEvent). Tells l u) (sym (run_more cast done s v is)) more in
    subst (λ (l : List Step). Tells (run_events cast l) w) (append_assoc done (s ∷ []) steps)
    (run_tells cast steps (done ++ s ∷ []) u w there (step_kept v kept s o u refl first) told then))

abbrev Responds : BoardEvent → Type 0
Responds e = is_response e ≡ true

-- of each caller at most one call has not ended
abbrev OneOpen : List CallRecord → Type 0
OneOpen calls = (i j : ℕ) (a b : CallRecord) → slice_get calls i ≡ Some a → slice_get calls j ≡ Some b → a.ended ≡ None → b.ended ≡ None
    → a.caller ≡ b.caller → i ≡ j

-- a call but for its end
abbrev unended : CallRecord → CallRecord
unended a = record a { ended = None }

-- some events tell of these calls, which were invoked at these places
abbrev ToldAt : List BoardEvent → List Done → List CallRecord → ℕ → List ℕ → Type 0
ToldAt es list calls n places = (t : Told es list calls n) × (t.places ≡ places)

-- the events of some calls, with responses to those below number m that have their replies and have not ended
record Closed (es : List BoardEvent) (list : List Done) (calls : List CallRecord) (n : ℕ) (places : List ℕ) (m : ℕ) : Type 0 where
  responses : List BoardEvent
  responds : All Responds responses
  closed : List CallRecord
  told : ToldAt (es ++ responses) list closed n places
  same : map unended closed ≡ map unended calls
  one_open : OneOpen closed
  over : (i : ℕ) (a : CallRecord) → i < m → slice_get closed i ≡ Some a → IsSome a.reply → IsSome a.ended

module _ (es : List BoardEvent) (list : List Done) (calls : List CallRecord) (n : ℕ) (places : List ℕ) (m : ℕ) (c : Closed es list calls n places m) where
  -- call m, if there is one, has no reply, or has ended
  stays : ((a : CallRecord) → slice_get c.closed m ≡ Some a → IsSome a.reply → IsSome a.ended) → Closed es list calls n places (suc m)
  stays last = search (arith, c.responses, c.responds, c.closed, c.told, c.same, c.one_open, c.over, cases_lt)

  -- it has its reply, and gets its response
  ends : (a : CallRecord) (reply : Reply) → slice_get c.closed m ≡ Some a → a.ended ≡ None → a.reply ≡ Some reply → Closed es list calls n places (suc m)
  ends a reply here none replied = record {
    responses = c.responses ++ Response (process_for a.caller) reply ∷ [];
    responds = All-append Responds c.responses (Response (process_for a.caller) reply ∷ []) c.responds
        (All-cons Responds (Response (process_for a.caller) reply) [] refl (All-nil Responds));
    closed = change_at m (with_end n) c.closed;
    told = subst (λ (l : List BoardEvent). ToldAt l list (change_at m (with_end n) c.closed) n places)
        (append_assoc es c.responses (Response (process_for a.caller) reply ∷ []))
        (told_end (es ++ c.responses) list c.closed n c.told.0 m a here none reply replied only, same_places (es ++ c.responses) list c.closed n c.told.0 m a here none reply replied only ∙ c.told.1);
    same = map_unseen unended m (with_end n) (λ b. refl) c.closed ∙ c.same;
    one_open = λ i j x y at bt none_x none_y own. c.one_open i j x y (old i x at none_x) (old j y bt none_y) none_x none_y own;
    over = λ i b low at some. elim (get-change_at m (with_end n) c.closed i b at) [
      | inl u ↦ subst (λ (z : CallRecord). IsSome z.ended) u.3 refl
      | inr u ↦ let not = u.0 in elim (cases_lt i m) [ inl less ↦ c.over i b less u.1 some | inr high ↦ absurd (not (omega arith)) ]
    ];
  }
    where
      only : (i : ℕ) (b : CallRecord) → slice_get c.closed i ≡ Some b → b.ended ≡ None → b.caller ≡ a.caller → i ≡ m
      only i b at not_over own = c.one_open i m b a at here not_over none own

      old : (i : ℕ) (x : CallRecord) → slice_get (change_at m (with_end n) c.closed) i ≡ Some x → x.ended ≡ None → slice_get c.closed i ≡ Some x
      old i x at none = elim (get-change_at m (with_end n) c.closed i x at) [
        | inl u ↦ absurd (not_some x.ended none (subst (λ (z : CallRecord). IsSome z.ended) u.3 refl))
        | inr u ↦ u.1
      ]

  close_one : Closed es list calls n places (suc m)
  close_one = by (slice_get c.closed m) refl
    where
      by_reply : (a : CallRecord) → slice_get c.closed m ≡ Some a → (e : Option ℕ) → a.ended ≡ e → (r : Option Reply) → a.reply ≡ r → Closed es list calls n places (suc m)
      by_reply a here None none (Some reply) replied = ends a reply here none replied
      by_reply a here e is None none = stays (λ b at some. absurd (not_some b.reply (ap (λ (z : CallRecord). z.reply) (same_Some b a (sym at ∙ here)) ∙ none) some))
      by_reply a here (Some k) is r replied = stays (λ b at some. subst (λ (o : Option ℕ). IsSome o) (sym (ap (λ (z : CallRecord). z.ended) (same_Some b a (sym at ∙ here)) ∙ is)) refl)

      by : (o : Option CallRecord) → slice_get c.closed m ≡ o → Closed es list calls n places (suc m)
      by (Some a) here = by_reply a here a.ended refl a.reply refl
      by None none = stays (λ a at some. absurd (none-some a (sym none ∙ at)))

-- all of them get their responses
close : (es : List BoardEvent) (list : List Done) (calls : List CallRecord) (n : ℕ) (t : Told es list calls n) → OneOpen calls → (m : ℕ) → Closed es list calls n t.places m
close es list calls n t one zero = record {
  responses = [];
  responds = All-nil Responds;
  closed = calls;
  told = subst (λ (l : List BoardEvent). ToldAt l list calls n t.places) (sym (append-nil es)) (t, refl);
  same = refl;
  one_open = one;
  over = λ i a low at. absurd (omega arith);
}
close es list calls n t one (suc m) = close_one es list calls n t.places m (close es list calls n t one m)

-- places that rise are of one call each
one_number : (places : List ℕ) → ((i j p q : ℕ) → i < j → slice_get places i ≡ Some p → slice_get places j ≡ Some q → p < q)
    → (i j p q : ℕ) → slice_get places i ≡ Some p → slice_get places j ≡ Some q → p ≡ q → i ≡ j
one_number places rise i j p q at bt same = elim (cases_order i j) [
  | inl is ↦ is
  | inr not ↦ elim not [ inl less ↦ let low = rise i j p q less at bt in absurd (omega arith) | inr more ↦ let low = rise j i q p more bt at in absurd (omega arith) ]
]

-- a property of the value of an option, if it has one
if_some : {X : Type 0} (o : Option X) (P : X → Type 0) → ((x : X) → o ≡ Some x → P x) → IfSome o P
if_some None P has = tt
if_some (Some x) P has = has x refl

-- a call that a history explains has its reply if it has ended, and its point just if it has its reply
has_replied : (h : List Entry) (a : CallRecord) (point : Option ℕ) (reply : Option Reply) → Explains h a point reply
    → (IsSome a.ended → IsSome reply) × (IsSome point ↔ IsSome reply)
has_replied h a point reply s = search (arith, not_some)

-- the first calls, in the order of their points; and the point of a call is how many entries those before it made
points_take : (list : List Done) (n q : ℕ) → PointsFrom n list → PointsFrom n (take q list)
points_take list n zero points = tt
points_take [] n (suc q) points = tt
points_take (d ∷ list) n (suc q) points = (points.0, points_take list (n + size d) q points.1)

point_at : (list : List Done) (n q : ℕ) (d : Done) → PointsFrom n list → slice_get list q ≡ Some d → d.call.point ≡ n + sizes (take q list)
point_at [] n q d points at = absurd (none-some d at)
point_at (x ∷ list) n zero d points at = let is = points.0 in let same = ap (λ (z : Done). z.call.point) (same_Some x d at) in omega arith
point_at (x ∷ list) n (suc q) d points at = let rest = point_at list (n + size x) q d points.1 at in omega arith

from_take : (list : List Done) (n q : ℕ) (d : Done) → slice_get (take n list) q ≡ Some d → slice_get list q ≡ Some d
from_take list n q d at = ap (λ (l : List Done). slice_get l q) (sym (take-append-drop n list)) ∙ at_longer (take n list) (drop n list) q d at

-- a run, of which the events tell of its calls; those that have their replies and have not ended are given their responses
module _ (cast : Cast) (steps : List Step) (w : MachineState) (kept : Keeps w) (tells : Tells (run_events cast steps) w) where
  abbrev es : List BoardEvent
  es = run_events cast steps

  abbrev list : List Done
  list = tells.0

  abbrev t : Told es list w.calls (length w.history)
  t = tells.1

  one_call : OneOpen w.calls
  one_call i j a b at bt none_a none_b own =
      let h = kept.unended j b bt none_b in
      one_open w kept a.caller h.holds j (ap (held_by w.callers) own ∙ h.held_is) h.in_it i a at none_a refl

  s : Closed es list w.calls (length w.history) t.places (length w.calls)
  s = close es list w.calls (length w.history) t one_call (length w.calls)

  abbrev whole : List BoardEvent
  whole = es ++ s.responses

  abbrev u : Told whole list s.closed (length w.history)
  u = s.told.0

  -- a call as an operation
  abbrev first_of : Done → ℕ
  first_of d = d.call.first_index

  abbrev as_made : Done → Operation (ℕ × Call) Reply
  as_made d = operation_with first_of d

  as_operation : {calls : List CallRecord} {places : List ℕ} {now n : ℕ} (d : Done) (p : IsPlaced calls places now n d) → operation_by p.call d.call.first_index d.call.reply ≡ as_made d
  as_operation d p = same_fields (operation_by p.call d.call.first_index d.call.reply) (as_made d) (sym p.asks.0) (pair_of (sym p.asks.1) (sym p.asks.2)) refl refl
    where
      pair_of : {n m : ℕ} {c d : Call} → n ≡ m → c ≡ d → ◌≡◌ {A = ℕ × Call} (n, c) (m, d)
      pair_of n c = λ k. (n k, c k)

  explained : Each (λ d. IsExplained w.history d.call) list
  explained q d at =
      let p = t.are q d at in
      let h = w.history in
      let e = decided h p.call (kept.explained d.turn p.call p.at) d.call.point d.call.reply p.decided in
      let l = lies p.call d.call.point (length h) (length h) d.call.reply e.0 (inr refl) in
      let began = p.began in
      let is : IsSettled h d.call = (
        l.1,
        subst (λ (n : ℕ). IsSequential h d.call.point (Reporter n) d.call.call d.call.reply) (sym p.asks.1)
            (subst (λ (c : Call). IsSequential h d.call.point (Reporter (caller_number p.call.caller)) c d.call.reply) (sym p.asks.2)
            (by_number h d.call.point p.call.caller p.call.call d.call.reply e.1)),
      ) in
      explained_by h d.call is p.times.0 (omega (arith, l.0), p.fits.late, p.ended) p.fits.made

  over : (i : ℕ) (a : CallRecord) → slice_get s.closed i ≡ Some a → IsSome a.reply → IsSome a.ended
  over i a at some =
      let low = at_below s.closed i a at in
      let long = sym (length-map s.closed unended) ∙ (ap length s.same ∙ length-map w.calls unended) in
      s.over i a (omega arith) at some

  -- it is one of the history, with its response not before its reply
  made : (q : ℕ) (d : Done) → slice_get list q ≡ Some d → (n : ℕ) × IsOperationAt whole n (as_made d) × (d.call.last_index ≤ n)
  made q d at =
      let p = u.are q d at in
      let m = u.completed d.turn d.call.first_index p.call d.call.reply p.at p.place (over d.turn p.call p.at (subst (λ (o : Option Reply). IsSome o) (sym p.decided.1) refl)) p.decided.1 in
      (m.0, subst (IsOperationAt whole m.0) (as_operation d p) m.1, m.2 q d at refl)

  -- calls that are one operation are one
  one_turn : (i j : ℕ) (x y : Done) → slice_get list i ≡ Some x → slice_get list j ≡ Some y → as_made x ≡ as_made y → (x.seat ≡ y.seat) × (x.turn ≡ y.turn)
  one_turn i j x y at bt same =
      let first = ap (λ (o : Operation (ℕ × Call) Reply). o.invoked) same in (
        ap (λ (o : Operation (ℕ × Call) Reply). o.process) same,
        one_number t.places t.rise x.turn y.turn x.call.first_index y.call.first_index (t.are i x at).place (t.are j y bt).place first,
      )

  -- an operation of the history has a place
  placed : (o : Operation (ℕ × Call) Reply) → IsOperation whole o → (q : ℕ) × (d : Done) × (slice_get list q ≡ Some d) × (as_made d ≡ o)
  placed o is =
      let r = u.responses is.answered o.process o.reply is.response in
      let n = u.all r.number r.call r.at (subst (λ (z : Option Reply). IsSome z) (sym r.replied) refl) in
      let d = n.1 in
      let p = u.are n.0 d n.2 in
      let call : p.call ≡ r.call = same_Some p.call r.call (sym p.at ∙ (ap (slice_get s.closed) n.3 ∙ r.at)) in
      let first : d.call.first_index ≡ r.place = same_Some d.call.first_index r.place (sym p.place ∙ (ap (slice_get u.places) n.3 ∙ r.invoked)) in
      let reply : d.call.reply ≡ o.reply = same_Some d.call.reply o.reply (sym p.decided.1 ∙ (ap (λ (a : CallRecord). a.reply) call ∙ r.replied)) in
      let same : operation_by p.call d.call.first_index d.call.reply ≡ operation_by r.call r.place o.reply
      = ap (λ (a : CallRecord). operation_by a d.call.first_index d.call.reply) call
      ∙ (ap (λ (k : ℕ). operation_by r.call k d.call.reply) first ∙ ap (operation_by r.call r.place) reply) in
      (n.0, d, n.2, sym (as_operation d p) ∙ (same ∙ same_operation whole (operation_by r.call r.place o.reply) o r.made.0 is r.made.1))

  run_linearization : IsLinearization board_object whole (map as_made list)
  run_linearization = linearization w.history whole list first_of t.pairs t.points explained
      (λ q d at. let m = made q d at in (m.0, m.1, λ p e bt less. omega (arith, m.2))) placed one_turn

  -- it leaves the history
  run_leaves : state_after board_object [] (map as_made list) ≡ w.history
  run_leaves = leaves w.history first_of list 0 t.points explained ∙ (let all = t.size_all in let n : 0 + sizes list ≡ length w.history = omega arith in
      ap (λ (k : ℕ). take k w.history) n ∙ take-length w.history)

  -- the place of the invocation of a call
  abbrev invoked_at : ℕ → ℕ
  invoked_at i = get_or t.places i 0

  place_is : (i : ℕ) (a : CallRecord) → slice_get w.calls i ≡ Some a → slice_get t.places i ≡ Some (invoked_at i)
  place_is i a at = let low = at_below w.calls i a at in let long = t.long in slice_get-get_or t.places i 0 (omega arith)

  -- a call takes effect in its place
  effect : (i : ℕ) (a : CallRecord) (reply : Reply) → slice_get w.calls i ≡ Some a → a.reply ≡ Some reply → TakesEffect (map as_made list) w.history a (operation_by a (invoked_at i) reply)
  effect i a reply at replied =
      let h = w.history in
      let n = t.all i a at (subst (λ (z : Option Reply). IsSome z) (sym replied) refl) in
      let d = n.1 in
      let p = t.are n.0 d n.2 in
      let call : p.call ≡ a = same_Some p.call a (sym p.at ∙ (ap (slice_get w.calls) n.3 ∙ at)) in
      let point : a.point ≡ Some d.call.point = sym (ap (λ (z : CallRecord). z.point) call) ∙ p.decided.0 in
      let reply_is : d.call.reply ≡ reply = same_Some d.call.reply reply (sym p.decided.1 ∙ (ap (λ (z : CallRecord). z.reply) call ∙ replied)) in
      let first : d.call.first_index ≡ invoked_at i = same_Some d.call.first_index (invoked_at i) (sym p.place ∙ (ap (slice_get t.places) n.3 ∙ place_is i a at)) in
      let e = decided h a (kept.explained i a at) d.call.point reply (point, replied) in
      let within = lies a d.call.point (length h) (length h) reply e.0 (inr refl) in
      record {
        point = d.call.point;
        recorded = point;
        within = (within.0, within.1);
        by_end = if_some a.ended (λ (ended : ℕ). (d.call.point ≤ ended) × (accepts reply ≡ true → d.call.point < ended))
            (λ ended is. let l = lies a d.call.point (length h) ended reply e.0 (inl is) in (l.1, l.2));
        place = n.0;
        is = to_map as_made list n.0 d n.2 ∙ ap (λ (o : Operation (ℕ × Call) Reply). Some o)
            (sym (as_operation d p) ∙ (ap (λ (z : CallRecord). operation_by z d.call.first_index d.call.reply) call
            ∙ (ap (λ (k : ℕ). operation_by a k d.call.reply) first ∙ ap (operation_by a (invoked_at i)) reply_is)));
        before = ap (state_after board_object []) (take-map as_made n.0 list)
            ∙ (leaves h first_of (take n.0 list) 0 (points_take list 0 n.0 t.points) (λ q x bt. explained q x (from_take list n.0 q x bt))
            ∙ ap (λ (k : ℕ). take k h) (sym (point_at list 0 n.0 d t.points n.2)));
      }

  -- a call that is an operation of the history has ended
  has_ended : (i : ℕ) (a : CallRecord) (reply : Reply) → slice_get w.calls i ≡ Some a → IsOperation es (operation_by a (invoked_at i) reply) → IsSome a.ended
  has_ended i a reply at made =
      let r = t.responses made.answered (process_for a.caller) reply made.response in
      let same = same_operation es (operation_by r.call r.place reply) (operation_by a (invoked_at i) reply) r.made.0 made r.made.1 in
      let number = one_number t.places t.rise r.number i r.place (invoked_at i) r.invoked (place_is i a at) (ap (λ (o : Operation (ℕ × Call) Reply). o.invoked) same) in
      subst (λ (z : CallRecord). IsSome z.ended) (same_Some r.call a (sym r.at ∙ (ap (slice_get w.calls) number ∙ at))) r.ended

  linear_run : IsLinearizableRun cast steps w.history w.calls
  linear_run = record {
    linearizable = record {
      linearizable = (map as_made list, record { responses = s.responses; only = s.responds; well_formed = u.formed; linearization = run_linearization });
      leaves = run_leaves;
    };
    legal = kept.legal;
    invoked = invoked_at;
    begun = λ i a at. t.begun i (invoked_at i) a at (place_is i a at);
    only = λ place process asked at.
        let n = t.only place process asked at in
        let low = at_below t.places n.0 place n.1 in
        let long = t.long in
        (n.0, omega arith, same_Some (invoked_at n.0) place (sym (slice_get-get_or t.places n.0 0 low) ∙ n.1));
    in_order = λ i j less low. let long = t.long in t.rise i j (invoked_at i) (invoked_at j) less (slice_get-get_or t.places i 0 (omega arith)) (slice_get-get_or t.places j 0 (omega arith));
    replied = λ i a at. has_replied w.history a a.point a.reply (kept.explained i a at);
    effect = effect;
    ended = λ i a reply at replied.
        (λ some. (t.completed i (invoked_at i) a reply at (place_is i a at) some replied).1.0, has_ended i a reply at);
  }

-- the calls of each run are linearizable
pub run_linear : RunsAreLinearizable
run_linear cast steps w run =
    let kept = run_kept steps (initial_state cast) w (kept_at_start cast) run in
    linear_run cast steps w kept (run_tells cast steps [] (initial_state cast) w refl (kept_at_start cast) ([], told_none) run)

-- the calls of a run are ones that may be asked
may_ask_begun : (callers : MachineState) (c : Caller) (call : Call) → held_by callers.callers c ≡ Some Idle → may_begin c call ≡ true → MayAsk (caller_number c) call
may_ask_begun w c Reading holds may = tt
may_ask_begun w (Reporter (suc n)) (Event e) holds may = search (arith, and_parts, leb-true)
may_ask_begun w c (Event e) holds may = search (arith, none-some, false≢true)

invokes_with : (process : ℕ) (o : Option Reply) → All MayInvoke (response_with process o)
invokes_with process None = All-nil MayInvoke
invokes_with process (Some reply) = All-cons MayInvoke (Response process reply) [] tt (All-nil MayInvoke)

invokes_step : (w : MachineState) (s : Step) (o : Option CallerState) (w' : MachineState) → held_by w.callers (caller_of s) ≡ o → after_step_holding s o w ≡ Some w'
    → All MayInvoke (event_at w s o)
invokes_step w (Begin c call) (Some Idle) w' holds done =
    All-cons MayInvoke (Invocation (process_for c) (caller_number c, call)) []
    (may_ask_begun w c call holds (cond_some (may_begin c call) (after_begin c call w) w' done).0) (All-nil MayInvoke)
invokes_step w (End c) (Some (Answered k)) w' holds done = invokes_with (process_for c) (option_and_then (λ (a : CallRecord). a.reply) (slice_get w.calls k))
invokes_step w s o w' holds done = search (arith, none-some, All-nil MayInvoke)

run_invokes : (cast : Cast) (steps done : List Step) (v w : MachineState) → after_steps done (initial_state cast) ≡ Some v → All MayInvoke (run_events cast done)
    → after_steps steps v ≡ Some w → All MayInvoke (run_events cast (done ++ steps))
run_invokes cast [] done v w is all e = subst (λ (l : List Step). All MayInvoke (run_events cast l)) (sym (append-nil done)) all
run_invokes cast (s ∷ steps) done v w is all e = option_and_then_some (after_steps steps) (after_step v s) w e (λ u first then.
    let o = held_by v.callers (caller_of s) in
    let more = All-append MayInvoke (run_events cast done) (event_at v s o) all (invokes_step v s o u refl first) in
    subst (λ (l : List Step). All MayInvoke (run_events cast l)) (append_assoc done (s ∷ []) steps)
    (run_invokes cast steps (done ++ s ∷ []) u w (one_more done s (initial_state cast) v u is first)
    (subst (All MayInvoke) (sym (run_more cast done s v is)) more) then))

-- so no reading of a run is stale or torn
pub run_whole : RunsReadWhole
run_whole cast steps w run =
    linearizable_whole (run_events cast steps) (run_invokes cast steps [] (initial_state cast) w refl (All-nil MayInvoke) run) (run_linear cast steps w run).linearizable.linearizable

-- so it is with every trace
pub linearizable_trace : (cast : Cast) (steps : List Step) (w : MachineState) (trace : Trace) → after_steps steps (initial_state cast) ≡ Some w → IsLeftBy w trace
    → IsLinearizableRun cast steps trace.history.items trace.calls.items
linearizable_trace cast steps w trace run left =
    subst (λ (h : List Entry). IsLinearizableRun cast steps h trace.calls.items) (sym left.history)
    (subst (IsLinearizableRun cast steps w.history) (sym left.calls) (run_linear cast steps w run))

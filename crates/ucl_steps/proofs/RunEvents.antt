-- The history of calls of a run of the machine, step by step: what each caller has pending, that its ended calls are its operations, and the
-- calls that have their replies, each in its place.
use Rattle.ucl_steps.proofs.Common.{◌≡◌, ◌≢◌, inl, inr, ℕ, zero, suc, ◌+◌, ◌<◌, ◌≤◌, Bool, true, cond, List, [], ◌∷◌, ◌++◌, length, Option, Some, None}
use Rattle.ucl_steps.proofs.Common.{slice_get, IsSome, refl, sym, ap, ◌∙◌, subst, arith, append-nil, append_assoc, length_push, none-some, same_Some, false≢true, cases_eq}
use Rattle.ucl_steps.proofs.Common.{cases_lt, le_refl, at_below, at_either, at_end, at_longer, get_back, change_at, with_end, with_reply, Caller, Call}
use Rattle.ucl_steps.proofs.Common.{CallRecord, Reply, Step, MachineState, Cast, initial_state, after_steps, held_by, caller_of, caller_number, accepts}
use Rattle.ucl_steps.specs.BoardObject.{BoardEvent}
use Rattle.ucl_steps.specs.Linearizability.{Invocation, Response, IsWellFormed, process_of}
use Rattle.ucl_steps.specs.RunHistory.{event_at, event_in, operation_by, process_for, run_events, run_events_after}
use Rattle.ucl_steps.proofs.Calls.{IsDecided}
use Rattle.ucl_steps.proofs.CallHistories.{no_response}
use Rattle.ucl_steps.proofs.EventLists.{HasUnderWay, IsOperationAt, longer, operation_made, replied as same_reply, under_way_invoked, under_way_none, under_way_other, well_formed_next}
use Rattle.ucl_steps.proofs.Histories.{change_at_else, change_at_here, get-change_at, get_some, same_caller}
use Rattle.ucl_steps.proofs.Placed.{Before, Done, Each, Fits, Pairs, PointsFrom, pairs_place, place, place_from, place_new, place_old, points_place, sizes, sizes_place}

-- the events of two parts of a list of steps are those of the first, and then those of the second after it
pub run_append : (cast : Cast) (before xs ys : List Step) → run_events_after cast before (xs ++ ys) ≡ run_events_after cast before xs ++ run_events_after cast (before ++ xs) ys
run_append cast before [] ys = ap (λ (l : List Step). run_events_after cast l ys) (sym (append-nil before))
run_append cast before (x ∷ xs) ys =
    let own = event_in (after_steps before (initial_state cast)) x in
    ap (λ (l : List BoardEvent). own ++ l) (run_append cast (before ++ x ∷ []) xs ys)
    ∙ (sym (append_assoc own (run_events_after cast (before ++ x ∷ []) xs) (run_events_after cast ((before ++ x ∷ []) ++ xs) ys))
    ∙ ap (λ (l : List Step). (own ++ run_events_after cast (before ++ x ∷ []) xs) ++ run_events_after cast l ys) (append_assoc before (x ∷ []) xs))

-- one step more brings its event in the state that the steps before it lead to
pub run_more : (cast : Cast) (steps : List Step) (s : Step) (w : MachineState) → after_steps steps (initial_state cast) ≡ Some w
    → run_events cast (steps ++ s ∷ []) ≡ run_events cast steps ++ event_at w s (held_by w.callers (caller_of s))
run_more cast steps s w is =
    run_append cast [] steps (s ∷ [])
    ∙ ap (λ (l : List BoardEvent). run_events cast steps ++ l)
    (append-nil (event_in (after_steps steps (initial_state cast)) s) ∙ ap (λ (o : Option MachineState). event_in o s) is)

-- callers that are one process are one
pub same_process : (c d : Caller) → process_for c ≡ process_for d → c ≡ d
same_process c d is = search arith

-- an option that is None has no value
pub not_some : {X : Type 0} (o : Option X) → o ≡ None → IsSome o → ⊥
not_some o e p = search (arith, false≢true, none-some)

-- a changed list is as long
length_change : (k : ℕ) (f : CallRecord → CallRecord) (xs : List CallRecord) → length (change_at k f xs) ≡ length xs
length_change k f [] = refl
length_change zero f (x ∷ xs) = refl
length_change (suc k) f (x ∷ xs) = ap suc (length_change k f xs)

-- what a caller has under way in a call that was invoked at this place
abbrev WayOf : List BoardEvent → CallRecord → ℕ → Type 0
WayOf es a p = HasUnderWay es (process_for a.caller) (Some ((caller_number a.caller, a.call), p))

-- a call among those placed is one of these, with its reply; it was invoked at its first place, and replied to at its last, after n entries
pub record IsPlaced (calls : List CallRecord) (places : List ℕ) (now n : ℕ) (d : Done) : Type 0 where
  pub call : CallRecord
  pub at : slice_get calls d.turn ≡ Some call
  pub place : slice_get places d.turn ≡ Some d.call.first_index
  pub decided : IsDecided call d.call.point d.call.reply
  pub asks : (d.seat ≡ process_for call.caller) × (d.call.number ≡ caller_number call.caller) × (d.call.call ≡ call.call)
  pub began : d.call.begun ≡ call.begun
  pub times : (d.call.first_index ≤ d.call.last_index) × (d.call.last_index ≤ now)
  pub fits : Fits d
  pub ended : d.call.ended ≤ n

-- a response is that of an ended call
pub record IsResponse (es : List BoardEvent) (calls : List CallRecord) (places : List ℕ) (n process : ℕ) (reply : Reply) : Type 0 where
  pub number : ℕ
  pub place : ℕ
  pub call : CallRecord
  pub at : slice_get calls number ≡ Some call
  pub invoked : slice_get places number ≡ Some place
  pub ended : IsSome call.ended
  pub replied : call.reply ≡ Some reply
  pub process_is : process_for call.caller ≡ process
  pub made : IsOperationAt es n (operation_by call place reply)

-- it is still one, if it is there, as time goes on
placed_in : {calls calls' : List CallRecord} {places places' : List ℕ} {now now' n n' : ℕ} (d : Done) (s : IsPlaced calls places now n d) → now ≤ now' → n ≤ n'
    → slice_get calls' d.turn ≡ Some s.call → slice_get places' d.turn ≡ Some d.call.first_index → IsPlaced calls' places' now' n' d
placed_in d s later more at invoked = search (arith, s.call, s.decided, s.asks, s.began, s.times, s.fits, s.ended)

response_in : {es es' : List BoardEvent} {calls calls' : List CallRecord} {places places' : List ℕ} {n process : ℕ} {reply : Reply} (s : IsResponse es calls places n process reply)
    → slice_get calls' s.number ≡ Some s.call → slice_get places' s.number ≡ Some s.place → IsOperationAt es' n (operation_by s.call s.place reply)
    → IsResponse es' calls' places' n process reply
response_in s at invoked made = search (arith, s.number, s.place, s.call, s.ended, s.replied, s.process_is)

-- an ended call is an operation, with its response not before it was replied to
abbrev pub IsMadeOf : List BoardEvent → List Done → ℕ → CallRecord → ℕ → Reply → Type 0
IsMadeOf es list i a p reply = (n : ℕ) × IsOperationAt es n (operation_by a p reply) × ((q : ℕ) (d : Done) → slice_get list q ≡ Some d → d.turn ≡ i → d.call.last_index ≤ n)

-- the events tell of these calls, which were invoked at these places, and those that have their replies are placed; the history has n entries
pub record Told (es : List BoardEvent) (list : List Done) (calls : List CallRecord) (n : ℕ) : Type 0 where
  pub places : List ℕ
  pub long : length places ≡ length calls
  pub below : (i p : ℕ) → slice_get places i ≡ Some p → p < length es
  pub rise : (i j p q : ℕ) → i < j → slice_get places i ≡ Some p → slice_get places j ≡ Some q → p < q
  pub begun : (i p : ℕ) (a : CallRecord) → slice_get calls i ≡ Some a → slice_get places i ≡ Some p → slice_get es p ≡ Some (Invocation (process_for a.caller) (caller_number a.caller, a.call))
  pub only : (place process : ℕ) (asked : ℕ × Call) → slice_get es place ≡ Some (Invocation process asked) → (i : ℕ) × (slice_get places i ≡ Some place)
  pub busy : (i p : ℕ) (a : CallRecord) → slice_get calls i ≡ Some a → slice_get places i ≡ Some p → a.ended ≡ None → WayOf es a p
  pub idle : (c : Caller) → ((i : ℕ) (a : CallRecord) → slice_get calls i ≡ Some a → a.caller ≡ c → IsSome a.ended) → HasUnderWay es (process_for c) None
  pub completed : (i p : ℕ) (a : CallRecord) (reply : Reply) → slice_get calls i ≡ Some a → slice_get places i ≡ Some p → IsSome a.ended → a.reply ≡ Some reply
      → IsMadeOf es list i a p reply
  pub formed : IsWellFormed es
  pub responses : (place process : ℕ) (reply : Reply) → slice_get es place ≡ Some (Response process reply) → IsResponse es calls places place process reply
  pub are : Each (IsPlaced calls places (length es) n) list
  pub all : (i : ℕ) (a : CallRecord) → slice_get calls i ≡ Some a → IsSome a.reply → (q : ℕ) × (d : Done) × (slice_get list q ≡ Some d) × (d.turn ≡ i)
  pub pairs : Pairs list
  pub points : PointsFrom 0 list
  pub size_all : sizes list ≡ n
  pub later : (q : ℕ) (d : Done) (j p : ℕ) (b : CallRecord) → slice_get list q ≡ Some d → slice_get calls j ≡ Some b → slice_get places j ≡ Some p
      → d.call.last_index < p → d.call.ended ≤ b.begun

module _ (es : List BoardEvent) (list : List Done) (calls : List CallRecord) (n : ℕ) (t : Told es list calls n) where
  -- a call has its place
  pub place_at : (i : ℕ) (a : CallRecord) → slice_get calls i ≡ Some a → (p : ℕ) × (slice_get t.places i ≡ Some p)
  place_at i a at = let low = at_below calls i a at in let long = t.long in get_some t.places i (omega arith)

  -- a call begins
  module _ (c : Caller) (call : Call) (closed : (i : ℕ) (a : CallRecord) → slice_get calls i ≡ Some a → a.caller ≡ c → IsSome a.ended) where
    abbrev new : CallRecord
    new = record { caller = c; call = call; begun = n; point = None; reply = None; ended = None }

    abbrev event : BoardEvent
    event = Invocation (process_for c) (caller_number c, call)

    abbrev es2 : List BoardEvent
    es2 = es ++ Invocation (process_for c) (caller_number c, call) ∷ []

    abbrev calls2 : List CallRecord
    calls2 = calls ++ new ∷ []

    abbrev places2 : List ℕ
    places2 = t.places ++ length es ∷ []

    -- the new call has the last place
    new_place : (i p : ℕ) → i ≡ length calls → slice_get places2 i ≡ Some p → length es ≡ p
    new_place i p is place =
        let long = t.long in
        let here : i ≡ length t.places = omega arith in
        same_Some (length es) p (sym (at_end t.places (length es)) ∙ (ap (slice_get places2) (sym here) ∙ place))

    -- an old call keeps its place
    old_place : (i p : ℕ) → i < length calls → slice_get places2 i ≡ Some p → slice_get t.places i ≡ Some p
    old_place i p low at = let long = t.long in get_back t.places (length es ∷ []) i p (omega arith) at

    pub told_begin : Told es2 list calls2 n
    told_begin = record {
      places = places2;
      long = let p = length_push t.places (length es) in let q = length_push calls new in let long = t.long in omega arith;
      below = search (arith, length_push, at_either, t.places, t.below);
      rise = λ i j p q less at bt. elim (at_either t.places (length es) j q bt) [
        | inl u ↦ let low = u.0 in t.rise i j p q less (get_back t.places (length es ∷ []) i p (omega arith) at) u.1
        | inr u ↦ let last = u.0 in let is = u.1 in let low = t.below i p (get_back t.places (length es ∷ []) i p (omega arith) at) in omega arith
      ];
      begun = λ i p a at place. elim (at_either calls new i a at) [
        | inl u ↦ at_longer es (event ∷ []) p (Invocation (process_for a.caller) (caller_number a.caller, a.call)) (t.begun i p a u.1 (old_place i p u.0 place))
        | inr u ↦ subst (λ (z : CallRecord). slice_get es2 p ≡ Some (Invocation (process_for z.caller) (caller_number z.caller, z.call))) u.1
            (ap (slice_get es2) (sym (new_place i p u.0 place)) ∙ at_end es event)
      ];
      only = λ place process asked at. elim (at_either es event place (Invocation process asked) at) [
        | inl u ↦ let s = t.only place process asked u.1 in (s.0, at_longer t.places (length es ∷ []) s.0 place s.1)
        | inr u ↦ (length t.places, at_end t.places (length es) ∙ ap (λ (n : ℕ). Some n) (sym u.0))
      ];
      busy = λ i p a at place none. elim (at_either calls new i a at) [
        | inl u ↦ under_way_other es event (process_for a.caller) (Some ((caller_number a.caller, a.call), p))
            (λ same. not_some a.ended none (closed i a u.1 (sym (same_process c a.caller same)))) (t.busy i p a u.1 (old_place i p u.0 place) none)
        | inr u ↦ subst (λ (z : CallRecord). WayOf es2 z p) u.1
            (subst (λ (m : ℕ). WayOf es2 new m) (new_place i p u.0 place) (under_way_invoked es (process_for c) (caller_number c, call)))
      ];
      idle = λ d all. elim (same_caller d c) [
        | inl is ↦ absurd (not_some new.ended refl (all (length calls) new (at_end calls new) (sym is)))
        | inr not ↦ under_way_other es event (process_for d) None (λ same. not (sym (same_process c d same))) (t.idle d (λ i a at own. all i a (at_longer calls (new ∷ []) i a at) own))
      ];
      completed = λ i p a reply at place ended replied. elim (at_either calls new i a at) [
        | inl u ↦
            let s = t.completed i p a reply u.1 (old_place i p u.0 place) ended replied in
            (s.0, longer es (event ∷ []) s.0 (operation_by a p reply) s.1, s.2)
        | inr u ↦ absurd (not_some a.ended (ap (λ (z : CallRecord). z.ended) (sym u.1)) ended)
      ];
      formed = well_formed_next es event t.formed (t.idle c closed);
      responses = λ place process reply at. elim (at_either es event place (Response process reply) at) [
        | inl u ↦
            let s = t.responses place process reply u.1 in
            response_in s (at_longer calls (new ∷ []) s.number s.call s.at) (at_longer t.places (length es ∷ []) s.number s.place s.invoked)
            (longer es (event ∷ []) place (operation_by s.call s.place reply) s.made)
        | inr u ↦ absurd (no_response (process_for c) process (caller_number c, call) reply u.1)
      ];
      are = λ q d at.
          let s = t.are q d at in
          let push = length_push es event in
          placed_in d s (omega arith) (le_refl n) (at_longer calls (new ∷ []) d.turn s.call s.at) (at_longer t.places (length es ∷ []) d.turn d.call.first_index s.place);
      all = λ i a at some. elim (at_either calls new i a at) [
        | inl u ↦ t.all i a u.1 some
        | inr u ↦ absurd (not_some a.reply (ap (λ (z : CallRecord). z.reply) (sym u.1)) some)
      ];
      pairs = t.pairs;
      points = t.points;
      size_all = t.size_all;
      later = λ q d j p b at bt place less. elim (at_either calls new j b bt) [
        | inl u ↦ t.later q d j p b at u.1 (old_place j p u.0 place) less
        | inr u ↦ subst (λ (z : CallRecord). d.call.ended ≤ z.begun) u.1 (t.are q d at).ended
      ];
    }

  -- a call, which has not ended
  module _ (k : ℕ) (call : CallRecord) (here : slice_get calls k ≡ Some call) (unended : call.ended ≡ None) where
    -- an ended call is another
    other_call : (i : ℕ) (a : CallRecord) → slice_get calls i ≡ Some a → IsSome a.ended → i ≢ k
    other_call i a at ended is = not_some a.ended (ap (λ (z : CallRecord). z.ended) (same_Some a call (sym at ∙ (ap (slice_get calls) is ∙ here))) ∙ unended) ended

    -- its caller ends it
    module _ (reply : Reply) (replied : call.reply ≡ Some reply)
        (only : (i : ℕ) (a : CallRecord) → slice_get calls i ≡ Some a → a.ended ≡ None → a.caller ≡ call.caller → i ≡ k) where
      abbrev ends : CallRecord → CallRecord
      ends = with_end n

      abbrev calls3 : List CallRecord
      calls3 = change_at k (with_end n) calls

      abbrev answer : BoardEvent
      answer = Response (process_for call.caller) reply

      abbrev es3 : List BoardEvent
      es3 = es ++ Response (process_for call.caller) reply ∷ []

      abbrev p0 : ℕ
      p0 = (place_at k call here).0

      -- it is an operation then
      made_now : IsOperationAt es3 (length es) (operation_by call p0 reply)
      made_now = operation_made es (process_for call.caller) reply (caller_number call.caller, call.call) p0 (t.busy k p0 call here (place_at k call here).1 unended).1

      made_at : (p : ℕ) (a : CallRecord) (r : Reply) → slice_get t.places k ≡ Some p → with_end n call ≡ a → a.reply ≡ Some r → IsOperationAt es3 (length es) (operation_by a p r)
      made_at p a r place is gets =
          let p_is : p0 ≡ p = same_Some p0 p (sym (place_at k call here).1 ∙ place) in
          let r_is : reply ≡ r = same_Some reply r (sym replied ∙ (ap (λ (z : CallRecord). z.reply) is ∙ gets)) in
          subst (λ (z : CallRecord). IsOperationAt es3 (length es) (operation_by z p r)) is
          (subst (λ (m : ℕ). IsOperationAt es3 (length es) (operation_by call m r)) p_is
          (subst (λ (z : Reply). IsOperationAt es3 (length es) (operation_by call p0 z)) r_is made_now))

      placed_still : (d : Done) → IsPlaced calls t.places (length es) n d → IsPlaced calls3 t.places (length es3) n d
      placed_still d s = let push = length_push es answer in elim (cases_eq d.turn k) [
        | inl is ↦
            let same : call ≡ s.call = same_Some call s.call (sym here ∙ (ap (slice_get calls) (sym is) ∙ s.at)) in
            let at : slice_get calls3 d.turn ≡ Some (with_end n s.call)
            = ap (slice_get calls3) is ∙ (change_at_here k ends calls call here ∙ ap (λ (z : CallRecord). Some (with_end n z)) same) in
            search (arith, at, s.place, s.decided, s.asks, s.began, s.times, s.fits, s.ended)
        | inr not ↦ placed_in d s (omega arith) (le_refl n) (change_at_else k ends calls d.turn s.call not s.at) s.place
      ]

      response_now : (place process : ℕ) (r : Reply) → place ≡ length es → answer ≡ Response process r → IsResponse es3 calls3 t.places place process r
      response_now place process r last is =
          let r_is : reply ≡ r = same_reply (process_for call.caller) process reply r is in
          let gets : call.reply ≡ Some r = replied ∙ ap (λ (z : Reply). Some z) r_is in
          record {
            number = k;
            place = p0;
            call = with_end n call;
            at = change_at_here k ends calls call here;
            invoked = (place_at k call here).1;
            ended = refl;
            replied = gets;
            process_is = ap process_of is;
            made = subst (λ (m : ℕ). IsOperationAt es3 m (operation_by (with_end n call) p0 r)) (sym last) (made_at p0 (with_end n call) r (place_at k call here).1 refl gets);
          }

      pub told_end : Told es3 list calls3 n
      told_end = record {
        places = t.places;
        long = t.long ∙ sym (length_change k ends calls);
        below = λ i p at. let push = length_push es answer in let low = t.below i p at in omega arith;
        rise = t.rise;
        begun = λ i p a at place. at_longer es (answer ∷ []) p (Invocation (process_for a.caller) (caller_number a.caller, a.call)) (elim (get-change_at k ends calls i a at) [
          | inl u ↦ subst (λ (z : CallRecord). slice_get es p ≡ Some (Invocation (process_for z.caller) (caller_number z.caller, z.call))) u.3
              (t.begun i p u.1 (ap (slice_get calls) u.0 ∙ u.2) place)
          | inr u ↦ t.begun i p a u.1 place
        ]);
        only = λ place process asked at. elim (at_either es answer place (Invocation process asked) at) [
          | inl u ↦ t.only place process asked u.1
          | inr u ↦ absurd (no_response process (process_for call.caller) asked reply (sym u.1))
        ];
        busy = λ i p a at place none. elim (get-change_at k ends calls i a at) [
          | inl u ↦ absurd (not_some a.ended none (subst (λ (z : CallRecord). IsSome z.ended) u.3 refl))
          | inr u ↦ under_way_other es answer (process_for a.caller) (Some ((caller_number a.caller, a.call), p))
              (λ same. u.0 (only i a u.1 none (sym (same_process call.caller a.caller same)))) (t.busy i p a u.1 place none)
        ];
        idle = λ d all. elim (same_caller d call.caller) [
          | inl is ↦ subst (λ (z : Caller). HasUnderWay es3 (process_for z) None) (sym is) (under_way_none es (process_for call.caller) reply)
          | inr not ↦ under_way_other es answer (process_for d) None (λ same. not (sym (same_process call.caller d same)))
              (t.idle d (λ i a at own. all i a (change_at_else k ends calls i a
              (λ is. not (sym own ∙ ap (λ (z : CallRecord). z.caller) (same_Some a call (sym at ∙ (ap (slice_get calls) is ∙ here))))) at) own))
        ];
        completed = λ i p a r at place ended gets. elim (get-change_at k ends calls i a at) [
          | inl u ↦
              let x_is : call ≡ u.1 = same_Some call u.1 (sym here ∙ u.2) in
              let a_is : with_end n call ≡ a = ap (with_end n) x_is ∙ u.3 in (
                length es,
                made_at p a r (ap (slice_get t.places) (sym u.0) ∙ place) a_is gets,
                λ q d bt turn. (t.are q d bt).times.1,
              )
          | inr u ↦
              let s = t.completed i p a r u.1 place ended gets in
              (s.0, longer es (answer ∷ []) s.0 (operation_by a p r) s.1, s.2)
        ];
        formed = well_formed_next es answer t.formed (t.busy k p0 call here (place_at k call here).1 unended).0;
        responses = λ place process r at. elim (at_either es answer place (Response process r) at) [
          | inl u ↦
              let s = t.responses place process r u.1 in
              response_in s (change_at_else k ends calls s.number s.call (other_call s.number s.call s.at s.ended) s.at) s.invoked
              (longer es (answer ∷ []) place (operation_by s.call s.place r) s.made)
          | inr u ↦ response_now place process r u.0 u.1
        ];
        are = λ q d at. placed_still d (t.are q d at);
        all = λ i a at some. elim (get-change_at k ends calls i a at) [
          | inl u ↦ t.all i u.1 (ap (slice_get calls) u.0 ∙ u.2) (subst (λ (z : CallRecord). IsSome z.reply) (sym u.3) some)
          | inr u ↦ t.all i a u.1 some
        ];
        pairs = t.pairs;
        points = t.points;
        size_all = t.size_all;
        later = λ q d j p b at bt place less. elim (get-change_at k ends calls j b bt) [
          | inl u ↦ subst (λ (z : CallRecord). d.call.ended ≤ z.begun) u.3 (t.later q d j p u.1 at (ap (slice_get calls) u.0 ∙ u.2) place less)
          | inr u ↦ t.later q d j p b at u.1 place less
        ];
      }

      -- which leaves the places
      pub same_places : told_end.places ≡ t.places
      unfolding told_end
      same_places = refl

    -- it gets its reply, with this point
    module _ (reply : Reply) (point : ℕ) (unreplied : call.reply ≡ None) (early : call.begun ≤ point) (late : point ≤ n) (last : accepts reply ≡ true → point ≡ n) where
      abbrev gets : CallRecord → CallRecord
      gets = with_reply point reply

      abbrev calls4 : List CallRecord
      calls4 = change_at k (with_reply point reply) calls

      abbrev n4 : ℕ
      n4 = n + cond (accepts reply) 1 0

      abbrev p4 : ℕ
      p4 = (place_at k call here).0

      abbrev r : Done
      r = record {
        seat = process_for call.caller;
        turn = k;
        call = record { number = caller_number call.caller; call = call.call; reply = reply; point = point; first_index = p4; last_index = length es; begun = call.begun; ended = n4 };
      }

      -- a call that is placed is another
      old_turn : (q : ℕ) (d : Done) → slice_get list q ≡ Some d → d.turn ≢ k
      old_turn q d at is =
          let s = t.are q d at in
          let same : s.call ≡ call = same_Some s.call call (sym s.at ∙ (ap (slice_get calls) is ∙ here)) in
          none-some d.call.reply (sym unreplied ∙ (ap (λ (z : CallRecord). z.reply) (sym same) ∙ s.decided.1))

      fits_now : (b : Bool) → accepts reply ≡ b → (point ≤ n + cond b 1 0) × (accepts reply ≡ true → point < n + cond b 1 0)
      fits_now b is = search (arith, last, false≢true)

      placed_old : (q : ℕ) (d : Done) → slice_get list q ≡ Some d → IsPlaced calls4 t.places (length es) n4 d
      placed_old q d at =
          let s = t.are q d at in
          placed_in d s (le_refl (length es)) (omega arith) (change_at_else k gets calls d.turn s.call (old_turn q d at) s.at) s.place

      placed_new : IsPlaced calls4 t.places (length es) n4 r
      placed_new =
          let low = t.below k p4 (place_at k call here).1 in
          let f = fits_now (accepts reply) refl in
          record {
            call = with_reply point reply call;
            at = change_at_here k gets calls call here;
            place = (place_at k call here).1;
            decided = (refl, refl);
            asks = (refl, refl, refl);
            began = refl;
            times = (omega arith, le_refl (length es));
            fits = record { late = f.0; made = f.1 };
            ended = le_refl n4;
          }

      before_new : Each (λ e. Before e r) list
      before_new q e at = let s = (t.are q e at).times in record { first = omega (arith, s.0, s.1); apart = λ seat turn. old_turn q e at turn }

      after_new : Each (λ e. r.call.point < e.call.ended → Before r e) list
      after_new q e at less = record {
        first = elim (cases_lt e.call.last_index p4) [
          | inl over ↦ let began = t.later q e k p4 call at here (place_at k call here).1 over in absurd (omega arith)
          | inr not ↦ not
        ];
        apart = λ seat turn. old_turn q e at (sym turn);
      }

      pub told_reply : Told es (place r list) calls4 n4
      told_reply = record {
        places = t.places;
        long = t.long ∙ sym (length_change k gets calls);
        below = t.below;
        rise = t.rise;
        begun = search (arith, get-change_at, t.begun);
        only = t.only;
        busy = λ i p a at place none. elim (get-change_at k gets calls i a at) [
          | inl u ↦ subst (λ (z : CallRecord). WayOf es z p) u.3
              (t.busy i p u.1 (ap (slice_get calls) u.0 ∙ u.2) place (ap (λ (z : CallRecord). z.ended) u.3 ∙ none))
          | inr u ↦ t.busy i p a u.1 place none
        ];
        idle = λ c all. t.idle c (λ i a at own. elim (cases_eq i k) [
          | inl is ↦
              let a_is : call ≡ a = same_Some call a (sym here ∙ (ap (slice_get calls) (sym is) ∙ at)) in
              subst (λ (z : CallRecord). IsSome z.ended) a_is
              (all k (gets call) (change_at_here k gets calls call here) (ap (λ (z : CallRecord). z.caller) a_is ∙ own))
          | inr not ↦ all i a (change_at_else k gets calls i a not at) own
        ]);
        completed = λ i p a s at place ended replied. elim (get-change_at k gets calls i a at) [
          | inl u ↦ absurd (other_call i u.1 (ap (slice_get calls) u.0 ∙ u.2) (subst (λ (z : CallRecord). IsSome z.ended) (sym u.3) ended) u.0)
          | inr u ↦
              let m = t.completed i p a s u.1 place ended replied in (
                m.0,
                m.1,
                λ q d bt turn. elim (place_from r list q d bt) [
                  | inl same ↦ absurd (u.0 (sym turn ∙ ap (λ (z : Done). z.turn) (sym same)))
                  | inr v ↦ m.2 v.0 d v.1 turn
                ],
              )
        ];
        formed = t.formed;
        responses = λ place process s at.
            let m = t.responses place process s at in
            response_in m (change_at_else k gets calls m.number m.call (other_call m.number m.call m.at m.ended) m.at) m.invoked m.made;
        are = λ q d at. elim (place_from r list q d at) [
          | inl same ↦ subst (IsPlaced calls4 t.places (length es) n4) same placed_new
          | inr u ↦ placed_old u.0 d u.1
        ];
        all = λ i a at some. elim (get-change_at k gets calls i a at) [
          | inl u ↦ let v = place_new r list in (v.0, r, v.1, sym u.0)
          | inr u ↦ let v = t.all i a u.1 some in let w = place_old r list v.0 v.1 v.2 in (w.0, v.1, w.1, v.3)
        ];
        pairs = pairs_place r list 0 t.points (λ q e at. (t.are q e at).fits) before_new after_new t.pairs;
        points = let all = t.size_all in points_place r list 0 t.points (omega arith) (omega arith) (λ so. let end = last so in omega arith);
        size_all = let all = t.size_all in let sum = sizes_place r list in omega arith;
        later = search (arith, place_from, t.below, get-change_at, t.later);
      }

-- before any step there are no events and no calls
pub told_none : Told [] [] [] 0
told_none = record {
  places = [];
  long = refl;
  below = λ i p at. absurd (none-some p at);
  rise = λ i j p q less at bt. absurd (none-some p at);
  begun = λ i p a at place. absurd (none-some a at);
  only = λ place process asked at. absurd (none-some (Invocation process asked) at);
  busy = λ i p a at place none. absurd (none-some a at);
  idle = λ c all. refl;
  completed = λ i p a reply at place ended replied. absurd (none-some a at);
  formed = λ place e at. absurd (none-some e at);
  responses = λ place process reply at. absurd (none-some (Response process reply) at);
  are = λ q d at. absurd (none-some d at);
  all = λ i a at some. absurd (none-some a at);
  pairs = tt;
  points = tt;
  size_all = refl;
  later = λ q d j p b at bt place less. absurd (none-some d at);
}

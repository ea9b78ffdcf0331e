-- What every step of the machine keeps, and so every run: its history explains its calls.
use Rattle.ucl_steps.proofs.Common.{◌≡◌, ◌≢◌, ℕ, zero, suc, List, ◌∷◌, ◌++◌, length, Option, Some, None, inl, inr, refl, sym, ap, ◌∙◌, subst, arith}
use Rattle.ucl_steps.proofs.Common.{[], slice_get, IsSome, none-some, same_Some, false≢true, Entry}
use Rattle.ucl_steps.proofs.Common.{board_of, IsLegal, IsPrefix, at_longer, at_end, at_either, begins_length, begins_same, Caller, Call, Step}
use Rattle.ucl_steps.proofs.Common.{Begin, End, CallRecord, Reply, CallerState, Idle, Answered, Callers, MachineState, held_by, set_held, with_held}
use Rattle.ucl_steps.proofs.Common.{change_at, with_end, legal_take, versions, word_after, ◌+◌, ◌-◌, ◌<◌, ◌≤◌, ◌==◌, Bool, true, false, cond}
use Rattle.ucl_steps.proofs.Common.{take, Err, le_refl, get_or, slice_index, slice_set, cond_some, cases_lt, eqb-true, eqb-false, and_parts, leb-true}
use Rattle.ucl_steps.proofs.Common.{length_push, get_or_append_left, get_or_push, length-take-le, take-append_seam, take-length, MatchRecord, EventCall}
use Rattle.ucl_steps.proofs.Common.{Refusal, Stale, refusal_of, after, word_of, record_at, word_at, version_of, match_after, MayFollow, sequential_reply}
use Rattle.ucl_steps.proofs.Common.{attempted, reading_of, same_number, may_attempt, Reporter, Event, Reading, Look, Swap, First, Second, Accepted, Refused}
use Rattle.ucl_steps.proofs.Common.{Copied, Holding, Collecting, Checking, GoesOn, Answers, by_rules, may_begin, after_begin, after_step_holding, caller_of}
use Rattle.ucl_steps.proofs.Common.{Wanting, Within, with_reply, after_outcome, stored, state_after_first, after_reply, may_none}
use Rattle.ucl_steps.proofs.Common.{replicate, option_and_then_some, Cast, initial_state, after_step, after_steps, WordsAreOfTheHistory}
use Rattle.ucl_steps.proofs.Histories.{get-change_at, change_at_here, change_at_else, same_caller, held_here, held_else}
use Rattle.ucl_steps.proofs.Histories.{number_expected, legal_snoc, read_back, number_next, squeezed, board_get, board_next, board_from}
use Rattle.ucl_steps.proofs.Calls.{Explains, IsSequential, in_call, Sees, Knows, sees_later, explained_later, Asks, Offers, Loaded, AreAt, Checks}
use Rattle.ucl_board.proofs.HistoryTheorems.{is_stale, board_none}
use Rattle.ucl_steps.specs.declared.trace.Trace.{Trace}
use Rattle.ucl_steps.specs.Traces.{IsLeftBy}

-- who made a call, and when it began and ended
pub record Time : Type 0 where
  pub caller : Caller
  pub begun : ℕ
  pub ended : Option ℕ

abbrev pub time_of : CallRecord → Time
time_of c = record { caller = c.caller; begun = c.begun; ended = c.ended }

-- caller c is in call k, by what it holds
pub record IsHeld (cs : Callers) (c : Caller) (k : ℕ) : Type 0 where
  pub holds : CallerState
  pub held_is : held_by cs c ≡ Some holds
  pub in_it : in_call holds ≡ Some k

-- the invariant of runs of the machine, for the state w that steps lead to: the history is legal, gives the words, and explains the calls,
-- none of which began later; and a caller is in a call exactly if it is its own and has not ended
pub record Keeps (w : MachineState) : Type 0 where
  pub legal : IsLegal w.history
  pub words : w.words ≡ board_of w.history
  pub explained : (i : ℕ) (a : CallRecord) → slice_get w.calls i ≡ Some a → Explains w.history a a.point a.reply
  pub past : (i : ℕ) (a : CallRecord) → slice_get w.calls i ≡ Some a → a.begun ≤ length w.history
  pub knows : (c : Caller) (x : CallerState) (k : ℕ) → held_by w.callers c ≡ Some x → in_call x ≡ Some k → Knows w.history w.calls c x k
  pub unended : (i : ℕ) (a : CallRecord) → slice_get w.calls i ≡ Some a → a.ended ≡ None → IsHeld w.callers a.caller i

-- a list of calls with one changed to itself is the list
change_at_same : (k : ℕ) (xs : List CallRecord) → change_at k (λ a. a) xs ≡ xs
change_at_same k [] = refl
change_at_same zero (a ∷ xs) = refl
change_at_same (suc k) (a ∷ xs) = ap (λ (z : List CallRecord). a ∷ z) (change_at_same k xs)

-- a call that a history explains, and that has its reply, is still explained if it ends now
explained_closed : (h : List Entry) (c : CallRecord) (p : Option ℕ) (r : Option Reply) → Explains h c p r → IsSome r → Explains h (with_end (length h) c) p r
explained_closed h c p r s some = search (arith, false≢true)

-- caller c, which holds x, takes one more step
module _ (w : MachineState) (kept : Keeps w) (c : Caller) (x : CallerState) (holds : held_by w.callers c ≡ Some x) where
  -- what callers know, where this one then holds y, and knows what that says
  knows_all : (h' : List Entry) (calls : List CallRecord) (y : CallerState) → IsPrefix w.history h'
      → ((d : Caller) (k : ℕ) (b : CallRecord) → d ≢ c → slice_get w.calls k ≡ Some b → b.caller ≡ d → slice_get calls k ≡ Some b)
      → ((k : ℕ) → in_call y ≡ Some k → Knows h' calls c y k)
      → (d : Caller) (z : CallerState) (k : ℕ) → held_by (set_held y c w.callers) d ≡ Some z → in_call z ≡ Some k → Knows h' calls d z k
  knows_all h' calls y b same own d z k at within = elim (same_caller d c) [
    | inl is ↦ search (arith, same_Some, held_here, in_call)
    | inr not ↦
        let t = kept.knows d z k (sym (held_else w.callers c d y x holds not) ∙ at) within in
        record { call = t.call; at = same d k t.call not t.at t.caller; caller = t.caller; unended = t.unended; sees = sees_later w.history h' b t.call z t.sees }
  ]

  -- a call that this caller was not in is held as before
  still_held : (i : ℕ) (a : CallRecord) (y : CallerState) → slice_get w.calls i ≡ Some a → a.ended ≡ None → in_call x ≢ Some i → IsHeld (set_held y c w.callers) a.caller i
  still_held i a y at none other = let o = kept.unended i a at none in search (arith, same_caller a.caller c, in_call, same_Some, held_else)

  -- one step within a call
  module _ (k : ℕ) (within : in_call x ≡ Some k) where
    abbrev pub mine : Knows w.history w.calls c x k
    mine = kept.knows c x k holds within

    -- a call of another caller is not this one
    other_call : (d : Caller) (i : ℕ) (b : CallRecord) → d ≢ c → slice_get w.calls i ≡ Some b → b.caller ≡ d → i ≢ k
    other_call d i b not at is same = search (arith, same_Some b (kept.knows c x k holds within).call (sym at ∙ (ap (slice_get w.calls) same ∙ (kept.knows c x k holds within).at)))

    -- a step within a call keeps what a run keeps, if it changes only the words, the history and this call
    pub moved : (y : CallerState) (h' : List Entry) (words' : List ℕ) (f : CallRecord → CallRecord) → IsPrefix w.history h' → IsLegal h' → words' ≡ board_of h'
        → ((a : CallRecord) → time_of (f a) ≡ time_of a)
        → Explains h' (f mine.call) (f mine.call).point (f mine.call).reply × Sees h' (f mine.call) y → in_call y ≡ Some k
        → Keeps (with_held y c (record w { words = words'; history = h'; calls = change_at k f w.calls }))
    moved y h' words' f b legal words timed told inside =
        let m = kept.knows c x k holds within in
        let calls' = change_at k f w.calls in
        record {
          legal = legal;
          words = words;
          explained = λ i a at. search (arith, get-change_at k f w.calls i a at, same_Some, told.0, explained_later w.history h' b, kept.explained i);
          past = λ i a at. let long = begins_length w.history h' b in elim (get-change_at k f w.calls i a at) [
            | inl u ↦ let begun = ap (λ (t : Time). t.begun) (timed u.1) in let is = ap (λ (z : CallRecord). z.begun) u.3 in let low = kept.past k u.1 u.2 in omega arith
            | inr u ↦ let low = kept.past i a u.1 in omega arith
          ];
          knows = knows_all h' calls' y b (λ e j a other there own. change_at_else k f w.calls j a (other_call e j a other there own) there) (search (arith, same_Some, change_at_here));
          unended = λ i a at none. search (arith, get-change_at, held_here, same_Some, still_held);
        }

    -- one step that leaves the calls
    pub stayed : (y : CallerState) → Sees w.history mine.call y → in_call y ≡ Some k → Keeps (with_held y c w)
    stayed y told inside =
        subst (λ (cs : List CallRecord). Keeps (with_held y c (record w { calls = cs }))) (change_at_same k w.calls)
        (moved y w.history w.words (λ a. a) (begins_same w.history) kept.legal kept.words (λ a. refl)
        (kept.explained k mine.call mine.at, told) inside)

    -- the end of a call
    pub ended : Sees w.history (kept.knows c x k holds within).call (Answered k)
        → Keeps (with_held Idle c (record w { calls = change_at k (with_end (length w.history)) w.calls }))
    ended answered =
        let m = kept.knows c x k holds within in
        let n = length w.history in
        let f = with_end n in
        let calls' = change_at k f w.calls in
        record {
          legal = kept.legal;
          words = kept.words;
          explained = search (arith, get-change_at, same_Some, explained_closed);
          past = λ i a at. elim (get-change_at k f w.calls i a at) [
            | inl u ↦ let is = ap (λ (z : CallRecord). z.begun) u.3 in let low = kept.past k u.1 u.2 in omega arith
            | inr u ↦ kept.past i a u.1
          ];
          knows = knows_all w.history calls' Idle (begins_same w.history) (λ e j a other there own. change_at_else k f w.calls j a (other_call e j a other there own) there)
              (λ j at. absurd (none-some j at));
          unended = λ i a at none. search (arith, get-change_at, none-some, still_held, same_Some);
        }

  -- a call begins
  pub begun : x ≡ Idle → (call : Call) (y : CallerState) → Sees w.history (record { caller = c; call = call; begun = length w.history; point = None; reply = None; ended = None }) y
      → in_call y ≡ Some (length w.calls)
      → Keeps (with_held y c (record w { calls = w.calls ++ record { caller = c; call = call; begun = length w.history; point = None; reply = None; ended = None } ∷ [] }))
  begun idle call y sees inside =
      let n = length w.history in
      let new : CallRecord = record { caller = c; call = call; begun = n; point = None; reply = None; ended = None } in
      let calls' = w.calls ++ new ∷ [] in
      record {
        legal = kept.legal;
        words = kept.words;
        explained = search (arith, at_either);
        past = λ i a at. elim (at_either w.calls new i a at) [
          | inl u ↦ kept.past i a u.1
          | inr u ↦ subst (λ (z : CallRecord). z.begun ≤ n) u.1 (le_refl n)
        ];
        knows = knows_all w.history calls' y (begins_same w.history) (λ e j a other there own. at_longer w.calls (new ∷ []) j a there) (search (arith, same_Some, at_end));
        unended = λ i a at none. search (arith, at_either, in_call, held_here, still_held, none-some);
      }

-- the entry of this event by reporter r
abbrev entered : EventCall → ℕ → Entry
entered e r = record { game = e.game; reporter = r; kind = e.kind }

-- reporters that are the same caller have the same number
pub same_reporter : (n m : ℕ) → Reporter n ≡ Reporter m → n ≡ m
same_reporter n m e = cc

-- a reading of the board after the first k entries of a history, with version k, is the reply of the board of one thread after k entries
sequential_reading : (h : List Entry) (k : ℕ) (c : Caller) (board : List ℕ) (version : ℕ) → board ≡ board_of (take k h) → version ≡ k
    → IsSequential h k c Reading (Copied (record { board = board; version = version }))
sequential_reading h k c board version same is = search arith

-- a state that has what a run keeps
module _ (w : MachineState) (kept : Keeps w) where
  abbrev now : ℕ
  now = length w.history

  -- a word that the board has now
  pub word_now : (g : ℕ) → (1 ≤ g) × (g ≤ 12) → word_at w.words g ≡ word_of (match_after w.history g)
  word_now g within = ap (λ (z : List ℕ). slice_index z (g - 1)) kept.words ∙ word_after w.history g within

  record_now : (g : ℕ) → (1 ≤ g) × (g ≤ 12) → record_at (word_at w.words g) ≡ match_after w.history g
  record_now g within = ap record_at (word_now g within) ∙ read_back w.history g kept.legal

  pub begun_before : (k : ℕ) (a : CallRecord) → slice_get w.calls k ≡ Some a → a.begun ≤ now
  begun_before k a at = kept.past k a at

  -- a refusal at the present place
  refused_kept : (c : Caller) (k : ℕ) (e : EventCall) (x : CallerState) (holds : held_by w.callers c ≡ Some x) (within : in_call x ≡ Some k) (refusal : Refusal)
      → Asks (kept.knows c x k holds within).call e
      → refusal_of (match_after w.history e.game) e.expected e.kind ≡ Some refusal → Keeps (after_reply c k now (Refused refusal) w)
  refused_kept c k e x holds within refusal asks refuses =
      let m = kept.knows c x k holds within in
      let h = w.history in
      let f = with_reply now (Refused refusal) in
      let base : sequential_reply (take now h) e ≡ Err refusal = search (arith, take-length, refuses) in
      let early = begun_before k m.call m.at in
      let told : Explains h (f m.call) (Some now) (Some (Refused refusal)) = search (arith, early, le_refl, base, m.unended, asks) in
      moved w kept c x holds k within (Answered k) h w.words f (begins_same h) kept.legal kept.words (λ a. refl) (told, refl) refl

  -- a look keeps what a run keeps, whether the rules refuse the event or not
  look_kept : (n k : ℕ) (e : EventCall) (holds : held_by w.callers (Reporter n) ≡ Some (Wanting k e)) (o : Option Refusal) → refusal_of (record_at (word_at w.words e.game)) e.expected e.kind ≡ o
      → Keeps (after_outcome (Reporter n) k now (by_rules n e (word_at w.words e.game) o) w)
  look_kept n k e holds (Some refusal) is =
      let m = kept.knows (Reporter n) (Wanting k e) k holds refl in
      refused_kept (Reporter n) k e (Wanting k e) holds refl refusal m.sees
      (ap (λ (z : MatchRecord). refusal_of z e.expected e.kind) (sym (record_now e.game m.sees.game)) ∙ is)
  look_kept n k e holds None is =
      let m = kept.knows (Reporter n) (Wanting k e) k holds refl in
      let word = word_at w.words e.game in
      let new = word_of (after (record_at word) n e.kind) in
      let r_is : m.sees.reporter ≡ n = same_reporter m.sees.reporter n (sym m.sees.caller ∙ m.caller) in
      let offers : Offers w.history m.call e word new =
      record { asks = m.sees; place = now; within = le_refl now; found = search (arith, word_now e.game m.sees.game, take-length); accepted = is; next = search (arith, r_is) } in
      stayed w kept (Reporter n) (Wanting k e) holds k refl (Within k (Holding e word new)) offers refl

  -- the exchange of a report
  module _ (n k : ℕ) (e : EventCall) (old new : ℕ) (holds : held_by w.callers (Reporter n) ≡ Some (Within k (Holding e old new))) where
    -- an exchange that finds another word keeps what a run keeps, and leaves the report stale
    missed : (word_at w.words e.game == old) ≡ false → Keeps (after_reply (Reporter n) k now (Refused (Stale (record_at (word_at w.words e.game)).number)) w)
    missed differs =
        let m = kept.knows (Reporter n) (Within k (Holding e old new)) k holds refl in
        let o = m.sees in
        let h = w.history in
        let g = e.game in
        let game = o.asks.game in
        let then = read_back (take o.place h) g (legal_take h o.place kept.legal) in
        let number = number_expected (record_at old) e.expected e.kind o.accepted in
        let other = eqb-false (word_at w.words g) old differs in
        let stale : e.expected ≡ (match_after h g).number → ⊥ = λ is. search (arith, then, number, other, take-length, same_number h o.place now g, word_now g game, o.found) in
        search (arith, refused_kept, is_stale, record_now, o.asks)

    module _ (same : (word_at w.words e.game == old) ≡ true) where
      abbrev sees_it : Offers w.history (kept.knows (Reporter n) (Within k (Holding e old new)) k holds refl).call e old new
      sees_it = (kept.knows (Reporter n) (Within k (Holding e old new)) k holds refl).sees

      match_is : record_at old ≡ match_after w.history e.game
      match_is = ap record_at (sym (eqb-true (word_at w.words e.game) old same) ∙ word_now e.game sees_it.asks.game) ∙ read_back w.history e.game kept.legal

      accepted_now : refusal_of (match_after w.history e.game) e.expected e.kind ≡ None
      accepted_now = ap (λ (z : MatchRecord). refusal_of z e.expected e.kind) (sym match_is) ∙ sees_it.accepted

      -- the entry may follow, and makes the word that is to be put
      may_follow : MayFollow w.history (entered e n)
      may_follow =
          let m = kept.knows (Reporter n) (Within k (Holding e old new)) k holds refl in
          let r_is : sees_it.asks.reporter ≡ n = same_reporter sees_it.asks.reporter n (sym sees_it.asks.caller ∙ m.caller) in
          may_attempt w.history (attempted n e) kept.legal ((omega arith, omega arith), sees_it.asks.game) accepted_now

      new_is : new ≡ word_of (after (match_after w.history e.game) n e.kind)
      new_is = search (arith, same_reporter, match_is, kept.knows, sees_it.asks.reporter, sees_it.asks.caller, sees_it.next, e.kind)

      new_number : (record_at new).number ≡ (match_after w.history e.game).number + 1
      new_number = ap (λ (z : ℕ). (record_at z).number) new_is ∙ number_next w.history (entered e n) kept.legal may_follow

      -- an exchange that finds the word it expects keeps what a run keeps, and adds its entry
      won : Keeps (after_reply (Reporter n) k now (Accepted (record { number = (record_at new).number })) (stored n e new w))
      won =
          let m = kept.knows (Reporter n) (Within k (Holding e old new)) k holds refl in
          let o = m.sees in
          let h = w.history in
          let g = e.game in
          let h' = h ++ entered e n ∷ [] in
          let legal = legal_snoc h (entered e n) kept.legal may_follow in
          let words : slice_set w.words (g - 1) new ≡ board_of h' =
          ap (λ (z : List ℕ). slice_set z (g - 1) new) kept.words ∙ (ap (slice_set (board_of h) (g - 1)) new_is ∙ sym (board_next h (entered e n) kept.legal may_follow)) in
          let reply = Accepted (record { number = (record_at new).number }) in
          let f = with_reply now reply in
          let base : IsSequential h' now (Reporter n) (Event e) reply =
          search (arith, take-append_seam, accepted_now, new_number, at_end) in
          let long = length_push h (entered e n) in
          let early = begun_before k m.call m.at in
          let told : Explains h' (f m.call) (Some now) (Some reply) = search (arith, early, long, base, m.unended, m.caller, o.asks) in
          moved w kept (Reporter n) (Within k (Holding e old new)) holds k refl (Answered k) h' (slice_set w.words (g - 1) new) f (entered e n ∷ [], refl) legal words
          (λ a. refl) (told, refl) refl

    -- the exchange of a report keeps what a run keeps
    swap_kept : (b : Bool) → (word_at w.words e.game == old) ≡ b → Keeps (after_reply (Reporter n) k now
        (cond b (Accepted (record { number = (record_at new).number })) (Refused (Stale (record_at (word_at w.words e.game)).number))) (cond b (stored n e new w) w))
    swap_kept b is = search (arith, won, missed)

  word_at_place : (i : ℕ) → i < 12 → get_or w.words i 0 ≡ word_of (match_after (take now w.history) (i + 1))
  word_at_place i few = ap (λ (z : List ℕ). get_or z i 0) kept.words ∙ (board_get w.history i few ∙ ap (λ (z : List Entry). word_of (match_after z (i + 1))) (sym (take-length w.history)))

  -- a word that is loaded now is one of its match by now
  loaded_more : (loaded : List ℕ) → length loaded < 12 → Loaded w.history loaded now → Loaded w.history (loaded ++ slice_index w.words (length loaded) ∷ []) now
  loaded_more loaded few before i less =
      let long = length_push loaded (slice_index w.words (length loaded)) in
      search (arith, cases_lt i (length loaded), long, before i, get_or_append_left, le_refl now, word_at_place i, get_or_push)

  -- a load of a first collect keeps what a run keeps
  first_kept : (c : Caller) (k : ℕ) (loaded : List ℕ) (holds : held_by w.callers c ≡ Some (Within k (Collecting loaded))) (b : Bool)
      → (length (loaded ++ slice_index w.words (length loaded) ∷ []) == 12) ≡ b → Keeps (with_held
      (Within k (cond b (Checking (loaded ++ slice_index w.words (length loaded) ∷ []) 0 now) (Collecting (loaded ++ slice_index w.words (length loaded) ∷ [])))) c w)
  first_kept c k loaded holds b is =
      let m = kept.knows c (Within k (Collecting loaded)) k holds refl in
      let more = loaded ++ slice_index w.words (length loaded) ∷ [] in
      let long = length_push loaded (slice_index w.words (length loaded)) in
      let all = loaded_more loaded m.sees.few m.sees.loaded in
      let early = begun_before k m.call m.at in
      let sees : Sees w.history m.call (Within k (cond b (Checking more 0 now) (Collecting more))) = search (arith, eqb-true, eqb-false, m.sees, long, all, early) in
      stayed w kept c (Within k (Collecting loaded)) holds k refl (Within k (cond b (Checking more 0 now) (Collecting more))) sees refl

  -- the load of a second collect
  module _ (c : Caller) (k : ℕ) (words : List ℕ) (checked point : ℕ) (holds : held_by w.callers c ≡ Some (Within k (Checking words checked point))) where
    -- a load of a second collect that finds another word lets the reading begin anew
    start_again : Keeps (with_held (Within k (Collecting [])) c w)
    start_again =
        let m = kept.knows c (Within k (Checking words checked point)) k holds refl in
        stayed w kept c (Within k (Checking words checked point)) holds k refl (Within k (Collecting [])) (search (arith, m.sees)) refl

    -- a load of a second collect that finds its word again: one more was there at the point of the reading
    pub one_more : (slice_index w.words checked == slice_index words checked) ≡ true → AreAt w.history words (checked + 1) point
    one_more same i less =
        let o = (kept.knows c (Within k (Checking words checked point)) k holds refl).sees in
        elim (cases_lt i checked) [
          | inl l ↦ o.same i l
          | inr l ↦
              let t = o.loaded i (omega arith) in
              let there : get_or words i 0 ≡ get_or w.words i 0 = search (arith, eqb-true) in
              squeezed (i + 1) (get_or words i 0) w.history t.0 point now kept.legal t.1 o.late t.2 (there ∙ word_at_place i (omega arith))
        ]

    -- if it was not the twelfth, the reading goes on
    goes_on : (slice_index w.words checked == slice_index words checked) ≡ true → (checked == 11) ≡ false
        → Keeps (with_held (Within k (Checking words (checked + 1) point)) c w)
    goes_on same other =
        let m = kept.knows c (Within k (Checking words checked point)) k holds refl in
        let checks : Checks w.history m.call words (checked + 1) point = search (arith, eqb-false checked 11 other, m.sees, one_more same) in
        stayed w kept c (Within k (Checking words checked point)) holds k refl (Within k (Checking words (checked + 1) point)) checks refl

    -- if it was the twelfth, the words are the board at the point
    module _ (same : (slice_index w.words checked == slice_index words checked) ≡ true) (last : (checked == 11) ≡ true) where
      copied_board : words ≡ board_of (take point w.history)
      copied_board =
          let o = (kept.knows c (Within k (Checking words checked point)) k holds refl).sees in
          let is_last = eqb-true checked 11 last in
          let each = one_more same in
          board_from (take point w.history) words o.twelve (λ i few. each i (omega arith))

      -- the sum of the numbers of the words is the noted length
      copied_version : version_of words ≡ point
      copied_version =
          let late = (kept.knows c (Within k (Checking words checked point)) k holds refl).sees.late in
          ap version_of copied_board ∙ ((versions (take point w.history) (legal_take w.history point kept.legal)).0 ∙ length-take-le point w.history late)

      copied : Keeps (after_reply c k point (Copied (reading_of words)) w)
      copied =
          let m = kept.knows c (Within k (Checking words checked point)) k holds refl in
          let o = m.sees in
          let h = w.history in
          let r = Copied (reading_of words) in
          let f = with_reply point r in
          let told : Explains h (f m.call) (Some point) (Some r) = search (arith, o.early, o.late, m.unended, sequential_reading, copied_board, copied_version) in
          moved w kept c (Within k (Checking words checked point)) holds k refl (Answered k) h w.words f (begins_same h) kept.legal kept.words (λ a. refl) (told, refl) refl

    -- a load of a second collect keeps what a run keeps
    second_kept : (a b : Bool) → (slice_index w.words checked == slice_index words checked) ≡ a → (checked == 11) ≡ b
        → Keeps (after_outcome c k point (cond a (cond b (Answers (Copied (reading_of words))) (GoesOn (Checking words (checked + 1) point))) (GoesOn (Collecting []))) w)
    second_kept a b same last = search (arith, copied, goes_on, start_again)

  -- the beginning of a call keeps what a run keeps, and so does each step
  begin_kept : (c : Caller) (call : Call) → held_by w.callers c ≡ Some Idle → may_begin c call ≡ true → Keeps (after_begin c call w)
  begin_kept (Reporter (suc n)) (Event e) holds may =
      begun w kept (Reporter (suc n)) Idle holds refl (Event e) (Wanting (length w.calls) e) (search (arith, and_parts, leb-true)) refl
  begin_kept c (Event e) holds may = search (arith, none-some, false≢true)
  begin_kept c Reading holds may = begun w kept c Idle holds refl Reading (Within (length w.calls) (Collecting [])) (search arith) refl

  pub step_kept : (s : Step) (o : Option CallerState) (w' : MachineState) → held_by w.callers (caller_of s) ≡ o → after_step_holding s o w ≡ Some w' → Keeps w'
  step_kept (Begin c call) (Some Idle) w' holds done = search (arith, cond_some (may_begin c call) (after_begin c call w) w' done, begin_kept c call holds)
  step_kept (Look (Reporter n)) (Some (Wanting k e)) w' holds done = search (arith, same_Some, look_kept n k e holds)
  step_kept (Swap (Reporter n)) (Some (Within k (Holding e old new))) w' holds done = search (arith, same_Some, swap_kept n k e old new holds)
  step_kept (First c) (Some (Within k (Collecting loaded))) w' holds done =
      subst Keeps (same_Some (state_after_first c k loaded w) w' done) (first_kept c k loaded holds (length (loaded ++ slice_index w.words (length loaded) ∷ []) == 12) refl)
  step_kept (Second c) (Some (Within k (Checking words checked point))) w' holds done = search (arith, same_Some, second_kept c k words checked point holds)
  step_kept (End c) (Some (Answered k)) w' holds done = search (arith, ended w kept c (Answered k) holds k refl (kept.knows c (Answered k) k holds refl).sees, same_Some)
  step_kept s o w' holds done = absurd (none-some w' done)

-- each of some idle callers is idle
idle_all : (n k : ℕ) (x : CallerState) → slice_get (replicate n Idle) k ≡ Some x → x ≡ Idle
idle_all (suc n) (suc k) x e = idle_all n k x e
idle_all n k x e = search (arith, none-some, same_Some)

-- each caller of the machine is idle in the initial state
idle_at_start : (cast : Cast) (c : Caller) (x : CallerState) → held_by (initial_state cast).callers c ≡ Some x → x ≡ Idle
idle_at_start cast c x e = search (arith, none-some, idle_all)

-- the initial state satisfies `Keeps`, the invariant of runs of the machine
pub kept_at_start : (cast : Cast) → Keeps (initial_state cast)
kept_at_start cast = search (arith, may_none MayFollow, board_none, none-some, in_call, idle_at_start)

-- a state that satisfies `Keeps`, the invariant of runs of the machine, does so after more enabled steps
pub run_kept : (steps : List Step) (w w' : MachineState) → Keeps w → after_steps steps w ≡ Some w' → Keeps w'
run_kept [] w w' kept e = subst Keeps (same_Some w w' e) kept
run_kept (s ∷ steps) w w' kept e = option_and_then_some (after_steps steps) (after_step w s) w' e
    (λ v is then. run_kept steps v w' (step_kept w kept s (held_by w.callers (caller_of s)) v refl is) then)

-- after every list of enabled steps the match words are those of the board of the history
pub words_of_run : WordsAreOfTheHistory
words_of_run cast steps w e = (run_kept steps (initial_state cast) w (kept_at_start cast) e).words

-- so of every trace
module _ (cast : Cast) (steps : List Step) (w : MachineState) (trace : Trace) (last : after_steps steps (initial_state cast) ≡ Some w) (left : IsLeftBy w trace) where
  pub words_of_trace : trace.words ≡ board_of trace.history.items
  words_of_trace = left.words ∙ (words_of_run cast steps w last ∙ ap board_of (sym left.history))

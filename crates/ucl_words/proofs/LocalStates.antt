-- What the steps of a call leave as done and as held.
use Rattle.ucl_words.proofs.Common.{AccessKind, Bool, Call, Checking, LocalState, Collecting, CompletesCall, DoneAsBefore, [], CountRead}
use Rattle.ucl_words.proofs.Common.{CountRaised, EventCall, CompletedCall, Completes, First, GoesOn, Holding, IsAnswered, IsBegun}
use Rattle.ucl_words.proofs.Common.{IsNextOfProtocol, List, Look, Match, MayCollect, NoCall, None, Outcome, Pending, Refusal, Reply, Second}
use Rattle.ucl_words.proofs.Common.{Some, Stale, StaysIn, Steps, Swap, View, after, ap, append-nil, arith, at_is, by_rules, call_answered}
use Rattle.ucl_words.proofs.Common.{call_asked, checking, local_number, local_of, collected, collecting, cond, entry_by, entry_of, eq-eqb}
use Rattle.ucl_words.proofs.Common.{false, first_later, begun_index, flat_map, flat_map-append, history_of, inl, inr, legal_steps, length}
use Rattle.ucl_words.proofs.Common.{length-take-le, log_long, ne_eqb, next_match, number_of, outcome, reading_of, subst, record_at, refl}
use Rattle.ucl_words.proofs.Common.{refusal_of, set, slice_index, sym, take, take-length, true, version_in, versions_shown, with_outcome}
use Rattle.ucl_words.proofs.Common.{with_action, word_of, words_after, ◌++◌, ◌+◌, ◌<◌, ◌==◌, ◌∙◌, ◌∷◌, ◌≡◌, ◌≢◌, ◌≤◌, ◌⊎◌, ℕ}
use Rattle.std.proofs.lemmas.List.{take_more_set}
use Rattle.ucl_words.proofs.Steps.{ExchangeMissed, ExchangeWon, LoadsMatch, adds_none, local_is, count_stays, exchange_won, loads_match}
use Rattle.ucl_words.proofs.Steps.{shown_of}
use Rattle.ucl_steps.specs.declared.step.Call.TheVariants as calls
use Rattle.ucl_steps.specs.declared.trace.Reply.TheVariants as replies
use Rattle.ucl_steps.specs.Protocol as protocol

-- if a pass held h and then takes a step at `place`, its call began there if h is NoCall, and else at `was`, where it had begun
begun_place : (h : Pending) (known was place : ℕ) → known ≤ place → IsBegun h known was (begun_index h was place)
begun_place h known was place le = search arith

-- one step of a pass on a match word, by what comes of it
module _ (seat game n : ℕ) (kind : AccessKind) (v w : View) (s : Steps seat (Match kind game n) v w) where
  -- if this comes of the step, it is added to what the pass has done
  pub done : (o : Outcome) → outcome (local_of v.own).number (local_of v.own).held (Match kind game n) s.step.length ≡ o
      → local_of w.own ≡ with_outcome o s.step (local_of v.own)
  done o comes = local_is seat (Match kind game n) v w s ∙ ap (λ (z : Outcome). with_outcome z s.step (local_of v.own)) comes

  -- if the call goes on, the pass stays in it, and holds this
  pub goes_on : (held : Pending) → outcome (local_of v.own).number (local_of v.own).held (Match kind game n) s.step.length ≡ GoesOn held → StaysIn v held w
  goes_on held comes =
      let is = done (GoesOn held) comes in
      record {
        calls = ap (λ (z : LocalState). z.calls) is;
        held_is = ap (λ (z : LocalState). z.held) is;
        begun = subst (IsBegun (local_of v.own).held (length v.log) (local_of v.own).first_index) (sym (ap (λ (z : LocalState). z.first_index) is))
            (begun_place (local_of v.own).held (length v.log) (local_of v.own).first_index s.step.index (first_later words_after IsNextOfProtocol seat (Match kind game n) v w s));
      }

  -- if the call is answered, it is the last that the pass has completed
  abbrev pub answered : (reply : Reply) → outcome (local_of v.own).number (local_of v.own).held (Match kind game n) s.step.length ≡ protocol.Answers reply
      → (call : Call) → call_asked (local_of v.own).held (Match kind game n) ≡ call → IsAnswered v call reply w
  answered reply comes call asked = record {
    last = call_answered reply s.step (local_of v.own);
    calls = ap (λ (z : LocalState). z.calls) (done (protocol.Answers reply) comes);
    asked = (ap (call_asked (local_of v.own).held) s.of ∙ asked, refl, refl);
    ended = log_long words_after IsNextOfProtocol seat (Match kind game n) v w s;
    held = ap (λ (z : LocalState). z.held) (done (protocol.Answers reply) comes);
  }

-- a pass with the same completed calls and the same number has shown the same versions
pub done_shown : (v w : View) → (local_of w.own).calls ≡ (local_of v.own).calls → number_of w.own ≡ number_of v.own → versions_shown w.own ≡ versions_shown v.own
done_shown v w calls same = λ i. flat_map (shown_of ((local_number w.own ∙ (same ∙ sym (local_number v.own))) i)) (calls i)

-- a call that was answered adds the version of its reply, if it was a reading, to those that its pass has shown
pub answered_shown : (v w : View) (call : Call) (reply : Reply) → IsAnswered v call reply w → number_of w.own ≡ number_of v.own
    → versions_shown w.own ≡ versions_shown v.own ++ version_in reply
answered_shown v w call reply a same =
    let d = local_of v.own in
    (λ i. flat_map (shown_of ((local_number w.own ∙ (same ∙ sym (local_number v.own))) i)) (a.calls i))
    ∙ (flat_map-append (shown_of d.number) d.calls (a.last ∷ []) ∙ ap (λ (l : List ℕ). versions_shown v.own ++ l)
    (append-nil (shown_of d.number a.last) ∙ ((λ i. cond (a.asked.2 i == d.number) (version_in (a.asked.1 i)) [])
    ∙ ap (λ (b : Bool). cond b (version_in reply) []) (eq-eqb d.number d.number refl))))

-- if a call was under way before (h is not NoCall), it is still the same call: its first step is at the place `was`
under_way : (h : Pending) (known was first : ℕ) → h ≢ NoCall → IsBegun h known was first → first ≡ was
under_way h known was first any begun = search arith

-- a pass that stays in a call from u to v, holding something there, and from v to w, stays in it from u to w
pub stays_on : (u v w : View) (h k : Pending) → h ≢ NoCall → StaysIn u h v → StaysIn v k w → StaysIn u k w
stays_on u v w h k any a b =
    let same = under_way (local_of v.own).held (length v.log) (local_of v.own).first_index (local_of w.own).first_index (λ none. any (sym a.held_is ∙ none)) b.begun in
    record {
      calls = b.calls ∙ a.calls;
      held_is = b.held_is;
      begun = subst (IsBegun (local_of u.own).held (length u.log) (local_of u.own).first_index) (sym same) a.begun;
    }

-- a call whose pass held nothing before, stayed in it and then finished it, was begun and answered in between
pub stays_answered : (v u w : View) (held : Pending) (call : Call) (reply : Reply) → (local_of v.own).held ≡ NoCall → number_of u.own ≡ number_of v.own
    → StaysIn v held u → Completes u call reply w → CompletesCall v call reply w
stays_answered v u w held call reply nothing number stays finishes =
    let a = finishes.answers in
    let begun : length v.log ≤ (local_of u.own).first_index = subst (λ (h : Pending). IsBegun h (length v.log) (local_of v.own).first_index (local_of u.own).first_index) nothing stays.begun in
    let first = finishes.first in
    record {
      answers = record {
        last = a.last;
        calls = a.calls ∙ ap (λ (l : List CompletedCall). l ++ a.last ∷ []) stays.calls;
        asked = (a.asked.0, a.asked.1, a.asked.2 ∙ (local_number u.own ∙ (number ∙ sym (local_number v.own))));
        ended = a.ended;
        held = a.held;
      };
      since = omega arith;
    }

-- the load by which a pass that held nothing begins a report
module _ (seat n : ℕ) (e : EventCall) (v w : View) (s : Steps seat (Match (Look e) e.game n) v w) (nothing : (local_of v.own).held ≡ NoCall) where
  pub look_loads : LoadsMatch (Look e) e.game v n w
  look_loads = loads_match seat e.game n (Look e) v w s (adds_none seat e.game n (Look e) v w s tt)

  -- if the rules refuse the event on the word found, the report is answered with this refusal
  module _ (refusal : Refusal) (refused : refusal_of (record_at n) e.expected e.kind ≡ Some refusal) where
    look_comes : outcome (local_of v.own).number (local_of v.own).held (Match (Look e) e.game n) s.step.length ≡ protocol.Answers (replies.Refused refusal)
    look_comes = ap (by_rules (local_of v.own).number e n) refused

    pub look_answers : CompletesCall v (calls.Event e) (replies.Refused refusal) w
    look_answers =
        let first = ap (λ (h : Pending). begun_index h (local_of v.own).first_index s.step.index) nothing in
        let low = first_later words_after IsNextOfProtocol seat (Match (Look e) e.game n) v w s in
        record { answers = answered seat e.game n (Look e) v w s (replies.Refused refusal) look_comes (calls.Event e) refl; since = omega arith }

  -- if they accept it, the pass stays in the report and holds what is to be exchanged
  module _ (accepts : refusal_of (record_at n) e.expected e.kind ≡ None) where
    look_goes : outcome (local_of v.own).number (local_of v.own).held (Match (Look e) e.game n) s.step.length ≡ GoesOn
        (Holding e n (word_of (after (record_at n) (local_of v.own).number e.kind)))
    look_goes = ap (by_rules (local_of v.own).number e n) accepts

    pub look_holds : StaysIn v (Holding e n (word_of (after (record_at n) (local_of v.own).number e.kind))) w
    look_holds = goes_on seat e.game n (Look e) v w s (Holding e n (word_of (after (record_at n) (local_of v.own).number e.kind))) look_goes

-- the exchange of a report, which found the word n and expected the word `old`
module _ (seat game n old new : ℕ) (e : EventCall) (v w : View) (s : Steps seat (Match Swap game n) v w) (held : (local_of v.own).held ≡ Holding e old new) (of : game ≡ e.game) where
  -- the reply, by whether it found the word that it expected: accepted, or stale
  abbrev pub reply_by : Bool → Reply
  reply_by b = cond b (replies.Accepted (record { number = (record_at new).number })) (replies.Refused (Stale (record_at n).number))

  swap_comes : outcome (local_of v.own).number (local_of v.own).held (Match Swap game n) s.step.length ≡ protocol.Answers (reply_by (n == old))
  swap_comes = ap (λ (h : Pending). outcome (local_of v.own).number h (Match Swap game n) s.step.length) held

  swap_asked : call_asked (local_of v.own).held (Match Swap game n) ≡ calls.Event e
  swap_asked = ap (λ (h : Pending). call_asked h (Match Swap game n)) held

  module _ (b : Bool) (is : (n == old) ≡ b) where
    comes_as : outcome (local_of v.own).number (local_of v.own).held (Match Swap game n) s.step.length ≡ protocol.Answers (reply_by b)
    comes_as = swap_comes ∙ ap (λ (c : Bool). protocol.Answers (reply_by c)) is

    -- the exchange finishes the report with this reply
    pub swap_finishes : Completes v (calls.Event e) (reply_by b) w
    swap_finishes = record {
      answers = answered seat game n Swap v w s (reply_by b) comes_as (calls.Event e) swap_asked;
      first = ap (λ (h : Pending). begun_index h (local_of v.own).first_index s.step.index) held;
    }

  -- the exchange of a report that found another word stored nothing
  pub swap_missed : n ≢ old → ExchangeMissed e.game v n w
  swap_missed other =
      let none : s.step.entry ≡ None = s.next.entry ∙ ((λ i. entry_by (local_of (sym s.own i)).number (local_of (sym s.own i)).held (s.of i))
      ∙ (ap (λ (h : Pending). entry_by (local_of v.own).number h (Match Swap game n)) held
      ∙ ap (λ (b : Bool). cond b (Some (Rattle.ucl_board.specs.History.entry_of (local_of v.own).number e)) None) (ne_eqb n old other))) in
      subst (λ (g : ℕ). ExchangeMissed g v n w) of (loads_match seat game n Swap v w s none)

  -- the exchange of a report that found the word that it expected added the entry
  pub swap_won : n ≡ old → ExchangeWon (Rattle.ucl_board.specs.History.entry_of (number_of v.own) e) v n w
  swap_won same = subst (λ (k : ℕ). ExchangeWon (Rattle.ucl_board.specs.History.entry_of (number_of v.own) e) v k w) (sym same)
      (exchange_won seat game old new e v w (subst (λ (k : ℕ). Steps seat (Match Swap game k) v w) same s) held of)

-- from v to x the pass has loaded the first i words of a first collect and holds them, or there are none and it is as it was
abbrev pub Firsts : View → List ℕ → ℕ → View → Type 0
Firsts v words i x = ((i ≡ 0) × (x ≡ v)) ⊎ ((0 < i) × StaysIn v (collected (take i words) (length (history_of x.log))) x)

-- a first collect of a pass that may begin one has loaded i words, fewer than twelve
module _ (v x : View) (words : List ℕ) (i : ℕ) (less : i < 12) (long : length words ≡ 12) (may : MayCollect (local_of v.own).held) where
  some_words : length (take i words) ≡ i
  some_words = length-take-le i words (omega arith)

  collecting_still : (now : ℕ) → collected (take i words) now ≡ Collecting (take i words)
  collecting_still now = ap (λ (b : Bool). cond b (Checking (take i words) 0 now) (Collecting (take i words))) (ne_eqb (length (take i words)) 12 (λ full. let l = some_words in omega arith))

  -- before the next load the pass holds no call, and no word is loaded, or it holds the words that it has loaded
  abbrev IsBefore : Pending → Type 0
  IsBefore h = ((h ≡ NoCall) × (take i words ≡ [])) ⊎ (h ≡ Collecting (take i words))

  begins_with : i ≡ 0 → (h : Pending) → MayCollect h → IsBefore h
  begins_with none NoCall m = inl (refl, ap (λ (k : ℕ). take k words) none)
  begins_with none (Collecting ws) m = inr (ap Collecting (m ∙ ap (λ (k : ℕ). take k words) (sym none)))
  begins_with none h m = absurd m

  held_before : Firsts v words i x → IsBefore (local_of x.own).held
  held_before (inl t) = subst (λ (z : View). IsBefore (local_of z.own).held) (sym t.1) (begins_with t.0 (local_of v.own).held may)
  held_before (inr t) = inr (t.1.held_is ∙ collecting_still (length (history_of x.log)))

  -- the next load is of the next match
  pub first_next : Firsts v words i x → i + 1 ≡ next_match First (local_of x.own).held
  first_next so_far = elim (held_before so_far) [
    | inl t ↦ ap (λ (k : ℕ). k + 1) (sym some_words ∙ ap length t.1) ∙ ap (next_match First) (sym t.0)
    | inr t ↦ ap (λ (k : ℕ). k + 1) (sym some_words) ∙ ap (next_match First) (sym t)
  ]

  module _ (seat n : ℕ) (w : View) (s : Steps seat (Match First (i + 1) n) x w) where
    now_is : s.step.length ≡ length (history_of w.log)
    now_is = at_is words_after IsNextOfProtocol seat (Match First (i + 1) n) x w s legal_steps (adds_none seat (i + 1) n First x w s tt)

    abbrev more : Pending
    more = collected (take (i + 1) (set words i n)) (length (history_of w.log))

    words_on : take i words ++ n ∷ [] ≡ take (i + 1) (set words i n)
    words_on = sym (take_more_set words i n (omega arith))

    comes : Firsts v words i x → outcome (local_of x.own).number (local_of x.own).held (Match First (i + 1) n) s.step.length ≡ GoesOn more
    comes so_far =
        let by : Pending → Outcome = (λ h. outcome (local_of x.own).number h (Match First (i + 1) n) s.step.length) in
        let on : by (local_of x.own).held ≡ GoesOn (collected (take i words ++ n ∷ []) s.step.length) = elim (held_before so_far) [
          | inl t ↦ ap by t.0 ∙ ap (λ (l : List ℕ). GoesOn (collected (l ++ n ∷ []) s.step.length)) (sym t.1)
          | inr t ↦ ap by t
        ] in
        on ∙ (λ j. GoesOn (collected (words_on j) (now_is j)))

    pub first_loads : LoadsMatch First (i + 1) x n w
    first_loads = loads_match seat (i + 1) n First x w s (adds_none seat (i + 1) n First x w s tt)

    -- after that load one word more is loaded
    pub first_on : Firsts v words i x → Firsts v (set words i n) (i + 1) w
    first_on so_far = inr (omega arith, by so_far)
      where
        by : Firsts v words i x → StaysIn v more w
        by (inl t) = subst (λ (z : View). StaysIn z more w) t.1 (goes_on seat (i + 1) n First x w s more (comes so_far))
        by (inr t) = stays_on v x w (collected (take i words) (length (history_of x.log))) more
            (λ none. collecting (take i words) (sym (collecting_still (length (history_of x.log))) ∙ none)) t.1 (goes_on seat (i + 1) n First x w s more (comes so_far))

-- after the twelfth load the pass holds all words, to compare them
pub firsts_all : (v x : View) (words : List ℕ) (i : ℕ) → length words ≡ 12 → i ≡ 12 → Firsts v words i x → StaysIn v (Checking words 0 (length (history_of x.log))) x
firsts_all v x words i long all (inl t) = absurd (let e = t.0 in omega arith)
firsts_all v x words i long all (inr t) =
    let whole : take i words ≡ words = ap (λ (k : ℕ). take k words) (all ∙ sym long) ∙ take-length words in
    subst (λ (h : Pending). StaysIn v h x)
    (ap (λ (l : List ℕ). collected l (length (history_of x.log))) whole
    ∙ ap (λ (b : Bool). cond b (Checking words 0 (length (history_of x.log))) (Collecting words)) (eq-eqb (length words) 12 long)) t.1

-- a second collect has found the first `count` words again, which the first collect loaded by the length `point` of the history
abbrev pub Seconds : View → List ℕ → ℕ → ℕ → View → Type 0
Seconds v words point count x = local_of x.own ≡ record (local_of v.own) { held = Checking words count point }

-- a pass that holds a first collect, and has made no load of the second, has found 0 words again
pub seconds_none : (v : View) (words : List ℕ) (point : ℕ) → (local_of v.own).held ≡ Checking words 0 point → Seconds v words point 0 v
seconds_none v words point is = λ i. record (local_of v.own) { held = is i }

-- the next load of a second collect, of the word at place i
module _ (v x w : View) (words : List ℕ) (point i seat n : ℕ) (so_far : Seconds v words point i x) (s : Steps seat (Match Second (i + 1) n) x w) where
  pub second_loads : LoadsMatch Second (i + 1) x n w
  second_loads = loads_match seat (i + 1) n Second x w s (adds_none seat (i + 1) n Second x w s tt)

  abbrev compared_by : Bool → Bool → Outcome
  compared_by same last = cond same (cond last (protocol.Answers (replies.Copied (reading_of words))) (GoesOn (Checking words (i + 1) point))) (GoesOn (Collecting []))

  abbrev checking_before : LocalState
  checking_before = record (local_of v.own) { held = Checking words i point }

  second_is : (same last : Bool) → (n == slice_index words i) ≡ same → (i == 11) ≡ last
      → local_of w.own ≡ with_outcome (compared_by same last) s.step checking_before
  second_is same last by end = local_is seat (Match Second (i + 1) n) x w s
      ∙ (ap (with_action (Match Second (i + 1) n) s.step) so_far ∙ (λ j. with_outcome (compared_by (by j) (end j)) s.step checking_before))

  -- if it finds the word again, and that was not the twelfth, one word more is found again
  pub second_on : n ≡ slice_index words i → i < 11 → Seconds v words point (i + 1) w
  second_on same less = second_is true false (eq-eqb n (slice_index words i) same) (ne_eqb i 11 (λ z. omega arith))

  -- if it was the twelfth, the reading is answered with these words
  pub second_last : n ≡ slice_index words i → i ≡ 11 → Completes v calls.Reading (replies.Copied (reading_of words)) w
  second_last same eleven =
      let is = second_is true true (eq-eqb n (slice_index words i) same) (eq-eqb i 11 eleven) in
      record {
        answers = record {
          last = call_answered (replies.Copied (reading_of words)) s.step checking_before;
          calls = ap (λ (d : LocalState). d.calls) is;
          asked = (ap (call_asked (Checking words i point)) s.of, refl, refl);
          ended = log_long words_after IsNextOfProtocol seat (Match Second (i + 1) n) x w s;
          held = ap (λ (d : LocalState). d.held) is;
        };
        first = refl;
      }

  -- if it finds another word, the reading begins anew with no words
  pub second_other : n ≢ slice_index words i → (local_of v.own).held ≡ Checking words 0 point → StaysIn v (Collecting []) w
  second_other other was =
      let is = second_is false (i == 11) (ne_eqb n (slice_index words i) other) refl in
      record {
        calls = ap (λ (d : LocalState). d.calls) is;
        held_is = ap (λ (d : LocalState). d.held) is;
        begun = subst (λ (h : Pending). IsBegun h (length v.log) (local_of v.own).first_index (local_of w.own).first_index) (sym was)
            (ap (λ (d : LocalState). d.first_index) is);
      }

-- from v to x the pass is as it was, or has taken steps of a reading and is before the first load of its next try
abbrev pub Tries : View → View → Type 0
Tries v x = (x ≡ v) ⊎ StaysIn v (Collecting []) x

module _ (v x : View) (none : (local_of v.own).held ≡ NoCall) where
  pub tries_may : Tries v x → MayCollect (local_of x.own).held
  tries_may (inl same) = subst MayCollect (sym (ap (λ (z : View). (local_of z.own).held) same ∙ none)) tt
  tries_may (inr t) = subst MayCollect (sym t.held_is) refl

  -- what it holds after such tries and more steps of the reading it holds since v
  pub tries_on : (h : Pending) (u : View) → Tries v x → StaysIn x h u → StaysIn v h u
  tries_on h u (inl same) stays = subst (λ (z : View). StaysIn z h u) same stays
  tries_on h u (inr t) stays = stays_on v x u (Collecting []) h (collecting []) t stays

-- after a second collect that found a word changed the reading is still under way, and the pass holds no word of its next try
pub tries_again : (v u w : View) (words : List ℕ) (point : ℕ) → StaysIn v (Checking words 0 point) u → StaysIn u (Collecting []) w → StaysIn v (Collecting []) w
tries_again v u w words point a b = stays_on v u w (Checking words 0 point) (Collecting []) (checking words 0 point) a b

-- a step that looks how many reporters are enlisted finishes no report and no reading, and begins none
pub counted_does : (seat n : ℕ) (v w : View) → Steps seat (CountRead n) v w → DoneAsBefore v w
counted_does seat n v w s =
    let is = local_is seat (CountRead n) v w s
    ∙ ap (λ (o : Outcome). with_outcome o s.step (local_of v.own)) (count_stays (local_of v.own).number n s.step.length (local_of v.own).held) in
    record { calls = ap (λ (z : LocalState). z.calls) is; held = ap (λ (z : LocalState). z.held) is }

-- the step that enlists a pass finishes no report and no reading, and begins none
pub enlisted_does : (seat n : ℕ) (v w : View) → Steps seat (CountRaised n) v w → DoneAsBefore v w
enlisted_does seat n v w s = let is = local_is seat (CountRaised n) v w s in record { calls = ap (λ (z : LocalState). z.calls) is; held = ap (λ (z : LocalState). z.held) is }

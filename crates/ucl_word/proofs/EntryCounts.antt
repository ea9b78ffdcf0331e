-- The count of a match's entries after one entry more.
use Rattle.ucl_word.proofs.Common.{Away, Bool, Disallow, Finished, FullTime, Goal, Home, InPlay, IsReporter, IsValid, KickOff, Kind, List}
use Rattle.ucl_word.proofs.Common.{MatchRecord, None, Red, Reopen, Scheduled, SecondYellow, Side, State, Yellow, [], after, ap, arith}
use Rattle.ucl_word.proofs.Common.{eq-eqb, false, if◌then◌else◌, lacks_caution, lacks_goal, length, nat_tests, refl, refusal_of, scheduled}
use Rattle.ucl_word.proofs.Common.{subst, sym, true, ℕ, ◌++◌, ◌+◌, ◌-◌, ◌<◌, ◌==◌, ◌∙◌, ◌∷◌, ◌≡◌, ◌≤◌}
use Rattle.std.proofs.Common.{cond, length-append, ne_eqb}
use Rattle.std.proofs.Math.Nat.{zero-add, add-zero, add_assoc, le_refl}
use Rattle.std.proofs.lemmas.List.Sums.{sum_by-append}
use Rattle.ucl_word.specs.Counts.{CountsOneMore, MatchEntry, count, is_kind, state_of, last_reporter, counted_match, IsAccepted, IsLegalMatch}
use Rattle.ucl_word.specs.Theorems.{IsBalanced, CaseOf, IsCase, OneCaseHolds}
use Rattle.ucl_word.proofs.ValidRecords.{has_reporter, scheduled_valid}
use Rattle.ucl_word.proofs.AcceptedEvents.{Accepts, accepts, expects_number, must_be_in_play, must_be_scheduled, must_be_finished, after_valid, state_kept}
use Rattle.ucl_word.proofs.Sequences.{may_induction, may_next}

-- the entries with one more, of this reporter and this kind
abbrev pub entered : List MatchEntry → ℕ → Kind → List MatchEntry
entered es reporter kind = es ++ record { reporter = reporter; kind = kind } ∷ []

-- with the entry e at its end a list has one more entry of a kind if e is of this kind, and else as many as before
pub count_next : (kind : Kind) (es : List MatchEntry) (e : MatchEntry) → count kind (es ++ e ∷ []) ≡ count kind es + cond (is_kind kind e.kind) 1 0
count_next kind es e = sum_by-append (λ e. cond (is_kind kind e.kind) 1 0) es (e ∷ []) ∙ ap (λ (n : ℕ). count kind es + n) (zero-add (cond (is_kind kind e.kind) 1 0))

-- the last reporter of a list with an entry at its end is the reporter of this entry
pub last_next : (es : List MatchEntry) (e : MatchEntry) → last_reporter (es ++ e ∷ []) ≡ e.reporter
last_next [] e = refl
last_next (x ∷ []) e = refl
last_next (x ∷ y ∷ es) e = last_next (y ∷ es) e

-- an entry of another kind at the end leaves the count of a kind as it is
no_more : (kind : Kind) (es : List MatchEntry) (e : MatchEntry) → is_kind kind e.kind ≡ false → count kind (es ++ e ∷ []) ≡ count kind es
no_more kind es e is = count_next kind es e ∙ (ap (λ (b : Bool). count kind es + cond b 1 0) is ∙ add-zero (count kind es))

-- a + 1 less b is one more than a less b, if b is at most a
next_minus : (a b : ℕ) → b ≤ a → a + 1 - b ≡ a - b + 1
next_minus a b h = omega arith

-- to take b + 1 from a is to take b and then one more; natural subtraction stops at 0
minus_next : (a b : ℕ) → a - (b + 1) ≡ a - b - 1
minus_next a b = omega arith

-- one more in the left of two numbers is one more in their sum
more_left : (a b : ℕ) → a + 1 + b ≡ a + b + 1
more_left a b = omega arith

-- the state of a match that was kicked off, ended and reopened so many times
abbrev state_by : ℕ → ℕ → ℕ → State
state_by kicks ends reopens = if kicks == 0 then Scheduled else (if ends == reopens then InPlay else Finished)

-- if the numbers of kick-offs, full times and reopenings are those of a scheduled match, then with one kick-off more it is in play
kicked_off : (kicks ends reopens : ℕ) → CaseOf Scheduled kicks ends reopens → state_by (kicks + 1) ends reopens ≡ InPlay
kicked_off kicks ends reopens c = rw (c.0, c.1, c.2) refl

-- if the numbers of kick-offs, full times and reopenings are those of a match in play, then with one full time more it is finished
ended : (kicks ends reopens : ℕ) → CaseOf InPlay kicks ends reopens → state_by kicks (ends + 1) reopens ≡ Finished
ended kicks ends reopens c = rw (c.0, ne_eqb (ends + 1) reopens (λ e. let same = c.1 in omega arith)) refl

-- if the numbers of kick-offs, full times and reopenings are those of a finished match, then with one reopening more it is in play
reopened : (kicks ends reopens : ℕ) → CaseOf Finished kicks ends reopens → state_by kicks ends (reopens + 1) ≡ InPlay
reopened kicks ends reopens c = rw (c.0, eq-eqb ends (reopens + 1) c.1) refl

-- if the numbers of kick-offs, full times and reopenings are those of a match in state s, then s is the state worked out from them
case_state : (s : State) (kicks ends reopens : ℕ) → CaseOf s kicks ends reopens → s ≡ state_by kicks ends reopens
case_state Scheduled kicks ends reopens c = rw c.0 refl
case_state InPlay kicks ends reopens c = rw (c.0, eq-eqb ends reopens c.1) refl
case_state Finished kicks ends reopens c = rw (c.0, ne_eqb ends reopens (λ e. let more = c.1 in omega arith)) refl

-- the record counted from a list with one accepted entry more is what this event makes of the record counted from the list. The list
-- has no more disallowed goals than goals, no more second yellows than yellows, and the kick-offs, full times and reopenings of its state
pub record_next : (es : List MatchEntry) (r : ℕ) (kind : Kind) → IsBalanced es → IsCase (state_of es) es
    → Accepts (counted_match es) (length es) kind → counted_match (entered es r kind) ≡ after (counted_match es) r kind
unfolding counted_match after
record_next es r KickOff b h a =
    let e = kicked_off (count KickOff es) (count FullTime es) (count Reopen es) (subst (λ (s : State). IsCase s es) (must_be_scheduled (state_of es) a.unfinished a.not_started) h) in
    simp (count_next, last_next, length-append, add-zero) cc
record_next es r FullTime b h a =
    let e = ended (count KickOff es) (count FullTime es) (count Reopen es) (subst (λ (s : State). IsCase s es) (must_be_in_play (state_of es) a.unfinished a.started) h) in
    simp (count_next, last_next, length-append, add-zero) cc
record_next es r Reopen b h a =
    let e = reopened (count KickOff es) (count FullTime es) (count Reopen es) (subst (λ (s : State). IsCase s es) (must_be_finished (state_of es) a.finished) h) in
    simp (count_next, last_next, length-append, add-zero) cc
record_next es r (Goal Home) b h a = let e = next_minus (count (Goal Home) es) (count (Disallow Home) es) (b.goals Home) in simp (count_next, last_next, length-append, add-zero) cc
record_next es r (Goal Away) b h a = let e = next_minus (count (Goal Away) es) (count (Disallow Away) es) (b.goals Away) in simp (count_next, last_next, length-append, add-zero) cc
record_next es r (Disallow Home) b h a = let e = minus_next (count (Goal Home) es) (count (Disallow Home) es) in simp (count_next, last_next, length-append, add-zero) cc
record_next es r (Disallow Away) b h a = let e = minus_next (count (Goal Away) es) (count (Disallow Away) es) in simp (count_next, last_next, length-append, add-zero) cc
record_next es r (Yellow Home) b h a = let e = next_minus (count (Yellow Home) es) (count (SecondYellow Home) es) (b.yellows Home) in simp (count_next, last_next, length-append, add-zero) cc
record_next es r (Yellow Away) b h a = let e = next_minus (count (Yellow Away) es) (count (SecondYellow Away) es) (b.yellows Away) in simp (count_next, last_next, length-append, add-zero) cc
record_next es r (SecondYellow Home) b h a =
    let e = minus_next (count (Yellow Home) es) (count (SecondYellow Home) es) in let f = sym (add_assoc (count (Red Home) es) (count (SecondYellow Home) es) 1) in
    simp (count_next, last_next, length-append, add-zero) cc
record_next es r (SecondYellow Away) b h a =
    let e = minus_next (count (Yellow Away) es) (count (SecondYellow Away) es) in let f = sym (add_assoc (count (Red Away) es) (count (SecondYellow Away) es) 1) in
    simp (count_next, last_next, length-append, add-zero) cc
record_next es r (Red Home) b h a = let e = more_left (count (Red Home) es) (count (SecondYellow Home) es) in simp (count_next, last_next, length-append, add-zero) cc
record_next es r (Red Away) b h a = let e = more_left (count (Red Away) es) (count (SecondYellow Away) es) in simp (count_next, last_next, length-append, add-zero) cc

-- if entries have the kick-offs, full times and reopenings of a match in state s, so they have with an entry of another kind at their end
same_case : (es : List MatchEntry) (e : MatchEntry) → is_kind KickOff e.kind ≡ false → is_kind FullTime e.kind ≡ false
    → is_kind Reopen e.kind ≡ false → (s : State) → IsCase s es → IsCase s (es ++ e ∷ [])
same_case es e a b c s h = rw (no_more KickOff es e a, no_more FullTime es e b, no_more Reopen es e c) h

-- if entries have the kick-offs, full times and reopenings of a match in their state, then with one accepted entry more they have those of
-- the state after it
case_next : (es : List MatchEntry) (r : ℕ) (kind : Kind) → IsCase (state_of es) es → Accepts (counted_match es) (length es) kind → IsCase (after (counted_match es) r kind).state (entered es r kind)
unfolding counted_match after
case_next es r KickOff h a =
    let c = subst (λ (s : State). IsCase s es) (must_be_scheduled (state_of es) a.unfinished a.not_started) h in
    simp (count_next, add-zero) (ap (λ (n : ℕ). n + 1) c.0, c.1 ∙ sym c.2)
case_next es r FullTime h a =
    let c = subst (λ (s : State). IsCase s es) (must_be_in_play (state_of es) a.unfinished a.started) h in
    simp (count_next, add-zero) (c.0, ap (λ (n : ℕ). n + 1) c.1)
case_next es r Reopen h a =
    let c = subst (λ (s : State). IsCase s es) (must_be_finished (state_of es) a.finished) h in
    simp (count_next, add-zero) (c.0, c.1)
case_next es r kind h a = rw (state_kept kind (counted_match es) refl refl refl) (same_case es (record { reporter = r; kind = kind }) refl refl refl (state_of es) h)

-- where there are no entries, no goal is disallowed and no yellow card is a second one
pub balanced_none : IsBalanced []
balanced_none = record { goals = λ side. le_refl 0; yellows = λ side. le_refl 0 }

-- if given less taken is not 0, then taken is below given
stands : (given taken : ℕ) → (given - taken == 0) ≡ false → taken < given
stands given taken h = grind (arith, nat_tests)

-- if an event disallows a goal of a side that has one by the record counted from the entries, then the side has fewer disallowed goals
-- than goals there
goal_stands : (es : List MatchEntry) (side : Side) (kind : Kind) → lacks_goal (counted_match es) kind ≡ false → is_kind (Disallow side) kind ≡ true → count (Disallow side) es < count (Goal side) es
unfolding counted_match
goal_stands es Home (Disallow Home) h is = stands _ _ h
goal_stands es Away (Disallow Away) h is = stands _ _ h
goal_stands es side kind h is = absurd cc

-- if an event is a second yellow for a side that has a standing yellow by the record counted from the entries, then the side has fewer
-- second yellows than yellows
yellow_stands : (es : List MatchEntry) (side : Side) (kind : Kind) → lacks_caution (counted_match es) kind ≡ false
    → is_kind (SecondYellow side) kind ≡ true → count (SecondYellow side) es < count (Yellow side) es
unfolding counted_match
yellow_stands es Home (SecondYellow Home) h is = stands _ _ h
yellow_stands es Away (SecondYellow Away) h is = stands _ _ h
yellow_stands es side kind h is = absurd cc

-- `taken` is still at most `given` after each grew by one or not, if `taken` grows only if it was below `given`
stays : (taken given : ℕ) (takes gives : Bool) → taken ≤ given → (takes ≡ true → taken < given) → taken + cond takes 1 0 ≤ given + cond gives 1 0
stays taken given takes gives le lt = search (arith, lt)

-- after one accepted entry more still no side has more disallowed goals than goals, or second yellow cards than yellow ones
balanced_next : (es : List MatchEntry) (e : MatchEntry) → IsBalanced es → Accepts (counted_match es) (length es) e.kind → IsBalanced (es ++ e ∷ [])
balanced_next es e b a = record {
  goals = λ side. rw (count_next (Disallow side) es e, count_next (Goal side) es e)
      (stays _ _ (is_kind (Disallow side) e.kind) (is_kind (Goal side) e.kind) (b.goals side) (goal_stands es side e.kind a.goal));
  yellows = λ side. rw (count_next (SecondYellow side) es e, count_next (Yellow side) es e)
      (stays _ _ (is_kind (SecondYellow side) e.kind) (is_kind (Yellow side) e.kind) (b.yellows side) (yellow_stands es side e.kind a.caution));
}

-- in each legal list no side has more disallowed goals than goals, or second yellow cards than yellow ones
pub legal_balanced : (es : List MatchEntry) → IsLegalMatch es → IsBalanced es
legal_balanced = may_induction IsAccepted IsBalanced balanced_none (λ es e legal may b. balanced_next es e b (accepts (counted_match es) (length es) e.kind may.accepted))

-- the record counted from no entries is that of a match that has not kicked off
record_none : counted_match [] ≡ scheduled
unfolding counted_match
record_none = refl

-- the state in the record counted from entries is the one that `state_of` works out from them
state_is : (es : List MatchEntry) → (counted_match es).state ≡ state_of es
unfolding counted_match
state_is es = refl

-- a legal list has as many kick-offs, full times and reopenings as its state says
pub legal_case : (es : List MatchEntry) → IsLegalMatch es → IsCase (state_of es) es
legal_case = may_induction IsAccepted (λ es. IsCase (state_of es) es) (refl, refl, refl) (λ es e legal may h.
    let a = accepts (counted_match es) (length es) e.kind may.accepted in
    let is : (after (counted_match es) e.reporter e.kind).state ≡ state_of (es ++ e ∷ []) =
    ap (λ (m : MatchRecord). m.state) (sym (record_next es e.reporter e.kind (legal_balanced es legal) h a)) ∙ state_is (es ++ e ∷ []) in
    subst (λ (s : State). IsCase s (es ++ e ∷ [])) is (case_next es e.reporter e.kind h a))

-- a legal list of entries has the kick-offs, full times and reopenings of the state of its match, and of no other
pub one_case : OneCaseHolds
one_case es legal s = (
  λ c. case_state s (count KickOff es) (count FullTime es) (count Reopen es) c ∙ sym (state_is es),
  λ e. subst (λ (t : State). IsCase t es) (sym (e ∙ state_is es)) (legal_case es legal),
)

-- the record after a legal list of entries is one that a match can have
pub legal_valid : (es : List MatchEntry) → IsLegalMatch es → IsValid (counted_match es)
legal_valid = may_induction IsAccepted (λ es. IsValid (counted_match es))
    (rw record_none scheduled_valid)
    (λ es e legal may v. let a = accepts (counted_match es) (length es) e.kind may.accepted in
    rw (record_next es e.reporter e.kind (legal_balanced es legal) (legal_case es legal) a) (after_valid (counted_match es) e.reporter (length es) e.kind v may.reporter a))

-- the event number that is counted is how many entries there are
pub number_of_count : (es : List MatchEntry) → (counted_match es).number ≡ length es
unfolding counted_match
number_of_count es = refl

-- if the record m is counted from a legal list of entries, and no rule refuses an event on m, then the list with this event at its end is
-- legal, and the record after the event is counted from it
pub counted : (es : List MatchEntry) (m : MatchRecord) (reporter expected : ℕ) (kind : Kind) → IsLegalMatch es → counted_match es ≡ m → IsReporter reporter → refusal_of m expected kind ≡ None
    → (after m reporter kind ≡ counted_match (entered es reporter kind)) × IsLegalMatch (entered es reporter kind)
counted es m reporter expected kind legal is r none =
    let a = accepts m expected kind none in
    let number : expected ≡ length es = expects_number m expected kind a ∙ (ap (λ (m : MatchRecord). m.number) (sym is) ∙ number_of_count es) in
    let none' : refusal_of (counted_match es) (length es) kind ≡ None = rw (is, ← number) none in (
      rw (← is) (sym (record_next es reporter kind (legal_balanced es legal) (legal_case es legal) (accepts (counted_match es) (length es) kind none'))),
      may_next IsAccepted es (record { reporter = reporter; kind = kind }) legal (record { reporter = r; accepted = none' }),
    )

-- if no rule refuses an event on the record m, and `next`, the record after it, is valid, then each legal list that m is counted from stays
-- legal with this event at its end, and `next` is counted from it
pub counts_one_more : (m next : MatchRecord) (reporter expected : ℕ) (kind : Kind) → refusal_of m expected kind ≡ None → IsValid (after m reporter kind)
    → next ≡ after m reporter kind → CountsOneMore m reporter kind next
unfolding after
counts_one_more m next reporter expected kind none valid same es legal is =
    let count = counted es m reporter expected kind legal is (has_reporter (after m reporter kind) valid (omega arith)) none in (same ∙ count.0, count.1)

-- What an accepted event tells of the record, and that the record after it is valid.
use Rattle.ucl_word.proofs.Common.{Away, Bool, Disallow, Finished, FullTime, Goal, Home, InPlay, IsReporter, IsValid, KickOff, Kind}
use Rattle.ucl_word.proofs.Common.{MatchRecord, None, Red, Refusal, Reopen, Scheduled, SecondYellow, Some, State, Yellow, after, ap, arith}
use Rattle.ucl_word.proofs.Common.{changed_by, eq-eqb, false, if◌then◌else◌, is_full_time, is_kick_off, is_reopen, is_within_limits}
use Rattle.ucl_word.proofs.Common.{lacks_caution, lacks_goal, nat_le, nat_tests, not, refl, refusal_of, suits_state, sym, true, ℕ, ◌+◌, ◌-◌}
use Rattle.ucl_word.proofs.Common.{◌<◌, ◌==◌, ◌∙◌, ◌≡◌, ◌≤◌}
use Rattle.std.proofs.Common.{Option}
use Rattle.std.proofs.Math.Bool.{and-false}
use Rattle.ucl_word.specs.Record.{max_number_in_play}
use Rattle.ucl_word.specs.Rules.{is_scheduled, is_in_play, is_finished, passes_limit}
use Rattle.std.specs.Prelude.{◌&&◌, nat_lt}
use Rattle.ucl_word.proofs.ValidRecords.{parts, valid_by_parts}

-- an event of this kind, which expects this number, is accepted on the record m: no condition of a refusal holds
pub record Accepts (m : MatchRecord) (expected : ℕ) (kind : Kind) : Type 0 where
  pub current : not (expected == m.number) ≡ false
  pub unfinished : (is_finished m.state && not (is_reopen kind)) ≡ false
  pub finished : (not (is_finished m.state) && is_reopen kind) ≡ false
  pub started : (is_scheduled m.state && not (is_kick_off kind)) ≡ false
  pub not_started : (is_in_play m.state && is_kick_off kind) ≡ false
  pub room : (nat_le max_number_in_play m.number && not (is_full_time kind)) ≡ false
  pub goal : lacks_goal m kind ≡ false
  pub caution : lacks_caution m kind ≡ false
  pub limit : passes_limit m kind ≡ false

-- if a rule and the rules after it give no refusal, its condition does not hold, and the rules after it give none
skip : (b : Bool) (r : Refusal) (o : Option Refusal) → (if b then Some r else o) ≡ None → (b ≡ false) × (o ≡ None)
skip true r o h = absurd cc
skip false r o h = (refl, h)

-- if the rules give no refusal of an event, then `Accepts` holds of it: none of their conditions holds
pub accepts : (m : MatchRecord) (expected : ℕ) (kind : Kind) → refusal_of m expected kind ≡ None → Accepts m expected kind
unfolding refusal_of
accepts m expected kind h =
    let a = skip _ _ _ h in
    let b = skip _ _ _ a.1 in
    let c = skip _ _ _ b.1 in
    let d = skip _ _ _ c.1 in
    let e = skip _ _ _ d.1 in
    let f = skip _ _ _ e.1 in
    let g = skip _ _ _ f.1 in
    let i = skip _ _ _ g.1 in
    let j = skip _ _ _ i.1 in
    record { current = a.0; unfinished = b.0; finished = c.0; started = d.0; not_started = e.0; room = f.0; goal = g.0; caution = i.0; limit = j.0 }

-- an accepted event expects the event number that the record has
pub expects_number : (m : MatchRecord) (expected : ℕ) (kind : Kind) → Accepts m expected kind → expected ≡ m.number
expects_number m expected kind a = let is = a.current in grind (arith, nat_tests)

-- a state is in play if it is not finished and not scheduled, in the form that the rules test these for an event during play
pub must_be_in_play : (s : State) → (is_finished s && true) ≡ false → (is_scheduled s && true) ≡ false → s ≡ InPlay
must_be_in_play s f h = search arith

-- a state is scheduled if it is not finished and not in play, in the form that the rules test these for a kick-off
pub must_be_scheduled : (s : State) → (is_finished s && true) ≡ false → (is_in_play s && true) ≡ false → s ≡ Scheduled
must_be_scheduled s f h = search arith

-- a state is finished if it is not unfinished, in the form that the rules test this for a reopening
pub must_be_finished : (s : State) → (not (is_finished s) && true) ≡ false → s ≡ Finished
must_be_finished s h = search arith

-- an event number is below the greatest in play if the rules' test whether it has reached that is false
room_left : (n : ℕ) → (nat_le max_number_in_play n && true) ≡ false → n < max_number_in_play
room_left n h = grind (arith, nat_tests)

-- a valid record in play has an event number from 1 to the greatest in play
in_play : (m : MatchRecord) → m.state ≡ InPlay → IsValid m → (1 ≤ m.number) × (m.number ≤ max_number_in_play)
in_play m e v = let s = rw e at (parts m v).1 in (grind (arith, nat_tests), grind (arith, nat_tests))

-- a valid record of a finished match has an event number of at least 2
finished : (m : MatchRecord) → m.state ≡ Finished → IsValid m → 2 ≤ m.number
finished m e v = let s = rw e at (parts m v).1 in grind (arith, nat_tests)

-- an event number from 1 to the greatest in play and a reporter's number from 1 to 255 suit the state in play
suits_in_play : (s : State) (m : MatchRecord) → s ≡ InPlay → 1 ≤ m.number → m.number ≤ max_number_in_play → IsReporter m.reporter → suits_state s m ≡ true
suits_in_play s m e low high r = let a = r.0 in let b = r.1 in rw e (grind (arith, nat_tests))

-- only a kick-off, a full time or a reopening changes the state
pub state_kept : (kind : Kind) (m : MatchRecord) → is_kick_off kind ≡ false → is_full_time kind ≡ false → is_reopen kind ≡ false → (changed_by kind m).state ≡ m.state
state_kept kind m a b c = search arith

-- an accepted event leaves the numbers of the record within their limits
module _ (m : MatchRecord) (reporter expected : ℕ) where
  after_within : (kind : Kind) → is_within_limits m ≡ true → Accepts m expected kind → is_within_limits (after m reporter kind) ≡ true
  unfolding after
  after_within (Goal Home) w a = let l = a.limit in grind (arith, nat_tests)
  after_within (Disallow Home) w a = let l = a.limit in grind (arith, nat_tests)
  after_within (Yellow Home) w a = let l = a.limit in grind (arith, nat_tests)
  after_within (SecondYellow Home) w a = let l = a.limit in grind (arith, nat_tests)
  after_within (Red Home) w a = let l = a.limit in grind (arith, nat_tests)
  after_within kind w a = let l = a.limit in grind (arith, nat_tests)

  -- a match that goes on after an event has numbers that suit its state
  goes_on : (m' : MatchRecord) → IsValid m → IsReporter reporter → (is_finished m.state && true) ≡ false → (is_scheduled m.state && true) ≡ false →
      (nat_le max_number_in_play m.number && true) ≡ false
      → m'.state ≡ m.state → m'.number ≡ m.number + 1 → m'.reporter ≡ reporter → suits_state m'.state m' ≡ true
  goes_on m' v r f s n is_state is_number is_reporter =
      let e = must_be_in_play m.state f s in
      let now = in_play m e v in
      let room = room_left m.number n in
      suits_in_play m'.state m' (is_state ∙ e) (omega arith) (omega arith) (rw is_reporter r)

  -- after each accepted event the numbers of the record suit its state
  after_suits : (kind : Kind) → IsValid m → IsReporter reporter → Accepts m expected kind → suits_state (after m reporter kind).state (after m reporter kind) ≡ true
  unfolding after
  after_suits KickOff v r a =
      let s = rw (must_be_scheduled m.state a.unfinished a.not_started) at (parts m v).1 in
      let zero : m.number ≡ 0 = grind (arith, nat_tests) in
      suits_in_play InPlay (after m reporter KickOff) refl (omega arith) (omega arith) r
  after_suits FullTime v r a =
      let now = in_play m (must_be_in_play m.state a.unfinished a.started) v in
      let n = now.1 in let low = r.0 in let high = r.1 in grind (arith, nat_tests)
  after_suits Reopen v r a =
      let low = finished m (must_be_finished m.state a.finished) v in
      let room = room_left m.number a.room in
      suits_in_play InPlay (after m reporter Reopen) refl (omega arith) (omega arith) r
  after_suits kind v r a = goes_on (after m reporter kind) v r a.unfinished a.started a.room (state_kept kind m refl refl refl) refl refl

  -- the record after an accepted event is valid
  pub after_valid : (kind : Kind) → IsValid m → IsReporter reporter → Accepts m expected kind → IsValid (after m reporter kind)
  after_valid kind v r a = valid_by_parts (after m reporter kind) (after_within kind (parts m v).0 a) (after_suits kind v r a)

-- full time of a match in play is accepted
pub full_time : (m : MatchRecord) → IsValid m → m.state ≡ InPlay → refusal_of m m.number FullTime ≡ None
unfolding refusal_of
full_time m v e = rw (eq-eqb m.number m.number refl, e, and-false (nat_le max_number_in_play m.number)) refl

-- a match that has just been reopened has a valid record and accepts full time
pub ends_again : (m : MatchRecord) (reporter : ℕ) → IsValid m → IsReporter reporter → refusal_of m m.number Reopen ≡ None
    → IsValid (after m reporter Reopen) × (refusal_of (after m reporter Reopen) (m.number + 1) FullTime ≡ None)
unfolding after
ends_again m reporter v is none = let valid = after_valid m reporter m.number Reopen v is (accepts m m.number Reopen none) in (valid, full_time (after m reporter Reopen) valid refl)

-- an accepted event raises the event number by one
pub after_number : (m : MatchRecord) (reporter : ℕ) (kind : Kind) → (after m reporter kind).number ≡ m.number + 1
unfolding after
after_number m reporter kind = refl

-- the kind of event that leads from one record to another
kind_between : MatchRecord → MatchRecord → Kind
kind_between m n =
    if is_scheduled m.state then KickOff
    else (if is_finished m.state then Reopen
    else (if is_finished n.state then FullTime
    else (if nat_lt m.home_goals n.home_goals then Goal Home
    else (if nat_lt m.away_goals n.away_goals then Goal Away
    else (if nat_lt n.home_goals m.home_goals then Disallow Home
    else (if nat_lt n.away_goals m.away_goals then Disallow Away
    else (if nat_lt m.home_yellows n.home_yellows then Yellow Home
    else (if nat_lt m.away_yellows n.away_yellows then Yellow Away
    else (if nat_lt n.home_yellows m.home_yellows then SecondYellow Home
    else (if nat_lt n.away_yellows m.away_yellows then SecondYellow Away
    else (if nat_lt m.home_expulsions n.home_expulsions then Red Home
    else Red Away)))))))))))

-- no number is below itself
not_below_itself : (n : ℕ) → nat_lt n n ≡ false
not_below_itself n = grind (arith, nat_tests)

-- a number is below the next one
below_next : (n : ℕ) → nat_lt n (n + 1) ≡ true
below_next n = grind (arith, nat_tests)

-- a number that is not 0 has a predecessor below it
previous_below : (n : ℕ) → (n == 0) ≡ false → nat_lt (n - 1) n ≡ true
previous_below n stands = grind (arith, nat_tests)

-- no number is below its predecessor
not_below_previous : (n : ℕ) → nat_lt n (n - 1) ≡ false
not_below_previous n = grind (arith, nat_tests)

-- how a number compares with itself and its neighbours
ruleset below = (not_below_itself, below_next, not_below_previous)

-- the kind that leads from a record to the one after an accepted event is that of the event
kind_back : (m : MatchRecord) (reporter expected : ℕ) (kind : Kind) → Accepts m expected kind → kind_between m (after m reporter kind) ≡ kind
unfolding kind_between after
kind_back m r n KickOff a = rw (must_be_scheduled m.state a.unfinished a.not_started) refl
kind_back m r n FullTime a = rw (must_be_in_play m.state a.unfinished a.started) refl
kind_back m r n Reopen a = rw (must_be_finished m.state a.finished) refl
kind_back m r n (Goal Home) a = rw (must_be_in_play m.state a.unfinished a.started) (simp (below))
kind_back m r n (Goal Away) a = rw (must_be_in_play m.state a.unfinished a.started) (simp (below))
kind_back m r n (Disallow Home) a = rw (must_be_in_play m.state a.unfinished a.started) (simp (below, previous_below m.home_goals a.goal))
kind_back m r n (Disallow Away) a = rw (must_be_in_play m.state a.unfinished a.started) (simp (below, previous_below m.away_goals a.goal))
kind_back m r n (Yellow Home) a = rw (must_be_in_play m.state a.unfinished a.started) (simp (below))
kind_back m r n (Yellow Away) a = rw (must_be_in_play m.state a.unfinished a.started) (simp (below))
kind_back m r n (SecondYellow Home) a = rw (must_be_in_play m.state a.unfinished a.started) (simp (below, previous_below m.home_yellows a.caution))
kind_back m r n (SecondYellow Away) a = rw (must_be_in_play m.state a.unfinished a.started) (simp (below, previous_below m.away_yellows a.caution))
kind_back m r n (Red Home) a = rw (must_be_in_play m.state a.unfinished a.started) (simp (below))
kind_back m r n (Red Away) a = rw (must_be_in_play m.state a.unfinished a.started) (simp (below))

-- after an accepted event the record has the number of its reporter
reporter_after : (m : MatchRecord) (reporter : ℕ) (kind : Kind) → (after m reporter kind).reporter ≡ reporter
unfolding after
reporter_after m r kind = refl

-- accepted events that lead from one record to one other are the same event of the same reporter
pub events_apart : (m : MatchRecord) (r s i j : ℕ) (k l : Kind) → Accepts m i k → Accepts m j l → after m r k ≡ after m s l → (r ≡ s) × (k ≡ l)
events_apart m r s i j k l a b e = (
  sym (reporter_after m r k) ∙ (ap (λ (n : MatchRecord). n.reporter) e ∙ reporter_after m s l),
  sym (kind_back m r i k a) ∙ (ap (kind_between m) e ∙ kind_back m s j l b),
)

-- The passes of a log, one step more: their numbers, the entries that their steps add, and their calls, which come one after another.
use Rattle.ucl_steps.proofs.Common.{◌≡◌, ◌≢◌, inl, inr, ℕ, ◌+◌, ◌<◌, ◌≤◌, ◌==◌, Bool, true, false, cond, List, ◌∷◌, ◌++◌, length, take, Option, Some, None}
use Rattle.ucl_steps.proofs.Common.{refl, sym, ap, ◌∙◌, subst, arith, [], le_refl, length-append, cases_eq, length_push, slice_get, slice_index, none-some}
use Rattle.ucl_steps.proofs.Common.{false≢true, take-append-le, take-append-drop, take-append_seam, take-take, take-length, at_below, at_longer, at_end, at_either}
use Rattle.ucl_steps.proofs.Common.{begins_length, IsPrefix, Entry, EventCall, Refusal, Stale, refusal_of, record_at, entry_of, reading_of}
use Rattle.ucl_steps.proofs.Common.{Reply, Accepted, Refused, Copied, Pending, NoCall, Holding, Collecting, Checking, Outcome, GoesOn, Answers}
use Rattle.ucl_steps.proofs.Common.{by_rules, drop, CompletedCall, accepts}
use Rattle.std.specs.List.{fold}
use Rattle.std.proofs.lemmas.List.Sums.{fold-append}
use Rattle.ucl_word.proofs.Sequences.{may_induction, may_begin, may_last}
use Rattle.ucl_log.specs.Log.{CountRead, CountRaised, First, IsConsistentLog, Log, LoggedStep, Look, Match, MayBeTaken, Second, Swap, TakenStep, Action, Whole, entry_list}
use Rattle.ucl_log.specs.Log.{history_of, taken_by, enlisted_by, number_by, number_of, MayEnlist, LogFacts}
use Rattle.ucl_log.proofs.Logs.{history_append, history_more, taken_own, taken_other}
use Rattle.ucl_steps.specs.LocalState.{LocalState, FollowsProtocol, IsNextFor, IsNextOfProtocol, with_outcome, with_action, with_step}
use Rattle.ucl_steps.specs.LocalState.{call_answered, local_at, local_of, entry_by, begun_index, initial_local, outcome}
use Rattle.ucl_steps.proofs.Points.{entries_before, point_at, point_of, pointed}

-- a step of a pass is added to what the pass has done
pub local_own : (log : Log) (x : LoggedStep) → local_at x.seat (log ++ x ∷ []) ≡ with_step (local_at x.seat log) x.step
local_own log x = ap local_of (taken_own x.seat log x.step) ∙ fold-append with_step initial_local (taken_by x.seat log) (x.step ∷ [])

-- a step of one seat leaves what the pass of another seat has done
pub local_other : (log : Log) (x : LoggedStep) (seat : ℕ) → x.seat ≢ seat → local_at seat (log ++ x ∷ []) ≡ local_at seat log
local_other log x seat not = ap local_of (taken_other seat log x not)

-- P holds of what each pass has done after a step if it holds of what the step's own pass has done, and of the others as before
pub by_seat : (log : Log) (x : LoggedStep) (P : ℕ → LocalState → Type 0) (d : LocalState) → with_step (local_at x.seat log) x.step ≡ d → P x.seat d
    → ((seat : ℕ) → x.seat ≢ seat → P seat (local_at seat log)) → (seat : ℕ) → P seat (local_at seat (log ++ x ∷ []))
by_seat log x P d is own other seat = elim (cases_eq x.seat seat) [
  | inl same ↦ subst (λ (k : ℕ). P k (local_at k (log ++ x ∷ []))) same (subst (P x.seat) (sym (local_own log x ∙ is)) own)
  | inr not ↦ subst (P seat) (sym (local_other log x seat not)) (other seat not)
]

-- the entries before a place of a log are no more than its history has
pub entries_low : (log : Log) (place : ℕ) → entries_before log place ≤ length (history_of log)
entries_low log place =
    let e = ap (λ (l : Log). length (history_of l)) (sym (take-append-drop place log))
    ∙ (ap length (history_append (take place log) (drop place log))
    ∙ length-append (history_of (take place log)) (history_of (drop place log))) in
    omega arith

-- the entries before a place of a log are as many in a longer log
pub entries_same : (log more : Log) (place : ℕ) → place ≤ length log → entries_before (log ++ more) place ≡ entries_before log place
entries_same log more place le = ap (λ (l : Log). length (history_of l)) (take-append-le place log more le)

-- before a later place of a log there are no fewer entries
pub entries_rise : (log : Log) (p q : ℕ) → p ≤ q → entries_before log p ≤ entries_before log q
entries_rise log p q le =
    let e : take p (take q log) ≡ take p log = take-take p q log le in
    let low = entries_low (take q log) p in
    let same = ap (λ (l : Log). length (history_of l)) e in
    omega arith

-- before the end of a log there are all entries of its history
pub entries_all : (log : Log) → entries_before log (length log) ≡ length (history_of log)
entries_all log = ap (λ (l : Log). length (history_of l)) (take-length log)

-- a Look adds no entry
pub look_none : (h : Pending) (number game found : ℕ) (e : EventCall) → entry_by number h (Match (Look e) game found) ≡ None
look_none h number game found e = search arith

-- a load of the first collect of a reading adds no entry
pub first_none : (h : Pending) (number game found : ℕ) → entry_by number h (Match First game found) ≡ None
first_none h number game found = search arith

-- a load of the second collect of a reading adds no entry
pub second_none : (h : Pending) (number game found : ℕ) → entry_by number h (Match Second game found) ≡ None
second_none h number game found = search arith

-- a load of the number of enlisted reporters adds no entry
pub count_none : (h : Pending) (number found : ℕ) → entry_by number h (CountRead found) ≡ None
count_none h number found = search arith

-- an enlistment adds no entry
pub enlist_none : (h : Pending) (number found : ℕ) → entry_by number h (CountRaised found) ≡ None
enlist_none h number found = search arith

-- an outcome leaves the number of a pass
outcome_number : (o : Outcome) (y : TakenStep) (d : LocalState) → (with_outcome o y d).number ≡ d.number
outcome_number o y d = search arith

-- after a step a pass has the number that the step's action gives it: an enlistment that found n reporters gives n + 1, others leave it
pub number_after : (action : Action) (y : TakenStep) (d : LocalState) → (with_action action y d).number ≡ number_by action d.number
number_after action y d = search (arith, outcome_number)

-- from number n on, the steps of a pass change its number in turn: an enlistment that found m reporters sets it to m + 1, others leave it
number_from : (d : LocalState) (n : ℕ) → d.number ≡ n → (steps : List TakenStep)
    → (fold with_step d steps).number ≡ fold (λ (number : ℕ) (x : TakenStep). number_by x.action number) n steps
number_from d n is [] = is
number_from d n is (x ∷ steps) = number_from (with_step d x) (number_by x.action n) (number_after x.action x d ∙ ap (number_by x.action) is) steps

-- the number of a pass is the one that all its steps gave it
pub local_number : (steps : List TakenStep) → (local_of steps).number ≡ number_of steps
local_number steps = number_from initial_local 0 refl steps

-- in a log whose numbers were given in order (LogFacts) no pass has a greater number than there are enlisted reporters
pub numbers_low : (log : Log) → LogFacts log → (seat : ℕ) → (local_at seat log).number ≤ enlisted_by log
numbers_low log facts seat = let low = facts.low seat in let is = local_number (taken_by seat log) in omega arith

-- in a log whose numbers were given in order (LogFacts) two passes with the same number, which is not 0, have the same seat
pub numbers_apart : (log : Log) → LogFacts log → (i j : ℕ) → 0 < (local_at i log).number → (local_at i log).number ≡ (local_at j log).number → i ≡ j
numbers_apart log facts i j pos same = let n = local_number (taken_by i log) in let m = local_number (taken_by j log) in facts.apart i j (omega arith) (omega arith)

-- a step that the protocol lets come next enlists only a pass that has no number, and adds no entry then
pub may_enlist : (d : LocalState) (number : ℕ) (t : Action) (entry : Option Entry) → d.number ≡ number → IsNextFor d t → entry ≡ entry_by d.number d.held t → MayEnlist number t entry
may_enlist d number t entry same next is = search (arith, enlist_none)

-- a pass that holds an event is in a call
pub holding : (e : EventCall) (old new : ℕ) → Holding e old new ≢ NoCall
holding e old new is = cc

-- a pass that holds the words of its first collect is in a call
pub collecting : (words : List ℕ) → Collecting words ≢ NoCall
collecting words is = cc

-- a pass that holds the words that its second collect compares is in a call
pub checking : (words : List ℕ) (checked point : ℕ) → Checking words checked point ≢ NoCall
checking words checked point is = cc

-- a step with this outcome has an entry exactly if the outcome is that an event is accepted; the call's point is then `now`
abbrev AddsBy : Pending → ℕ → Option Entry → Outcome → Type 0
AddsBy held now entry (Answers (Accepted accepted)) = ((e : Entry) × (entry ≡ Some e)) × (point_of held now ≡ now)
AddsBy held now entry outcome = entry ≡ None

-- a step adds an entry exactly if it answers that an event is accepted
adds_by : (number : ℕ) (h : Pending) (t : Action) (now : ℕ) → AddsBy h now (entry_by number h t) (outcome number h t now)
adds_by number (Holding e old new) (Match Swap game found) now = by (found == old)
  where
    by : (b : Bool) → AddsBy (Holding e old new) now (cond b (Some (entry_of number e)) None)
        (Answers (cond b (Accepted (record { number = (record_at new).number })) (Refused (Stale (record_at found).number))))
    by true = ((entry_of number e, refl), refl)
    by false = refl
adds_by number h (Match (Look e) game found) now = by (refusal_of (record_at found) e.expected e.kind)
  where
    by : (o : Option Refusal) → AddsBy h now (entry_by number h (Match (Look e) game found)) (by_rules number e found o)
    by o = search (arith, look_none)
adds_by number (Checking words checked point) (Match Second game found) now = by (found == slice_index words checked) (checked == 11)
  where
    by : (a b : Bool) → AddsBy (Checking words checked point) now None
        (cond a (cond b (Answers (Copied (reading_of words))) (GoesOn (Checking words (checked + 1) point))) (GoesOn (Collecting [])))
    by a b = search arith
adds_by number h t now = search arith

-- if a pass is in the second collect of a reading, which began at place `first` of the log, the point that it keeps lies between that step
-- and the end of the log
abbrev Noted : Log → ℕ → Pending → Type 0
Noted log first (Checking words checked point) = (entries_before log first ≤ point) × (point ≤ length (history_of log))
Noted log first held = Unit {0}

-- if a reading, which began at place `first` of the log, goes on with its second collect after this outcome, the point that it keeps lies
-- between that step and the end of the log
abbrev NotedBy : Log → ℕ → Outcome → Type 0
NotedBy log first (GoesOn held) = Noted log first held
NotedBy log first (Answers reply) = Unit {0}

-- after a step with `now` entries before it, a reading in its second collect keeps a point between its first step and the end of the log,
-- if `now` lies there, and so did the point that it kept before, if any
noted_by : (log : Log) (first place number now : ℕ) (h : Pending) (t : Action) → entries_before log (begun_index h first place) ≤ now
    → now ≤ length (history_of log) → Noted log first h → NotedBy log (begun_index h first place) (outcome number h t now)
noted_by log first place number now h t low high s = search arith

-- a place `last` before a step, and before the first step of the call under way, if any, is before the first step of the step's call
first_after : (h : Pending) (first place last : ℕ) → last < place → (h ≢ NoCall → last < first) → last < begun_index h first place
first_after h first place last now was = search (arith, holding, collecting, checking)

-- the call of a step at `place` began no later than there
first_low : (h : Pending) (first place : ℕ) → (h ≢ NoCall → first < place) → begun_index h first place ≤ place
first_low h first place was = search (arith, le_refl, holding, collecting, checking)

-- the point of a call lies between the first step of the call and the present
point_within : (log : Log) (h : Pending) (first place now : ℕ) → now ≡ length (history_of log) → Noted log first h
    → (entries_before log (begun_index h first place) ≤ point_of h now) × (point_of h now ≤ now)
point_within log h first place now is s = search (arith, entries_low, le_refl)

-- the step at this place of the log is of the pass of this seat
abbrev IsOwnStep : Log → ℕ → ℕ → Type 0
IsOwnStep log seat place = (x : LoggedStep) × (slice_get log place ≡ Some x) × (x.seat ≡ seat)

-- the first step of a call and its last are of its pass, and its point comes between them
pub record IsTimed (log : Log) (seat : ℕ) (c : CompletedCall) : Type 0 where
  pub begins : IsOwnStep log seat c.first_index
  ends : IsOwnStep log seat c.last_index
  pub first : c.first_index ≤ c.last_index
  pub within : (entries_before log c.first_index ≤ point_at log seat c) × (point_at log seat c ≤ entries_before log c.last_index)
  pub by_end : accepts c.reply ≡ true → (point_at log seat c ≡ entries_before log c.last_index) × (entries_before log c.last_index < entries_before log (c.last_index + 1))

-- the first step of a call is of the pass that makes the call
first_own : (log : Log) (seat : ℕ) (h : Pending) (first place : ℕ) → IsOwnStep log seat place → (h ≢ NoCall → IsOwnStep log seat first)
    → IsOwnStep log seat (begun_index h first place)
first_own log seat h first place here was = search (arith, holding, collecting, checking)

-- the completed calls of a pass come one after another, and before the one under way
pub record InTurn (log : Log) (seat : ℕ) (d : LocalState) : Type 0 where
  pub timed : (k : ℕ) (a : CompletedCall) → slice_get d.calls k ≡ Some a → IsTimed log seat a
  pub turns : (k l : ℕ) (a b : CompletedCall) → slice_get d.calls k ≡ Some a → slice_get d.calls l ≡ Some b → k < l → a.last_index < b.first_index
  pub under : d.held ≢ NoCall → IsOwnStep log seat d.first_index × ((k : ℕ) (a : CompletedCall) → slice_get d.calls k ≡ Some a → a.last_index < d.first_index)
  noted : Noted log d.first_index d.held

-- in a log the calls of each pass come one after another
abbrev pub AllInTurn : Log → Type 0
AllInTurn log = (seat : ℕ) → InTurn log seat (local_at seat log)

-- the step in which a call ended is one of the log
pub last_below : (log : Log) (seat : ℕ) (c : CompletedCall) → IsTimed log seat c → c.last_index < length log
last_below log seat c t = at_below log c.last_index t.ends.0 t.ends.1

-- a call that is under way began with a step of the log
pub under_below : (log : Log) (seat : ℕ) (d : LocalState) → InTurn log seat d → d.held ≢ NoCall → d.first_index < length log
under_below log seat d t some = let own = (t.under some).0 in at_below log d.first_index own.0 own.1

-- a log with one step more
module _ (log : Log) (x : LoggedStep) where
  pub begins : IsPrefix (history_of log) (history_of (log ++ x ∷ []))
  begins = (entry_list x.step.entry, sym (history_more log x))

  -- an entry that the step added makes the history longer by one
  grown : (e : Entry) → x.step.entry ≡ Some e → length (history_of (log ++ x ∷ [])) ≡ length (history_of log) + 1
  grown e is = ap length (history_more log x ∙ ap (λ (o : Option Entry). history_of log ++ entry_list o) is) ∙ length_push (history_of log) e

  own_later : (seat place : ℕ) → IsOwnStep log seat place → IsOwnStep (log ++ x ∷ []) seat place
  own_later seat place own = (own.0, at_longer log (x ∷ []) place own.0 own.1, own.2)

  -- a call keeps its point
  pub point_same : (seat : ℕ) (c : CompletedCall) → c.last_index < length log → point_at (log ++ x ∷ []) seat c ≡ point_at log seat c
  point_same seat c below = ap (λ (l : Log). point_of (local_at seat l).held (length (history_of l))) (take-append-le c.last_index log (x ∷ []) (omega arith))

  pub pointed_same : (seat : ℕ) (c : CompletedCall) → IsTimed log seat c → pointed (log ++ x ∷ []) seat c ≡ pointed log seat c
  pointed_same seat c t =
      let below = last_below log seat c t in
      let first = t.first in
      let point = point_same seat c below in
      let begun = entries_same log (x ∷ []) c.first_index (omega arith) in
      let ended = entries_same log (x ∷ []) (c.last_index + 1) (omega arith) in
      λ k. record { number = c.number; call = c.call; reply = c.reply; point = point k; first_index = c.first_index; last_index = c.last_index; begun = begun k; ended = ended k }

  -- and its times
  timed_later : (seat : ℕ) (c : CompletedCall) → IsTimed log seat c → IsTimed (log ++ x ∷ []) seat c
  timed_later seat c t =
      let below = last_below log seat c t in
      let first = t.first in
      let low = t.within.0 in
      let high = t.within.1 in
      let point = point_same seat c below in
      let same_first = entries_same log (x ∷ []) c.first_index (omega arith) in
      let same_last = entries_same log (x ∷ []) c.last_index (omega arith) in
      let same_end = entries_same log (x ∷ []) (c.last_index + 1) (omega arith) in
      record {
        begins = own_later seat c.first_index t.begins;
        ends = own_later seat c.last_index t.ends;
        first = t.first;
        within = (omega arith, omega arith);
        by_end = λ made. let at = (t.by_end made).0 in let grows = (t.by_end made).1 in (omega arith, omega arith);
      }

  -- a point that was noted stays noted, and the calls of a pass stay in turn
  noted_later : (first : ℕ) (h : Pending) → (h ≢ NoCall → first < length log) → Noted log first h → Noted (log ++ x ∷ []) first h
  noted_later first h low s = search (arith, checking, entries_same log (x ∷ []) first, begins_length (history_of log) (history_of (log ++ x ∷ [])) begins)

  turn_later : (seat : ℕ) (d : LocalState) → InTurn log seat d → InTurn (log ++ x ∷ []) seat d
  turn_later seat d t = record {
    timed = λ k a at. timed_later seat a (t.timed k a at);
    turns = t.turns;
    under = λ some. (own_later seat d.first_index (t.under some).0, (t.under some).1);
    noted = noted_later d.first_index d.held (under_below log seat d t) t.noted;
  }

  -- a step in its place
  module _ (place_is : x.step.index ≡ length log) (at_is : x.step.length ≡ length (history_of log)) where
    -- the point of a call that it ends
    pub point_new : (reply : Reply) → point_at (log ++ x ∷ []) x.seat (call_answered reply x.step (local_at x.seat log)) ≡ point_of (local_at x.seat log).held x.step.length
    point_new reply = ap (λ (l : Log). point_of (local_at x.seat l).held (length (history_of l))) (ap (λ (n : ℕ). take n (log ++ x ∷ [])) place_is ∙ take-append_seam log (x ∷ []))
        ∙ ap (point_of (local_at x.seat log).held) (sym at_is)

  module _ (place_is : x.step.index ≡ length log) (at_is : x.step.length ≡ length (history_of log)) (t : InTurn log x.seat (local_at x.seat log)) where
    abbrev d : LocalState
    d = local_at x.seat log

    -- the first step of the call under way is no later than this step, and of this seat
    first_is : begun_index d.held d.first_index x.step.index ≤ x.step.index
    first_is = first_low d.held d.first_index x.step.index (λ some. let low = under_below log x.seat d t some in omega arith)

    begins_here : IsOwnStep (log ++ x ∷ []) x.seat (begun_index d.held d.first_index x.step.index)
    begins_here = first_own (log ++ x ∷ []) x.seat d.held d.first_index x.step.index (x, ap (slice_get (log ++ x ∷ [])) place_is ∙ at_end log x, refl)
        (λ some. own_later x.seat d.first_index (t.under some).0)

    -- all calls that were finished ended before it
    after_all : (k : ℕ) (a : CompletedCall) → slice_get d.calls k ≡ Some a → a.last_index < begun_index d.held d.first_index x.step.index
    after_all k a at = let below = last_below log x.seat a (t.timed k a at) in
        first_after d.held d.first_index x.step.index a.last_index (omega arith) (λ some. (t.under some).1 k a at)

    -- a call that is accepted by this step has its entry, and its point now
    added : (reply : Reply) → AddsBy d.held x.step.length x.step.entry (Answers reply) → accepts reply ≡ true
        → ((e : Entry) × (x.step.entry ≡ Some e)) × (point_of d.held x.step.length ≡ x.step.length)
    added (Accepted accepted) adds made = adds
    added reply adds made = absurd (false≢true made)

    -- a call that this step ends has its first step, its last and its point in order
    timed_now : (reply : Reply) → AddsBy d.held x.step.length x.step.entry (Answers reply) → IsTimed (log ++ x ∷ []) x.seat (call_answered reply x.step d)
    timed_now reply adds =
        let first = begun_index d.held d.first_index x.step.index in
        let low = first_is in
        let long = length_push log x in
        let point = point_within log d.held d.first_index x.step.index x.step.length at_is t.noted in
        let early = point.0 in
        let late = point.1 in
        let same = entries_same log (x ∷ []) first (omega arith) in
        let now = entries_same log (x ∷ []) x.step.index (omega arith) ∙ (ap (entries_before log) place_is ∙ entries_all log) in
        let end : x.step.index + 1 ≡ length (log ++ x ∷ []) = omega arith in
        let all = ap (entries_before (log ++ x ∷ [])) end ∙ entries_all (log ++ x ∷ []) in
        let more = ap length (history_more log x) ∙ length-append (history_of log) (entry_list x.step.entry) in
        let is = point_new place_is at_is reply in
        record {
          begins = begins_here;
          ends = (x, ap (slice_get (log ++ x ∷ [])) place_is ∙ at_end log x, refl);
          first = first_is;
          within = (omega arith, omega arith);
          by_end = λ made.
              let t = added reply adds made in
              let now_is = t.1 in
              let one = ap (λ (o : Option Entry). length (entry_list o)) t.0.1 in
              (omega arith, omega arith);
        }

    -- after a step the calls of its pass come one after another as before
    outcome_in_turn : (o : Outcome) → NotedBy (log ++ x ∷ []) (begun_index d.held d.first_index x.step.index) o → AddsBy d.held x.step.length x.step.entry o
        → InTurn (log ++ x ∷ []) x.seat (with_outcome o x.step d)
    outcome_in_turn (GoesOn held) noted adds =
        record { timed = λ k a at. timed_later x.seat a (t.timed k a at); turns = t.turns; under = λ _. (begins_here, after_all); noted = noted }
    outcome_in_turn (Answers reply) noted adds =
        let c = call_answered reply x.step d in
        record {
          timed = λ k a at. elim (at_either d.calls c k a at) [
            | inl u ↦ timed_later x.seat a (t.timed k a u.1)
            | inr u ↦ subst (IsTimed (log ++ x ∷ []) x.seat) u.1 (timed_now reply adds)
          ];
          turns = λ k l a b at bt less. elim (at_either d.calls c l b bt) [
            | inl v ↦ elim (at_either d.calls c k a at) [ inl u ↦ t.turns k l a b u.1 v.1 less | inr u ↦ let e = u.0 in let low = v.0 in absurd (omega arith) ]
            | inr v ↦ elim (at_either d.calls c k a at) [
              | inl u ↦ subst (λ (z : CompletedCall). a.last_index < z.first_index) v.1 (after_all k a u.1)
              | inr u ↦ let e = u.0 in let f = v.0 in absurd (omega arith)
            ]
          ];
          under = λ some. absurd (some refl);
          noted = tt;
        }

    -- after a step the calls of its pass are in turn, by the step's outcome
    by_outcome : (action : Action) → x.step.entry ≡ entry_by d.number d.held action
        → InTurn (log ++ x ∷ []) x.seat (with_outcome (outcome d.number d.held action x.step.length) x.step d)
    by_outcome action is =
        let o = outcome d.number d.held action x.step.length in
        let low = first_is in
        let first = begun_index d.held d.first_index x.step.index in
        let same = entries_same log (x ∷ []) first (omega arith) in
        let before = entries_low log first in
        let long = begins_length (history_of log) (history_of (log ++ x ∷ [])) begins in
        let adds : AddsBy d.held x.step.length x.step.entry o = subst (λ (z : Option Entry). AddsBy d.held x.step.length z o) (sym is)
        (adds_by d.number d.held action x.step.length) in
        outcome_in_turn o (noted_by (log ++ x ∷ []) d.first_index x.step.index d.number x.step.length d.held action (omega arith) (omega arith)
        (noted_later d.first_index d.held (under_below log x.seat d t) t.noted)) adds

    step_in_turn : (action : Action) → IsNextFor d action → x.step.entry ≡ entry_by d.number d.held action → InTurn (log ++ x ∷ []) x.seat (with_action action x.step d)
    step_in_turn (Match kind game found) next is = by_outcome (Match kind game found) is
    step_in_turn (CountRead found) next is = by_outcome (CountRead found) is
    step_in_turn (CountRaised found) next is =
        let u = turn_later x.seat d t in
        record { timed = u.timed; turns = u.turns; under = u.under; noted = u.noted }
    step_in_turn (Whole shown) next is = absurd next

-- a completed call stays where it is among those of its pass
pub calls_kept : (action : Action) (y : TakenStep) (d : LocalState) (k : ℕ) (a : CompletedCall) → slice_get d.calls k ≡ Some a → slice_get (with_action action y d).calls k ≡ Some a
calls_kept action y d k a at = search (arith, at_longer)

-- in a log with one step more the calls of each pass come one after another
next_in_turn : (log : Log) (x : LoggedStep) → AllInTurn log → MayBeTaken log x → IsNextOfProtocol log x → AllInTurn (log ++ x ∷ [])
next_in_turn log x r may next =
    let d = local_at x.seat log in
    by_seat log x (InTurn (log ++ x ∷ [])) (with_step d x.step) refl (step_in_turn log x may.index may.length (r x.seat) x.step.action next.next next.entry)
    (λ seat not. turn_later log x seat (local_at seat log) (r seat))

-- in each log that follows the protocol the calls of each pass come in turn
pub all_in_turn : (log : Log) → IsConsistentLog log → FollowsProtocol log → AllInTurn log
all_in_turn log = may_induction MayBeTaken (λ l. FollowsProtocol l → AllInTurn l)
    (λ f seat. record {
      timed = λ k a at. absurd (none-some a at);
      turns = λ k l a b at bt less. absurd (none-some a at);
      under = λ some. absurd (some refl);
      noted = tt;
    })
    (λ xs x before may was f. next_in_turn xs x (was (may_begin IsNextOfProtocol xs (x ∷ []) f)) may (may_last IsNextOfProtocol xs x f))
    log

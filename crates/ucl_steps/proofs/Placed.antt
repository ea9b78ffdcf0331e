-- A linearization of each log: each call that ends is placed by its point, a report so at the end, a reading before the accepted report of
-- its point, if there is one already. A longer log leaves the reports where they are.
use Rattle.ucl_steps.proofs.Common.{IsPrefix, ◌≡◌, ◌≢◌, inl, inr, ◌⊎◌, ℕ, zero, suc, ◌+◌, ◌<◌, ◌≤◌, ◌==◌, Bool, true, false, cond, List, [], ◌∷◌, ◌++◌, length, map}
use Rattle.ucl_steps.proofs.Common.{Option, Some, slice_get, refl, sym, ap, ◌∙◌, subst, arith, append-nil, append_assoc, eq-eqb, ne_eqb}
use Rattle.ucl_steps.proofs.Common.{cases_eq, cases_lt, none-some, same_Some, false≢true, length-append, map-append}
use Rattle.ucl_steps.proofs.Common.{at_below, at_either, at_end, may_next, CompletedCall, Entry}
use Rattle.ucl_steps.proofs.Common.{accepts}
use Rattle.ucl_steps.proofs.Common.{Call, Reply, Pending, Outcome, GoesOn, Answers}
use Rattle.std.specs.Prelude.{filter}
use Rattle.std.proofs.lemmas.List.Elements.{filter-append}
use Rattle.ucl_word.proofs.Sequences.{may_begin, may_induction, may_last}
use Rattle.ucl_log.specs.Log.{CountRaised, IsConsistentLog, Log, LoggedStep, MayBeTaken, TakenStep, Action, entry_list, history_of}
use Rattle.ucl_board.proofs.HistoryTheorems.{begins_same, begins_through}
use Rattle.ucl_log.proofs.Logs.{history_more}
use Rattle.ucl_steps.proofs.LocalStates.{AllInTurn, point_new, pointed_same, all_in_turn, by_seat, checking, local_own, entries_all, entries_rise, entries_same, last_below, look_none}
use Rattle.ucl_steps.proofs.LaterLogs.{calls_stay}
use Rattle.ucl_steps.proofs.LogHistory.{logs_have_points}
use Rattle.ucl_steps.specs.LocalState.{LocalState, FollowsProtocol, IsNextFor, IsNextOfProtocol, call_answered, call_asked, local_at, entry_by, outcome}
use Rattle.ucl_steps.specs.LocalState.{with_step, with_action}
use Rattle.ucl_steps.specs.LocalState.{IsCompletedCall}
use Rattle.ucl_steps.proofs.Points.{HasPoints, IsExplained, PointedCall, entries_before, point_of, pointed}
use Rattle.ucl_steps.specs.Linearizability.{Operation}
use Rattle.ucl_steps.specs.Strong.{is_report}
use Rattle.ucl_steps.proofs.CallEvents.{events_before}
use Rattle.ucl_steps.proofs.CallHistories.{events_same}
use Rattle.ucl_steps.proofs.EventLists.{same_fields}

-- a completed call with its point, the seat of its pass and its turn
pub record Done : Type 0 where
  pub seat : ℕ
  pub turn : ℕ
  pub call : PointedCall

abbrev pub done_of : ℕ → ℕ → PointedCall → Done
done_of seat turn c = record { seat = seat; turn = turn; call = c }

-- it as the operation that was invoked at this place
abbrev pub operation_with : (Done → ℕ) → Done → Operation (ℕ × Call) Reply
operation_with place d = record { process = d.seat; call = (d.call.number, d.call.call); invoked = place d; reply = d.call.reply }

-- the operation that it is in the history of calls of a log
abbrev pub as_operation : Log → Done → Operation (ℕ × Call) Reply
as_operation log d = operation_with (λ (e : Done). events_before log e.call.first_index) d

-- how many entries a call made
abbrev pub size : Done → ℕ
size d = cond (accepts d.call.reply) 1 0

abbrev pub sizes : List Done → ℕ
sizes [] = 0
sizes (d ∷ list) = size d + sizes list

pub size_cases : (d : Done) → ((accepts d.call.reply ≡ true) × (size d ≡ 1)) ⊎ ((accepts d.call.reply ≡ false) × (size d ≡ 0))
size_cases d = search arith

-- calls in the order of their points, with one more in its place: before the accepted one of its point, if there is one, else at the end
abbrev pub place : Done → List Done → List Done
place r [] = r ∷ []
place r (d ∷ list) = cond (cond (accepts d.call.reply) (d.call.point == r.call.point) false) (r ∷ d ∷ list) (d ∷ place r list)

-- a call is placed here, if the first of the others is accepted and of its point, or further on
place_cases : (r d : Done) (list : List Done) → ((place r (d ∷ list) ≡ r ∷ d ∷ list) × (size d ≡ 1) × (accepts d.call.reply ≡ true) × (d.call.point ≡ r.call.point))
    ⊎ ((place r (d ∷ list) ≡ d ∷ place r list) × (accepts d.call.reply ≡ true → d.call.point ≢ r.call.point))
place_cases r d list = let by = λ (b : Bool). cond b (r ∷ d ∷ list) (d ∷ place r list) in elim (size_cases d) [
  | inr t ↦ inr (ap (λ (c : Bool). by (cond c (d.call.point == r.call.point) false)) t.0, λ so. absurd (false≢true (sym t.0 ∙ so)))
  | inl t ↦ elim (cases_eq d.call.point r.call.point) [
    | inl same ↦ inl (ap (λ (c : Bool). by (cond c (d.call.point == r.call.point) false)) t.0 ∙ ap by (eq-eqb d.call.point r.call.point same), t.1, t.0, same)
    | inr not ↦ inr (ap (λ (c : Bool). by (cond c (d.call.point == r.call.point) false)) t.0 ∙ ap by (ne_eqb d.call.point r.call.point not), λ _. not)
  ]
]

-- P holds of each call of a list
abbrev pub Each : (Done → Type 0) → List Done → Type 0
Each P list = (q : ℕ) (e : Done) → slice_get list q ≡ Some e → P e

-- the point of each call is how many entries those before it made, from n on
abbrev pub PointsFrom : ℕ → List Done → Type 0
PointsFrom n [] = Unit {0}
PointsFrom n (d ∷ list) = (d.call.point ≡ n) × PointsFrom (n + size d) list

-- d did not begin after e ended, and is another call
pub record Before (d e : Done) : Type 0 where
  pub first : d.call.first_index ≤ e.call.last_index
  pub apart : d.seat ≡ e.seat → d.turn ≡ e.turn → ⊥

abbrev pub Pairs : List Done → Type 0
Pairs [] = Unit {0}
Pairs (d ∷ list) = Each (Before d) list × Pairs list

-- a call has its point no later than its end, and before it if it was accepted
pub record Fits (e : Done) : Type 0 where
  pub late : e.call.point ≤ e.call.ended
  pub made : accepts e.call.reply ≡ true → e.call.point < e.call.ended

-- the elements of a list with one more at its front
front : (r : Done) (xs : List Done) (p : ℕ) (e : Done) → slice_get (r ∷ xs) p ≡ Some e → (r ≡ e) ⊎ ((q : ℕ) × (slice_get xs q ≡ Some e))
front r xs p e at = search (arith, same_Some)

pub place_new : (r : Done) (list : List Done) → (p : ℕ) × (slice_get (place r list) p ≡ Some r)
place_new r [] = (0, refl)
place_new r (d ∷ list) = let n = place_new r list in elim (place_cases r d list) [
  | inl t ↦ subst (λ (l : List Done). (p : ℕ) × (slice_get l p ≡ Some r)) (sym t.0) (0, refl)
  | inr t ↦ subst (λ (l : List Done). (p : ℕ) × (slice_get l p ≡ Some r)) (sym t.0) (suc n.0, n.1)
]

pub place_old : (r : Done) (list : List Done) (q : ℕ) (e : Done) → slice_get list q ≡ Some e → (p : ℕ) × (slice_get (place r list) p ≡ Some e)
place_old r [] q e at = absurd (none-some e at)
place_old r (d ∷ list) q e at = let rest = place_old r list in elim (place_cases r d list) [
  | inl t ↦ subst (λ (l : List Done). (p : ℕ) × (slice_get l p ≡ Some e)) (sym t.0) (suc q, at)
  | inr t ↦ subst (λ (l : List Done). (p : ℕ) × (slice_get l p ≡ Some e)) (sym t.0) (elim (front d list q e at) [
    | inl same ↦ (0, ap (λ (z : Done). Some z) same)
    | inr u ↦ let n = rest u.0 e u.1 in (suc n.0, n.1)
  ])
]

pub place_from : (r : Done) (list : List Done) (p : ℕ) (e : Done) → slice_get (place r list) p ≡ Some e → (r ≡ e) ⊎ ((q : ℕ) × (slice_get list q ≡ Some e))
place_from r [] p e at = front r [] p e at
place_from r (d ∷ list) p e at = let rest = place_from r list in elim (place_cases r d list) [
  | inl t ↦ front r (d ∷ list) p e (subst (λ (l : List Done). slice_get l p ≡ Some e) t.0 at)
  | inr t ↦ elim (front d (place r list) p e (subst (λ (l : List Done). slice_get l p ≡ Some e) t.0 at)) [
    | inl same ↦ inr (0, ap (λ (z : Done). Some z) same)
    | inr u ↦ elim (rest u.0 e u.1) [ inl same ↦ inl same | inr v ↦ inr (suc v.0, v.1) ]
  ]
]

pub sizes_place : (r : Done) (list : List Done) → sizes (place r list) ≡ size r + sizes list
sizes_place r [] = refl
sizes_place r (d ∷ list) = let rest = sizes_place r list in elim (place_cases r d list) [
  | inl t ↦ subst (λ (l : List Done). sizes l ≡ size r + (size d + sizes list)) (sym t.0) refl
  | inr t ↦ subst (λ (l : List Done). sizes l ≡ size r + (size d + sizes list)) (sym t.0) (omega arith)
]

-- after a call that is not to come after r there are no more entries than the point of r
past : (r d : Done) (n : ℕ) → d.call.point ≡ n → n ≤ r.call.point → (accepts d.call.reply ≡ true → d.call.point ≢ r.call.point) → n + size d ≤ r.call.point
past r d n is low not = elim (size_cases d) [
  | inl t ↦ let one = t.1 in elim (cases_lt n r.call.point) [ inl less ↦ omega arith | inr high ↦ absurd (not t.0 (omega arith)) ]
  | inr t ↦ let none = t.1 in omega arith
]

pub points_place : (r : Done) (list : List Done) (n : ℕ) → PointsFrom n list → n ≤ r.call.point → r.call.point ≤ n + sizes list → (accepts r.call.reply ≡ true → r.call.point ≡ n + sizes list)
    → PointsFrom n (place r list)
points_place r [] n points low high last = (omega arith, tt)
points_place r (d ∷ list) n points low high last = let rest = points_place r list (n + size d) points.1 in elim (place_cases r d list) [
  | inl t ↦ subst (λ (l : List Done). PointsFrom n l) (sym t.0) (elim (size_cases r) [
    | inl u ↦ let end = last u.0 in let one = t.1 in let same = t.3 in let is = points.0 in absurd (omega arith)
    | inr u ↦
        let none = u.1 in
        let same = t.3 in
        let is = points.0 in
        let zero_more : n ≡ n + size r = omega arith in
        (omega arith, subst (λ (k : ℕ). PointsFrom k (d ∷ list)) zero_more points)
  ])
  | inr t ↦ subst (λ (l : List Done). PointsFrom n l) (sym t.0)
      (points.0, rest (past r d n points.0 low t.1) (omega arith) (λ so. let end = last so in omega arith))
]

points_low : (n : ℕ) (list : List Done) → PointsFrom n list → Each (λ e. n ≤ e.call.point) list
points_low n [] points q e at = absurd (none-some e at)
points_low n (d ∷ list) points zero e at = let same = ap (λ (z : Done). z.call.point) (same_Some d e at) in let is = points.0 in omega arith
points_low n (d ∷ list) points (suc q) e at = let low = points_low (n + size d) list points.1 q e at in omega arith

pub pairs_place : (r : Done) (list : List Done) (n : ℕ) → PointsFrom n list → Each Fits list → Each (λ e. Before e r) list → Each (λ e. r.call.point < e.call.ended → Before r e) list
    → Pairs list → Pairs (place r list)
pairs_place r [] n points fits before after pairs = (λ q e at. absurd (none-some e at), tt)
pairs_place r (d ∷ list) n points fits before after pairs =
    let rest = pairs_place r list (n + size d) points.1 (λ q. fits (suc q)) (λ q. before (suc q)) (λ q. after (suc q)) pairs.1 in
    let low = points_low (n + size d) list points.1 in
    elim (place_cases r d list) [
      | inl t ↦ subst (λ (l : List Done). Pairs l) (sym t.0) (
        λ q e at. after q e at (elim (front d list q e at) [
          | inl same ↦ subst (λ (z : Done). r.call.point < z.call.ended) same (let f = (fits 0 d refl).made t.2 in let is = t.3 in omega arith)
          | inr u ↦ let high = low u.0 e u.1 in let one = t.1 in let is = t.3 in let here = points.0 in let late = (fits q e at).late in omega arith
        ]),
        pairs,
      )
      | inr t ↦ subst (λ (l : List Done). Pairs l) (sym t.0) (
        λ q e at. elim (place_from r list q e at) [ inl same ↦ subst (Before d) same (before 0 d refl) | inr u ↦ pairs.0 u.0 e u.1 ],
        rest,
      )
    ]

pub pair_at : (list : List Done) → Pairs list → (p q : ℕ) (d e : Done) → p < q → slice_get list p ≡ Some d → slice_get list q ≡ Some e → Before d e
pair_at [] pairs p q d e less at bt = absurd (none-some d at)
pair_at (x ∷ list) pairs p zero d e less at bt = absurd (omega arith)
pair_at (x ∷ list) pairs zero (suc q) d e less at bt = subst (λ (z : Done). Before z e) (same_Some x d at) (pairs.0 q e bt)
pair_at (x ∷ list) pairs (suc p) (suc q) d e less at bt = pair_at list pairs.1 p q d e (omega arith) at bt

-- a call with all entries before it is placed at the end
end_place : (r : Done) (list : List Done) (n : ℕ) → PointsFrom n list → r.call.point ≡ n + sizes list → place r list ≡ list ++ r ∷ []
end_place r [] n points last = refl
end_place r (d ∷ list) n points last = let rest = end_place r list (n + size d) points.1 in elim (place_cases r d list) [
  | inl t ↦ let one = t.1 in let same = t.3 in let is = points.0 in absurd (omega arith)
  | inr t ↦ subst (λ (l : List Done). l ≡ d ∷ (list ++ r ∷ [])) (sym t.0) (ap (λ (l : List Done). d ∷ l) (rest (omega arith)))
]

-- whether an operation is a report
abbrev fixed : Operation (ℕ × Call) Reply → Bool
fixed o = is_report o.call.1

-- the reports among calls, as operations
abbrev pub reports : Log → List Done → List (Operation (ℕ × Call) Reply)
reports log list = filter fixed (map (as_operation log) list)

-- a reading leaves the reports as they are, and a call at the end is added to them if it is one
reading_place : (log : Log) (r : Done) (list : List Done) → is_report r.call.call ≡ false → reports log (place r list) ≡ reports log list
reading_place log r [] is = ap (λ (b : Bool). cond b (as_operation log r ∷ []) []) is
reading_place log r (d ∷ list) is = let rest = reading_place log r list is in elim (place_cases r d list) [
  | inl t ↦ subst (λ (l : List Done). reports log l ≡ reports log (d ∷ list)) (sym t.0)
      (ap (λ (b : Bool). cond b (as_operation log r ∷ reports log (d ∷ list)) (reports log (d ∷ list))) is)
  | inr t ↦ subst (λ (l : List Done). reports log l ≡ reports log (d ∷ list)) (sym t.0)
      (ap (λ (l : List (Operation (ℕ × Call) Reply)). cond (is_report d.call.call) (as_operation log d ∷ l) l) rest)
]

end_reports : (log : Log) (r : Done) (list : List Done) → reports log (list ++ r ∷ []) ≡ reports log list ++ filter fixed (as_operation log r ∷ [])
end_reports log r list = ap (filter fixed) (map-append (as_operation log) list (r ∷ [])) ∙ filter-append fixed (map (as_operation log) list) (as_operation log r ∷ [])

-- calls that are the same operations in two logs
same_map : (f g : Done → Operation (ℕ × Call) Reply) (list : List Done) → Each (λ e. f e ≡ g e) list → map f list ≡ map g list
same_map f g [] each = refl
same_map f g (d ∷ list) each = ap (λ (o : Operation (ℕ × Call) Reply). o ∷ map f list) (each 0 d refl)
    ∙ ap (λ (l : List (Operation (ℕ × Call) Reply)). g d ∷ l) (same_map f g list (λ q. each (suc q)))

-- the outcome of a step after a log
abbrev outcome_after : Log → LoggedStep → Outcome
outcome_after log x = let d = local_at x.seat log in outcome d.number d.held x.step.action x.step.length

-- the calls after a step of this outcome
abbrev placed_by : Log → LoggedStep → Outcome → List Done → List Done
placed_by log x (GoesOn held) list = list
placed_by log x (Answers reply) list =
    let d = local_at x.seat log in place (done_of x.seat (length d.calls) (pointed (log ++ x ∷ []) x.seat (call_answered reply x.step d))) list

abbrev placed_after : Log → LoggedStep → List Done → List Done
placed_after log x list = placed_by log x (outcome_after log x) list

-- the completed calls of a log, each in its place
abbrev done_after : Log → List Done → Log → List Done
done_after before list [] = list
done_after before list (x ∷ log) = done_after (before ++ x ∷ []) (placed_after before x list) log

abbrev pub done : Log → List Done
done log = done_after [] [] log

done_append : (before : Log) (list : List Done) (xs ys : Log) → done_after before list (xs ++ ys) ≡ done_after (before ++ xs) (done_after before list xs) ys
done_append before list [] ys = ap (λ (l : Log). done_after l list ys) (sym (append-nil before))
done_append before list (x ∷ xs) ys =
    done_append (before ++ x ∷ []) (placed_after before x list) xs ys
    ∙ ap (λ (l : Log). done_after l (done_after (before ++ x ∷ []) (placed_after before x list) xs) ys) (append_assoc before (x ∷ []) xs)

done_more : (log : Log) (x : LoggedStep) → done (log ++ x ∷ []) ≡ placed_after log x (done log)
done_more log x = done_append [] [] log (x ∷ [])

-- an enlistment ends no call
enlists_on : (number : ℕ) (h : Pending) (found now : ℕ) → outcome number h (CountRaised found) now ≡ GoesOn h
enlists_on number h found now = search arith

-- how many entries come with an outcome
abbrev size_by : Outcome → ℕ
size_by (GoesOn held) = 0
size_by (Answers reply) = cond (accepts reply) 1 0

size_is : (number : ℕ) (h : Pending) (t : Action) (now : ℕ) → length (entry_list (entry_by number h t)) ≡ size_by (outcome number h t now)
size_is number h t now = search (arith, look_none)

-- a report takes effect at the step at which it ends
point_now : (d : LocalState) (h : Pending) (t : Action) (now : ℕ) → d.held ≡ h → IsNextFor d t → is_report (call_asked h t) ≡ true → point_of h now ≡ now
point_now d h t now holds next asked = search (arith, false≢true, checking)

-- what a step leaves of the completed calls of its pass, by its outcome
calls_on : (d : LocalState) (x : TakenStep) (t : Action) (held : Pending) → outcome d.number d.held t x.length ≡ GoesOn held → (with_action t x d).calls ≡ d.calls
calls_on d x t held on = search arith

calls_end : (d : LocalState) (x : TakenStep) (t : Action) (reply : Reply) → outcome d.number d.held t x.length ≡ Answers reply → (with_action t x d).calls ≡ d.calls ++ call_answered reply x d ∷ []
calls_end d x t reply on = search (arith, enlists_on)

-- this is a completed call of the log
pub record IsDoneCall (log : Log) (e : Done) : Type 0 where
  pub call : CompletedCall
  pub is : IsCompletedCall log e.seat e.turn call
  pub same : pointed log e.seat call ≡ e.call

-- a completed call of the log is among these
abbrev pub HasPlace : Log → List Done → ℕ → ℕ → CompletedCall → Type 0
HasPlace log list seat turn c = (p : ℕ) × (slice_get list p ≡ Some (done_of seat turn (pointed log seat c)))

-- these calls are the completed ones of the log, each once, in the order of time and of their points
pub record IsDone (log : Log) (list : List Done) : Type 0 where
  pub are : Each (IsDoneCall log) list
  pub all : (seat turn : ℕ) (c : CompletedCall) → IsCompletedCall log seat turn c → HasPlace log list seat turn c
  pub pairs : Pairs list
  pub points : PointsFrom 0 list
  pub size_all : sizes list ≡ length (history_of log)

-- a log with one step more
module _ (log : Log) (x : LoggedStep) (is : IsConsistentLog (log ++ x ∷ [])) (follows : FollowsProtocol (log ++ x ∷ [])) (list : List Done) (was : IsDone log list) where
  may : MayBeTaken log x
  may = may_last MayBeTaken log x is

  next : IsNextOfProtocol log x
  next = may_last IsNextOfProtocol log x follows

  abbrev d : LocalState
  d = local_at x.seat log

  abbrev longer : Log
  longer = log ++ x ∷ []

  turns : AllInTurn log
  turns = all_in_turn log (may_begin MayBeTaken log (x ∷ []) is) (may_begin IsNextOfProtocol log (x ∷ []) follows)

  -- old calls stay
  stays : (seat turn : ℕ) (c : CompletedCall) → IsCompletedCall log seat turn c → IsCompletedCall longer seat turn c
  stays seat turn c at = calls_stay log longer seat turn c (x ∷ [], refl) at

  keeps : (seat turn : ℕ) (c : CompletedCall) → IsCompletedCall log seat turn c → pointed longer seat c ≡ pointed log seat c
  keeps seat turn c at = pointed_same log x seat c ((turns seat).timed turn c at)

  still : (e : Done) → IsDoneCall log e → IsDoneCall longer e
  still e u = record { call = u.call; is = stays e.seat e.turn u.call u.is; same = keeps e.seat e.turn u.call u.is ∙ u.same }

  has_place : (more : List Done) → ((q : ℕ) (e : Done) → slice_get list q ≡ Some e → (p : ℕ) × (slice_get more p ≡ Some e))
      → (seat turn : ℕ) (c : CompletedCall) → IsCompletedCall log seat turn c → HasPlace longer more seat turn c
  has_place more old seat turn c at =
      let u = was.all seat turn c at in
      old u.0 (done_of seat turn (pointed longer seat c)) (u.1 ∙ ap (λ (z : PointedCall). Some (done_of seat turn z)) (sym (keeps seat turn c at)))

  grows : length (history_of longer) ≡ length (history_of log) + size_by (outcome_after log x)
  grows = ap length (history_more log x) ∙ (length-append (history_of log) (entry_list x.step.entry)
      ∙ ap (λ (n : ℕ). length (history_of log) + n) (ap (λ (o : Option Entry). length (entry_list o)) next.entry ∙ size_is d.number d.held x.step.action x.step.length))

  -- old operations stay
  same_reports : reports longer list ≡ reports log list
  same_reports = ap (filter fixed) (same_map (as_operation longer) (as_operation log) list (λ q e at.
      let u = was.are q e at in
      let timed = (turns e.seat).timed e.turn u.call u.is in
      let below = last_below log e.seat u.call timed in
      let low = timed.first in
      let first = ap (λ (z : PointedCall). z.first_index) u.same in
      same_fields (as_operation longer e) (as_operation log e) refl refl (events_same log x e.call.first_index (omega arith)) refl))

  -- the call goes on
  done_on : (held : Pending) → outcome_after log x ≡ GoesOn held → IsDone longer list
  done_on held on = record {
    are = λ q e at. still e (was.are q e at);
    all = by_seat log x (λ seat y. (turn : ℕ) (c : CompletedCall) → slice_get y.calls turn ≡ Some c → HasPlace longer list seat turn c) (with_step d x.step) refl
        (λ turn c at. has_place list (λ q e u. (q, u)) x.seat turn c (ap (λ (l : List CompletedCall). slice_get l turn) (sym (calls_on d x.step x.step.action held on)) ∙ at))
        (λ seat not. has_place list (λ q e u. (q, u)) seat);
    pairs = was.pairs;
    points = was.points;
    size_all = let sizes_were = was.size_all in let more = grows in let none = ap size_by on in omega arith;
  }

  -- the call ends
  module _ (reply : Reply) (on : outcome_after log x ≡ Answers reply) where
    abbrev c : CompletedCall
    c = call_answered reply x.step d

    abbrev r : Done
    r = done_of x.seat (length d.calls) (pointed longer x.seat c)

    own_calls : (local_at x.seat longer).calls ≡ d.calls ++ c ∷ []
    own_calls = ap (λ (y : LocalState). y.calls) (local_own log x) ∙ calls_end d x.step x.step.action reply on

    is_call : IsCompletedCall longer x.seat (length d.calls) c
    is_call = ap (λ (l : List CompletedCall). slice_get l (length d.calls)) own_calls ∙ at_end d.calls c

    lin : HasPoints longer
    lin = logs_have_points longer is follows

    explains : (e : Done) → IsDoneCall log e → IsExplained (history_of longer) e.call
    explains e u = let v = still e u in subst (IsExplained (history_of longer)) v.same (lin.explained e.seat e.turn v.call v.is)

    -- there are as many entries before the step as the log has
    here : entries_before longer c.last_index ≡ length (history_of log)
    here = ap (entries_before longer) may.index ∙ (entries_same log (x ∷ []) (length log) (omega arith) ∙ entries_all log)

    low_point : r.call.point ≤ 0 + sizes list
    low_point = let late = (lin.timely x.seat (length d.calls) c is_call).1 in let same = here in let all = was.size_all in omega arith

    accepted_last : accepts c.reply ≡ true → r.call.point ≡ 0 + sizes list
    accepted_last so =
        let timed = (all_in_turn longer is follows x.seat).timed (length d.calls) c is_call in
        let end = (timed.by_end so).0 in let same = here in let all = was.size_all in omega arith

    report_last : is_report c.call ≡ true → r.call.point ≡ 0 + sizes list
    report_last so =
        let new = point_new log x may.index may.length reply in
        let point = point_now d d.held x.step.action x.step.length refl next.next so in
        let at = may.length in
        let all = was.size_all in
        omega arith

    fits : Each Fits list
    fits q e at = let s = explains e (was.are q e at) in record { late = s.within.1; made = λ so. (s.makes so).by_end }

    -- each call of the log began before the step, and is another
    comes_after : Each (λ e. Before e r) list
    comes_after q e at =
        let u = was.are q e at in
        let turn = (explains e u).turn in
        let ended = last_below log e.seat u.call ((turns e.seat).timed e.turn u.call u.is) in
        let last = may.index in
        let same = ap (λ (z : PointedCall). z.last_index) u.same in
        record {
          first = omega arith;
          apart = λ seat same.
              let low = at_below (local_at e.seat log).calls e.turn u.call u.is in
              let long = ap (λ (n : ℕ). length (local_at n log).calls) seat in
              omega arith;
        }

    -- and one that had not ended when the call took effect did not end before it began
    comes_before : Each (λ e. r.call.point < e.call.ended → Before r e) list
    comes_before q e at later =
        let other = comes_after q e at in
        let v = still e (was.are q e at) in
        record {
          first = elim (cases_lt e.call.last_index c.first_index) [
            | inl less ↦
                let last = ap (λ (z : PointedCall). z.last_index) v.same in
                let ends = ap (λ (z : PointedCall). z.ended) v.same in
                let rise = entries_rise longer (v.call.last_index + 1) c.first_index (omega arith) in
                let within = (lin.explained x.seat (length d.calls) c is_call).within.0 in
                absurd (omega arith)
            | inr not ↦ not
          ];
          apart = λ seat turn. other.apart (sym seat) (sym turn);
        }

    reports_then : reports longer (place r list) ≡ reports longer list ++ filter fixed (as_operation longer r ∷ [])
    reports_then = by (is_report c.call) refl
      where
        by : (b : Bool) → is_report c.call ≡ b → reports longer (place r list) ≡ reports longer list ++ filter fixed (as_operation longer r ∷ [])
        by true so = ap (reports longer) (end_place r list 0 was.points (report_last so)) ∙ end_reports longer r list
        by false other = reading_place longer r list other ∙ sym (ap (λ (b : Bool). reports longer list ++ cond b (as_operation longer r ∷ []) []) other
            ∙ append-nil (reports longer list))

    done_end : IsDone longer (place r list)
    done_end = record {
      are = λ q e at. elim (place_from r list q e at) [
        | inl same ↦ subst (IsDoneCall longer) same (record { call = c; is = is_call; same = refl })
        | inr u ↦ still e (was.are u.0 e u.1)
      ];
      all = by_seat log x (λ seat y. (turn : ℕ) (a : CompletedCall) → slice_get y.calls turn ≡ Some a → HasPlace longer (place r list) seat turn a) (with_step d x.step) refl
          (λ turn a at. elim (at_either d.calls c turn a (ap (λ (l : List CompletedCall). slice_get l turn) (sym (calls_end d x.step x.step.action reply on)) ∙ at)) [
            | inl u ↦ has_place (place r list) (place_old r list) x.seat turn a u.1
            | inr u ↦ subst (λ (n : ℕ). HasPlace longer (place r list) x.seat n a) (sym u.0)
                (subst (HasPlace longer (place r list) x.seat (length d.calls)) u.1 (place_new r list))
          ])
          (λ seat not. has_place (place r list) (place_old r list) seat);
      pairs = pairs_place r list 0 was.points fits comes_after comes_before was.pairs;
      points = points_place r list 0 was.points (omega arith) low_point accepted_last;
      size_all = let sum = sizes_place r list in let all = was.size_all in let more = grows in let one = ap size_by on in omega arith;
    }

  done_next : (o : Outcome) → outcome_after log x ≡ o → IsDone longer (placed_by log x o list) × IsPrefix (reports log list) (reports longer (placed_by log x o list))
  done_next (GoesOn held) on = (done_on held on, subst (IsPrefix (reports log list)) (sym same_reports) (begins_same (reports log list)))
  done_next (Answers reply) on = (
    done_end reply on,
    (
      filter fixed (as_operation longer (r reply on) ∷ []),
      ap (λ (l : List (Operation (ℕ × Call) Reply)). l ++ filter fixed (as_operation longer (r reply on) ∷ [])) (sym same_reports) ∙ sym (reports_then reply on),
    ),
  )

-- the calls that are placed are those of the log
pub done_all : (log : Log) → IsConsistentLog log → FollowsProtocol log → IsDone log (done log)
done_all log is = may_induction MayBeTaken (λ l. FollowsProtocol l → IsDone l (done l))
    (λ f. search (arith, none-some))
    (λ xs x before may was f.
    subst (IsDone (xs ++ x ∷ [])) (sym (done_more xs x))
    (done_next xs x (may_next MayBeTaken xs x before may) f (done xs) (was (may_begin IsNextOfProtocol xs (x ∷ []) f)) (outcome_after xs x) refl).0)
    log is

-- a longer log leaves the reports as they are, and in their order
pub reports_stay : (log more : Log) → IsConsistentLog (log ++ more) → FollowsProtocol (log ++ more) → IsPrefix (reports log (done log)) (reports (log ++ more) (done (log ++ more)))
reports_stay log [] is follows = subst (λ (l : Log). IsPrefix (reports log (done log)) (reports l (done l))) (sym (append-nil log)) (begins_same (reports log (done log)))
reports_stay log (x ∷ more) is follows =
    let longer = log ++ x ∷ [] in
    let assoc : longer ++ more ≡ log ++ x ∷ more = append_assoc log (x ∷ []) more in
    let all = subst IsConsistentLog (sym assoc) is in
    let followed = subst FollowsProtocol (sym assoc) follows in
    let one = may_begin MayBeTaken longer more all in
    let one_follows = may_begin IsNextOfProtocol longer more followed in
    let was = done_all log (may_begin MayBeTaken log (x ∷ []) one) (may_begin IsNextOfProtocol log (x ∷ []) one_follows) in
    let step = (done_next log x one one_follows (done log) was (outcome_after log x) refl).1 in
    begins_through (reports log (done log)) (reports longer (done longer)) (reports (log ++ x ∷ more) (done (log ++ x ∷ more)))
    (subst (λ (l : List Done). IsPrefix (reports log (done log)) (reports longer l)) (sym (done_more log x)) step)
    (subst (λ (l : Log). IsPrefix (reports longer (done longer)) (reports l (done l))) assoc (reports_stay longer more all followed))

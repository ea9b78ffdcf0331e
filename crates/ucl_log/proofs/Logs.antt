-- Logs with one step more: their history, the steps of each seat, their entries and numbers; prefixes of logs; and facts of legal logs.
use Rattle.std.proofs.Common.{◌≡◌, ◌≢◌, inl, inr, ℕ, zero, suc, ◌+◌, ◌<◌, ◌≤◌, Bool, true, false, ◌==◌, cond, List, [], ◌∷◌, ◌++◌, map}
use Rattle.std.proofs.Common.{length, Option, Some, None, refl, sym, ap, ◌∙◌, subst, arith, append-nil, append_assoc, length-append}
use Rattle.std.proofs.Common.{eq-eqb, ne_eqb, filter, slice_get, ◌⊎◌, le_refl}
use Rattle.std.specs.List.{All, flat_map}
use Rattle.std.proofs.lemmas.Bool.{cases_eq, eqb-true}
use Rattle.std.proofs.lemmas.List.{append_cancel_left, map-append, length-take-le}
use Rattle.std.proofs.lemmas.List.Concat.{flat_map-append}
use Rattle.std.proofs.lemmas.List.Elements.{filter-append, All-head, All-tail, All-nil, All-cons, All-append}
use Rattle.std.proofs.lemmas.List.Sums.{fold-append}
use mathlib.Core.List.{IsPrefix}
use Rattle.ucl_word.proofs.Sequences.{at_below, at_end, may_none, may_next, may_induction, may_begin, may_last}
use Rattle.ucl_board.specs.declared.entry.Entry.{Entry}
use Rattle.ucl_log.specs.Log.{TakenStep, LoggedStep, logged_by, Log, taken_by, entry_list, added_by, history_of, enlists, enlisted_by, number_by}
use Rattle.ucl_log.specs.Log.{number_of, access_list, accesses_in, IsConsistentLog, Action, CountRaised, ReadsCurrent, MayBeTaken, MayAdd, MayEnlist}
use Rattle.ucl_log.specs.Log.{IsLegalStep, HasLegalSteps, LogFacts}
use Rattle.ucl_board.proofs.HistoryTheorems.{at_beginning}
use Rattle.ucl_board.specs.History.{IsLegal, MayFollow}

-- the history of two logs, one after the other, is that of the first and then that of the second
pub history_append : (xs ys : Log) → history_of (xs ++ ys) ≡ history_of xs ++ history_of ys
history_append xs ys = flat_map-append (λ (y : LoggedStep). entry_list y.step.entry) xs ys

-- the history of a log with one step more at its end has the entry of this step, if it added one, at its end
pub history_more : (log : Log) (x : LoggedStep) → history_of (log ++ x ∷ []) ≡ history_of log ++ entry_list x.step.entry
history_more log x = history_append log (x ∷ []) ∙ ap (λ (l : List Entry). history_of log ++ l) (append-nil (entry_list x.step.entry))

-- a step that adds no entry leaves the history as it is
pub history_same : (log : Log) (x : LoggedStep) → x.step.entry ≡ None → history_of (log ++ x ∷ []) ≡ history_of log
history_same log x none = history_more log x ∙ (ap (λ (o : Option Entry). history_of log ++ entry_list o) none ∙ append-nil (history_of log))

-- two logs, one after the other, enlist as many reporters as both together
pub enlisted_append : (xs ys : Log) → enlisted_by (xs ++ ys) ≡ enlisted_by xs + enlisted_by ys
enlisted_append xs ys = ap length (flat_map-append (λ (y : LoggedStep). enlists y.step.action) xs ys)
    ∙ length-append (flat_map (λ (y : LoggedStep). enlists y.step.action) xs) (flat_map (λ (y : LoggedStep). enlists y.step.action) ys)

-- a log with one step more enlists one reporter more if this step is an enlistment, and else as many as before
pub enlisted_more : (log : Log) (x : LoggedStep) → enlisted_by (log ++ x ∷ []) ≡ enlisted_by log + length (enlists x.step.action)
enlisted_more log x = enlisted_append log (x ∷ []) ∙ ap (λ (l : List ℕ). enlisted_by log + length l) (append-nil (enlists x.step.action))

-- the history of a prefix of a log is a prefix of the history of the log
pub history_on : (a b : Log) → IsPrefix a b → IsPrefix (history_of a) (history_of b)
history_on a b p = (history_of p.0, sym (history_append a p.0) ∙ ap history_of p.1)

-- a log enlists at least as many reporters as each prefix of it
pub enlisted_on : (a b : Log) → IsPrefix a b → enlisted_by a ≤ enlisted_by b
enlisted_on a b p = let e = ap enlisted_by (sym p.1) ∙ enlisted_append a p.0 in omega arith

-- the steps of a seat in two logs, one after the other, are those in the first and then those in the second
pub taken_append : (seat : ℕ) (xs ys : Log) → taken_by seat (xs ++ ys) ≡ taken_by seat xs ++ taken_by seat ys
taken_append seat xs ys = ap (map (λ (x : LoggedStep). x.step)) (filter-append (λ (x : LoggedStep). x.seat == seat) xs ys)
    ∙ map-append (λ (x : LoggedStep). x.step) (filter (λ (x : LoggedStep). x.seat == seat) xs) (filter (λ (x : LoggedStep). x.seat == seat) ys)

-- the steps of a seat in a prefix of a log are a prefix of its steps in the log
pub taken_on : (seat : ℕ) (a b : Log) → IsPrefix a b → IsPrefix (taken_by seat a) (taken_by seat b)
taken_on seat a b p = (taken_by seat p.0, sym (taken_append seat a p.0) ∙ ap (taken_by seat) p.1)

-- in a log of one step a seat took this step if the step is of this seat (b is true), and else none
pub one_taken : (seat : ℕ) (x : LoggedStep) (b : Bool) → (x.seat == seat) ≡ b → taken_by seat (x ∷ []) ≡ map (λ (y : LoggedStep). y.step) (cond b (x ∷ []) [])
one_taken seat x b is = ap (λ (c : Bool). map (λ (y : LoggedStep). y.step) (cond c (x ∷ []) [])) is

-- a step of a seat at the end of a log is at the end of the steps of this seat
pub taken_own : (seat : ℕ) (log : Log) (t : TakenStep) → taken_by seat (log ++ logged_by seat t ∷ []) ≡ taken_by seat log ++ t ∷ []
taken_own seat log t = taken_append seat log (logged_by seat t ∷ [])
    ∙ ap (λ (l : List TakenStep). taken_by seat log ++ l) (one_taken seat (logged_by seat t) true (eq-eqb seat seat refl))

-- a step of another seat at the end of a log leaves the steps of a seat as they are
pub taken_other : (seat : ℕ) (log : Log) (x : LoggedStep) → x.seat ≢ seat → taken_by seat (log ++ x ∷ []) ≡ taken_by seat log
taken_other seat log x not = taken_append seat log (x ∷ [])
    ∙ (ap (λ (l : List TakenStep). taken_by seat log ++ l) (one_taken seat x false (ne_eqb x.seat seat not)) ∙ append-nil (taken_by seat log))

-- P holds of each seat and its steps in a log with the step x at its end, if it holds of x's seat and its steps before with x's added,
-- and of each other seat and its steps before
pub by_seat : (log : Log) (x : LoggedStep) (P : ℕ → List TakenStep → Type 0) → P x.seat (taken_by x.seat log ++ x.step ∷ [])
    → ((seat : ℕ) → x.seat ≢ seat → P seat (taken_by seat log)) → (seat : ℕ) → P seat (taken_by seat (log ++ x ∷ []))
by_seat log x P own other seat = elim (cases_eq x.seat seat) [
  | inl same ↦ subst (λ (k : ℕ). P k (taken_by k (log ++ x ∷ []))) same (subst (P x.seat) (sym (taken_own x.seat log x.step)) own)
  | inr not ↦ subst (P seat) (sym (taken_other seat log x not)) (other seat not)
]

-- a seat took no step in a log if each step there is of a lower seat
pub taken_none : (seat : ℕ) (log : Log) → All (λ (x : LoggedStep). x.seat < seat) log → taken_by seat log ≡ []
taken_none seat [] all = refl
taken_none seat (x ∷ log) all =
    let below = All-head (λ (y : LoggedStep). y.seat < seat) x log all in
    taken_append seat (x ∷ []) log
    ∙ (ap (λ (l : List TakenStep). l ++ taken_by seat log) (one_taken seat x false (ne_eqb x.seat seat (λ e. omega (arith, e, below))))
    ∙ taken_none seat log (All-tail (λ (y : LoggedStep). y.seat < seat) x log all))

-- seats that are below n are below each greater number
pub below_more : (n m : ℕ) (log : Log) → n ≤ m → All (λ (x : LoggedStep). x.seat < n) log → All (λ (x : LoggedStep). x.seat < m) log
below_more n m log le all k d l = let h = all k d l in omega arith

-- the steps of a seat in a log that begins with y are its steps in the rest, with y's step before them if y is of this seat (b is true)
first_taken : (seat : ℕ) (y : LoggedStep) (log : Log) (b : Bool) → (y.seat == seat) ≡ b → taken_by seat (y ∷ log) ≡ cond b (y.step ∷ taken_by seat log) (taken_by seat log)
first_taken seat y log true is = ap (λ (c : Bool). map (λ (z : LoggedStep). z.step)
    (cond c (y ∷ filter (λ (z : LoggedStep). z.seat == seat) log) (filter (λ (z : LoggedStep). z.seat == seat) log))) is
first_taken seat y log false is = ap (λ (c : Bool). map (λ (z : LoggedStep). z.step)
    (cond c (y ∷ filter (λ (z : LoggedStep). z.seat == seat) log) (filter (λ (z : LoggedStep). z.seat == seat) log))) is

-- each step of a log is among the steps of its own seat
in_taken : (log : Log) (k : ℕ) (x : LoggedStep) → slice_get log k ≡ Some x → (j : ℕ) × (slice_get (taken_by x.seat log) j ≡ Some x.step)
in_taken [] k x at = absurd cc
in_taken (y ∷ log) zero x at =
    let same : y ≡ x = cc in
    (0, ap (λ (l : List TakenStep). slice_get l 0) (first_taken x.seat y log true (eq-eqb y.seat x.seat (ap (λ (z : LoggedStep). z.seat) same))) ∙ ap (λ (z : LoggedStep). Some z.step) same)
in_taken (y ∷ log) (suc k) x at =
    let t = in_taken log k x at in
    elim (cases_eq y.seat x.seat) [
      | inl same ↦ (suc t.0, ap (λ (l : List TakenStep). slice_get l (suc t.0)) (first_taken x.seat y log true (eq-eqb y.seat x.seat same)) ∙ t.1)
      | inr not ↦ (t.0, ap (λ (l : List TakenStep). slice_get l t.0) (first_taken x.seat y log false (ne_eqb y.seat x.seat not)) ∙ t.1)
    ]

-- each step of a seat is in the log, as one of this seat
of_taken : (seat : ℕ) (log : Log) (j : ℕ) (t : TakenStep) → slice_get (taken_by seat log) j ≡ Some t → (k : ℕ) × (slice_get log k ≡ Some (logged_by seat t))
of_taken seat [] j t at = absurd cc
of_taken seat (y ∷ log) j t at = by (of_taken seat log) (y.seat == seat) refl
  where
    own : ((i : ℕ) (u : TakenStep) → slice_get (taken_by seat log) i ≡ Some u → (k : ℕ) × (slice_get log k ≡ Some (logged_by seat u))) → (j : ℕ) → y.seat ≡ seat
        → slice_get (y.step ∷ taken_by seat log) j ≡ Some t → (k : ℕ) × (slice_get (y ∷ log) k ≡ Some (logged_by seat t))
    own rest zero same is = let step : y.step ≡ t = cc is in (0, λ i. Some (logged_by (same i) (step i)))
    own rest (suc i) same is = let u = rest i t is in (suc u.0, u.1)

    by : ((i : ℕ) (u : TakenStep) → slice_get (taken_by seat log) i ≡ Some u → (k : ℕ) × (slice_get log k ≡ Some (logged_by seat u))) → (b : Bool) → (y.seat == seat) ≡ b
        → (k : ℕ) × (slice_get (y ∷ log) k ≡ Some (logged_by seat t))
    by rest true is = own rest j (eqb-true y.seat seat is) (ap (λ (l : List TakenStep). slice_get l j) (sym (first_taken seat y log true is)) ∙ at)
    by rest false is = let u = rest j t (ap (λ (l : List TakenStep). slice_get l j) (sym (first_taken seat y log false is)) ∙ at) in (suc u.0, u.1)

-- each step of a log has the right index
index_is : (log : Log) (k : ℕ) (x : LoggedStep) → IsConsistentLog log → slice_get log k ≡ Some x → x.step.index ≡ k
index_is log k x is at = let below = at_below log k x at in (is.at k x at).index ∙ length-take-le k log (omega arith)

-- a log is a prefix of another one if each of its steps stands at the same place in the other
begins_by : (a b : Log) → ((k : ℕ) (x : LoggedStep) → slice_get a k ≡ Some x → slice_get b k ≡ Some x) → IsPrefix a b
begins_by [] b each = (b, refl)
begins_by (x ∷ a) [] each = absurd (cc (each 0 x refl))
begins_by (x ∷ a) (y ∷ b) each =
    let t = begins_by a b (λ k z at. each (suc k) z at) in
    let same : x ≡ y = cc (each 0 x refl) in
    (t.0, λ i. same i ∷ t.1 i)

-- a possible log is a prefix of another one if, for each seat, its steps in the one are a prefix of its steps in the other
pub log_begins : (a b : Log) → IsConsistentLog a → IsConsistentLog b → ((seat : ℕ) → IsPrefix (taken_by seat a) (taken_by seat b)) → IsPrefix a b
log_begins a b is_a is_b each = begins_by a b (λ k x at.
    let t = in_taken a k x at in
    let u = of_taken x.seat b t.0 x.step (at_beginning (taken_by x.seat a) (taken_by x.seat b) t.0 x.step (each x.seat) t.1) in
    subst (λ (n : ℕ). slice_get b n ≡ Some x) (sym (index_is b u.0 x is_b u.1) ∙ index_is a k x is_a at) u.1)

-- if two lists, one after the other, are empty, then the first is empty
pub nil_front : {X : Type 0} (xs ys : List X) → xs ++ ys ≡ [] → xs ≡ []
nil_front [] ys e = refl
nil_front (x ∷ xs) ys e = absurd cc

-- if the prefix `low` of a log has all steps of a seat, then so has each longer prefix p
pub between : (seat : ℕ) (low p log : Log) → IsPrefix low p → IsPrefix p log → taken_by seat low ≡ taken_by seat log → taken_by seat p ≡ taken_by seat log
between seat low p log a b same =
    let first : taken_by seat p ≡ taken_by seat low ++ taken_by seat a.0 = ap (taken_by seat) (sym a.1) ∙ taken_append seat low a.0 in
    let then : taken_by seat log ≡ taken_by seat p ++ taken_by seat b.0 = ap (taken_by seat) (sym b.1) ∙ taken_append seat p b.0 in
    let all : taken_by seat low ++ (taken_by seat a.0 ++ taken_by seat b.0) ≡ taken_by seat low =
    sym (append_assoc (taken_by seat low) (taken_by seat a.0) (taken_by seat b.0)) ∙ (ap (λ (l : List TakenStep). l ++ taken_by seat b.0) (sym first) ∙ (sym then ∙ sym same)) in
    let none = append_cancel_left (taken_by seat low) (taken_by seat a.0 ++ taken_by seat b.0) [] (all ∙ sym (append-nil (taken_by seat low))) in
    first ∙ (ap (λ (l : List TakenStep). taken_by seat low ++ l) (nil_front (taken_by seat a.0) (taken_by seat b.0) none) ∙ (append-nil (taken_by seat low) ∙ same))

-- of two prefixes of a log the shorter is a prefix of the longer
pub shorter : (a b log : Log) → IsPrefix a log → IsPrefix b log → length a ≤ length b → IsPrefix a b
shorter [] b log p q le = (b, refl)
shorter (x ∷ a) [] log p q le = absurd (omega arith)
shorter (x ∷ a) (y ∷ b) [] p q le = absurd (cc p.1)
shorter (x ∷ a) (y ∷ b) (z ∷ log) p q le =
    let head_x : x ≡ z = cc p.1 in
    let head_y : y ≡ z = cc q.1 in
    let tail_a : a ++ p.0 ≡ log = cc p.1 in
    let tail_b : b ++ q.0 ≡ log = cc q.1 in
    let t = shorter a b log (p.0, tail_a) (q.0, tail_b) (omega arith) in
    let same : x ≡ y = head_x ∙ sym head_y in
    (t.0, λ i. same i ∷ t.1 i)

-- if a prefix of a log, `known`, has all steps that a seat took, then each of these stands in the log at a place within the prefix
pub knows_step : (known log : Log) (k : ℕ) (x : LoggedStep) → IsConsistentLog log → IsPrefix known log → taken_by x.seat known ≡ taken_by x.seat log → slice_get log k ≡ Some x
    → k < length known
knows_step known log k x is p same at =
    let t = in_taken log k x at in
    let u = of_taken x.seat known t.0 x.step (ap (λ (l : List TakenStep). slice_get l t.0) same ∙ t.1) in
    let place = index_is log u.0 x is (at_beginning known log u.0 x p u.1) in
    let last = index_is log k x is at in
    let below = at_below known u.0 x u.1 in
    omega arith

-- a prefix of a log that has all steps of the seat that took the last step of the log is the whole log
pub knows_all : (v before : Log) (x : LoggedStep) → IsConsistentLog (before ++ x ∷ []) → IsPrefix v (before ++ x ∷ []) → taken_by x.seat v ≡ taken_by x.seat (before ++ x ∷ [])
    → v ≡ before ++ x ∷ []
knows_all v before x is p same =
    let below = knows_step v (before ++ x ∷ []) (length before) x is p same (at_end before x) in
    let long = ap length p.1 in
    sym (append-nil v) ∙ (ap (λ (l : Log). v ++ l) (sym (nothing p.0 (omega (arith, long, length-append v p.0, length-append before (x ∷ []))))) ∙ p.1)
  where
    nothing : (l : Log) → length l ≡ 0 → l ≡ []
    nothing [] none = refl
    nothing (y ∷ l) none = absurd (omega arith)

-- a step at the end of steps adds its entry, if it has one, to the end of their entries
pub added_more : (steps : List TakenStep) (t : TakenStep) → added_by (steps ++ t ∷ []) ≡ added_by steps ++ entry_list t.entry
added_more steps t = flat_map-append (λ (x : TakenStep). entry_list x.entry) steps (t ∷ []) ∙ ap (λ (l : List Entry). added_by steps ++ l) (append-nil (entry_list t.entry))

-- the accesses in two lists of steps, one after the other, are those in the first and then those in the second
pub accesses_append : (xs ys : List TakenStep) → accesses_in (xs ++ ys) ≡ accesses_in xs ++ accesses_in ys
accesses_append xs ys = flat_map-append (λ (x : TakenStep). access_list x.action x.index x.length) xs ys

-- a step at the end of a pass's steps gives it the number that the step enlists, or leaves its number as it is
pub number_more : (steps : List TakenStep) (t : TakenStep) → number_of (steps ++ t ∷ []) ≡ number_by t.action (number_of steps)
number_more steps t = fold-append (λ (number : ℕ) (x : TakenStep). number_by x.action number) 0 steps (t ∷ [])

-- the entries of a history by the reporter with this number
abbrev entries_by : ℕ → List Entry → List Entry
entries_by number history = filter (λ e. e.reporter == number) history

-- a reporter's entries in two histories, one after the other, are those in the first and then those in the second
entries_append : (n : ℕ) (xs ys : List Entry) → entries_by n (xs ++ ys) ≡ entries_by n xs ++ entries_by n ys
entries_append n xs ys = filter-append (λ (e : Entry). e.reporter == n) xs ys

-- a legal history with an entry that a step may add at its end is legal
legal_more : (h : List Entry) (n : ℕ) (o : Option Entry) → IsLegal h → MayAdd h n o → IsLegal (h ++ entry_list o)
legal_more h n None legal may = subst IsLegal (sym (append-nil h)) legal
legal_more h n (Some e) legal may = may_next MayFollow h e legal may.0

-- the history of a log in which each step is legal is legal
pub legal_history : (log : Log) → HasLegalSteps log → IsLegal (history_of log)
legal_history = may_induction IsLegalStep (λ l. IsLegal (history_of l)) (may_none MayFollow)
    (λ xs x before may was. subst IsLegal (sym (history_more xs x)) (legal_more (history_of xs) (number_of (taken_by x.seat xs)) x.step.entry was may.adds))

-- the number of an entry's reporter is one of those given to n reporters, 1 to n
abbrev InRank : ℕ → Entry → Type 0
InRank n e = (0 < e.reporter) × (e.reporter ≤ n)

-- an entry that a step may add is of the reporter of its pass
own_entries : (h : List Entry) (n : ℕ) (o : Option Entry) → MayAdd h n o → entries_by n (entry_list o) ≡ entry_list o
own_entries h n None may = refl
own_entries h n (Some e) may = ap (λ (b : Bool). cond b (e ∷ []) []) (eq-eqb e.reporter n may.1)

-- an entry that a step may add for one reporter's number is not of another
other_entries : (h : List Entry) (n m : ℕ) (o : Option Entry) → MayAdd h n o → (0 < n → n ≢ m) → entries_by m (entry_list o) ≡ []
other_entries h n m None may not = refl
other_entries h n m (Some e) may not =
    ap (λ (b : Bool). cond b (e ∷ []) []) (ne_eqb e.reporter m (λ same. let r = may.0.accepted.reporter.0 in let is = may.1 in not (omega arith) (sym is ∙ same)))

-- an entry that a step may add has a reporter's number from 1 to m, if the number of its pass is at most m
ranked_list : (h : List Entry) (n m : ℕ) (o : Option Entry) → MayAdd h n o → n ≤ m → All (InRank m) (entry_list o)
ranked_list h n m None may low = All-nil (InRank m)
ranked_list h n m (Some e) may low = let r = may.0.accepted.reporter.0 in let is = may.1 in All-cons (InRank m) e [] (omega arith, omega arith) (All-nil (InRank m))

-- if no entry of a list is of the reporter with number n, the list of its entries by this reporter is empty
entries_none : (n : ℕ) (xs : List Entry) → All (λ (e : Entry). e.reporter ≢ n) xs → entries_by n xs ≡ []
entries_none n [] all = refl
entries_none n (e ∷ xs) all =
    ap (λ (b : Bool). cond b (e ∷ entries_by n xs) (entries_by n xs)) (ne_eqb e.reporter n (All-head (λ (f : Entry). f.reporter ≢ n) e xs all))
    ∙ entries_none n xs (All-tail (λ (f : Entry). f.reporter ≢ n) e xs all)

-- a log of which the facts hold, and one step more
module _ (log : Log) (r : LogFacts log) (x : LoggedStep) where
  abbrev number : ℕ → ℕ
  number seat = number_of (taken_by seat log)

  abbrev later : ℕ → ℕ
  later seat = number_of (taken_by seat (log ++ x ∷ []))

  -- a step that enlists none
  facts_same : length (enlists x.step.action) ≡ 0 → ((n : ℕ) → number_by x.step.action n ≡ n) → MayAdd (history_of log) (number_of (taken_by x.seat log)) x.step.entry
      → LogFacts (log ++ x ∷ [])
  facts_same none kept may =
      let count : enlisted_by (log ++ x ∷ []) ≡ enlisted_by log = let e = enlisted_more log x in omega arith in
      let same : (seat : ℕ) → later seat ≡ number seat =
      by_seat log x (λ seat steps. number_of steps ≡ number_of (taken_by seat log)) (number_more (taken_by x.seat log) x.step ∙ kept (number_of (taken_by x.seat log))) (λ seat not. refl) in
      let few = r.few in
      record {
        few = omega arith;
        low = λ seat. let n = same seat in let low = r.low seat in omega arith;
        apart = λ i j pos is. let n = same i in let m = same j in r.apart i j (omega arith) (omega arith);
        given = λ n low high. let g = r.given n low (omega arith) in (g.0, same g.0 ∙ g.1);
        ranked = subst (All (InRank (enlisted_by (log ++ x ∷ [])))) (sym (history_more log x))
            (subst (λ (n : ℕ). All (InRank n) (history_of log ++ entry_list x.step.entry)) (sym count)
            (All-append (InRank (enlisted_by log)) (history_of log) (entry_list x.step.entry) r.ranked
            (ranked_list (history_of log) (number x.seat) (enlisted_by log) x.step.entry may (r.low x.seat))));
        mine = λ seat. mine_on seat (same seat);
      }
    where
      mine_on : (seat : ℕ) → later seat ≡ number seat → added_by (taken_by seat (log ++ x ∷ [])) ≡ entries_by (later seat) (history_of (log ++ x ∷ []))
      mine_on seat same =
          by_seat log x (λ k steps. added_by steps ≡ entries_by (number_of (taken_by k log)) (history_of log ++ entry_list x.step.entry))
          (added_more (taken_by x.seat log) x.step ∙ ((λ i. r.mine x.seat i ++ sym (own_entries (history_of log) (number x.seat) x.step.entry may) i)
          ∙ sym (entries_append (number x.seat) (history_of log) (entry_list x.step.entry))))
          (λ k not. r.mine k ∙ (sym (append-nil (entries_by (number k) (history_of log)))
          ∙ (ap (λ (l : List Entry). entries_by (number k) (history_of log) ++ l)
          (sym (other_entries (history_of log) (number x.seat) (number k) x.step.entry may (λ pos is. not (r.apart x.seat k pos is))))
          ∙ sym (entries_append (number k) (history_of log) (entry_list x.step.entry)))))
          seat ∙ (λ i. entries_by (sym same i) (sym (history_more log x) i))

  -- an enlistment
  facts_more : (found : ℕ) → x.step.action ≡ CountRaised found → found ≡ enlisted_by log → found < 255 → number_of (taken_by x.seat log) ≡ 0 → x.step.entry ≡ None → LogFacts (log ++ x ∷ [])
  facts_more found is there room reader none =
      let count : enlisted_by (log ++ x ∷ []) ≡ enlisted_by log + 1 = enlisted_more log x ∙ ap (λ (t : Action). enlisted_by log + length (enlists t)) is in
      let history : history_of (log ++ x ∷ []) ≡ history_of log = history_more log x ∙ (ap (λ (o : Option Entry). history_of log ++ entry_list o) none ∙ append-nil (history_of log)) in
      let own : (seat : ℕ) → ((seat ≡ x.seat) × (later seat ≡ found + 1)) ⊎ ((seat ≢ x.seat) × (later seat ≡ number seat)) =
      by_seat log x (λ seat steps. ((seat ≡ x.seat) × (number_of steps ≡ found + 1)) ⊎ ((seat ≢ x.seat) × (number_of steps ≡ number seat)))
      (inl (refl, number_more (taken_by x.seat log) x.step ∙ ap (λ (t : Action). number_by t (number_of (taken_by x.seat log))) is))
      (λ seat not. inr ((λ e. not (sym e)), refl)) in
      record {
        few = omega arith;
        low = λ seat. elim (own seat) [ inl t ↦ let e = t.1 in omega arith | inr t ↦ let e = t.1 in let low = r.low seat in omega arith ];
        apart = λ i j pos same. elim (own i) [
          | inl t ↦ elim (own j) [ inl u ↦ t.0 ∙ sym u.0 | inr u ↦ let e = t.1 in let f = u.1 in let low = r.low j in absurd (omega arith) ]
          | inr t ↦ elim (own j) [
            | inl u ↦ let e = t.1 in let f = u.1 in let low = r.low i in absurd (omega arith)
            | inr u ↦ let e = t.1 in let f = u.1 in r.apart i j (omega arith) (omega arith)
          ]
        ];
        given = λ n low high. elim (cases_eq n (found + 1)) [
          | inl last ↦ elim (own x.seat) [ inl t ↦ (x.seat, t.1 ∙ sym last) | inr t ↦ absurd (t.0 refl) ]
          | inr not ↦
              let g = r.given n low (omega (arith, not)) in
              elim (own g.0) [ inl t ↦ let e = ap number t.0 in let h = g.1 in absurd (omega arith) | inr t ↦ (g.0, t.1 ∙ g.1) ]
        ];
        ranked = subst (All (InRank (enlisted_by (log ++ x ∷ [])))) (sym history) (λ k e at. let q = r.ranked k e at in let low = q.1 in (q.0, omega arith));
        mine = λ seat. elim (own seat) [
          | inl t ↦
              ap (λ (k : ℕ). added_by (taken_by k (log ++ x ∷ []))) t.0
              ∙ (ap added_by (taken_own x.seat log x.step) ∙ (added_more (taken_by x.seat log) x.step
              ∙ (ap (λ (o : Option Entry). added_by (taken_by x.seat log) ++ entry_list o) none ∙ (append-nil (added_by (taken_by x.seat log))
              ∙ (r.mine x.seat ∙ (ap (λ (k : ℕ). entries_by k (history_of log)) reader ∙ (entries_none 0 (history_of log) (λ k e at z. let q = (r.ranked k e at).0 in omega arith)
              ∙ (sym (entries_none (found + 1) (history_of log) (λ k e at z. let q = (r.ranked k e at).1 in omega arith)) ∙ (λ i. entries_by (sym t.1 i) (sym history i))))))))))
          | inr t ↦ ap added_by (taken_other seat log x (λ e. t.0 (sym e))) ∙ (r.mine seat ∙ (λ i. entries_by (sym t.1 i) (sym history i)))
        ];
      }

-- if the facts on reporters, their numbers and their entries (`LogFacts`) hold of a log, they hold of it with one more legal step
facts_next : (log : Log) → LogFacts log → (x : LoggedStep) (t : Action) → x.step.action ≡ t → ReadsCurrent log t → MayEnlist (number_of (taken_by x.seat log)) t x.step.entry
    → MayAdd (history_of log) (number_of (taken_by x.seat log)) x.step.entry → LogFacts (log ++ x ∷ [])
facts_next log r x (CountRaised found) is there may adds = facts_more log r x found is there.0 there.1 may.0 may.1
facts_next log r x action is there may adds = facts_same log r x (ap (λ (t : Action). length (enlists t)) is) (λ n. ap (λ (t : Action). number_by t n) is) adds

-- the facts on reporters, their numbers and their entries hold of a log without steps
facts_none : LogFacts []
facts_none = record {
  few = omega arith;
  low = λ seat. le_refl 0;
  apart = λ i j pos same. absurd (omega arith);
  given = λ n low high. absurd (omega arith);
  ranked = All-nil (InRank 0);
  mine = λ seat. refl;
}

-- the facts on reporters, their numbers and their entries hold of each possible log in which each step is legal
pub log_facts : (log : Log) → IsConsistentLog log → HasLegalSteps log → LogFacts log
log_facts log = may_induction MayBeTaken (λ l. HasLegalSteps l → LogFacts l) (λ f. facts_none)
    (λ xs x before may was legal.
    let step = may_last IsLegalStep xs x legal in
    facts_next xs (was (may_begin IsLegalStep xs (x ∷ []) legal)) x x.step.action refl may.there step.enlists step.adds)
    log

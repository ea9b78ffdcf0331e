-- What a step on a shared board says of what its pass knows, whatever the board's words and its rule are.
use Rattle.ucl_live_board.proofs.Common.{◌≡◌, ℕ, ◌+◌, ◌≤◌, List, ◌∷◌, ◌++◌, length, Option, Some, None, refl, sym, ap, ◌∙◌, subst, arith, [], append-nil}
use Rattle.ucl_live_board.proofs.Common.{length-append, All, IsSome, IsPrefix, begins_through, nil_from_length, Entry, IsLegal, followed_by, Action, CountRaised}
use Rattle.ucl_live_board.proofs.Common.{TakenStep, step_taken, logged_by, Log, taken_by, entry_list, added_by, number_of, number_by, history_of, enlists}
use Rattle.ucl_live_board.proofs.Common.{enlisted_by, ReadsCurrent, IsConsistentLog, IsLegalRule, View, whole, IsSound, entries_by, pass_view_by, Takes, BoardStep, not}
use Rattle.ucl_live_board.proofs.Common.{◌==◌}
use Rattle.std.proofs.lemmas.List.Filters.{length-filter_both}
use Rattle.ucl_word.specs.Counts.{EachMay}
use Rattle.ucl_word.proofs.Sequences.{may_next, may_last}
use Rattle.ucl_log.specs.Log.{MayBeTaken, MayEnlist, IsLegalStep, HasLegalSteps, LogFacts}
use Rattle.ucl_log.proofs.Logs.{history_more, history_on, enlisted_more, enlisted_on, taken_own, added_more, number_more}
use Rattle.ucl_log.proofs.Logs.{log_facts, legal_history}
use Rattle.ucl_live_board.proofs.Lists.{none_by_zero}
use Rattle.ucl_live_board.proofs.Alone.{whole_is_alone}

-- what each step of a pass, from the view v to w, leaves: the pass knows a legal history, and a log that begins with all that it had known
-- or been told; it keeps its share, by which it acts; and if that is the whole board, all entries are its own, and no other was enlisted
pub record Goes (v w : View) : Type 0 where
  pub legal : IsLegal (history_of w.log)
  pub log : IsPrefix v.log w.log
  pub seen : IsPrefix (history_of v.log) (history_of w.log)
  pub heard : All (λ (l : Log). IsPrefix l w.log) v.told
  pub told : w.told ≡ []
  pub own : added_by w.own ≡ entries_by (number_of w.own) (history_of w.log)
  pub few : enlisted_by w.log ≤ 255
  pub listed : enlisted_by v.log ≤ enlisted_by w.log
  pub share : w.share ≡ v.share
  pub acts : IsSome w.share
  pub alone : w.share ≡ whole → (history_of w.log ≡ added_by w.own) × (enlisted_by w.log ≤ number_of w.own) × (number_of w.own ≤ 1)

-- after any step a pass has seen a legal history, knows its own entries there and has a share, as contracts see it
pub sound : (shown : List TakenStep → List ℕ) (v w : View) → Goes v w → IsSound (pass_view_by shown w)
sound shown v w goes = search arith

-- a step with this action, from v to w, that added no entry and gave no number: what it found there is there after it too
pub record Sees (action : Action) (v w : View) : Type 0 where
  pub goes : Goes v w
  pub index : ℕ
  pub takes : Takes v (step_taken action index (length (history_of w.log)) None ∷ []) w
  pub there : ReadsCurrent w.log action
  pub mine : added_by w.own ≡ added_by v.own
  pub number : number_of w.own ≡ number_of v.own

-- a step with this action, from v to w, that added the entry e: it is the last that the pass has then seen, after the history of `before`
pub record Adds (action : Action) (e : Entry) (v w : View) : Type 0 where
  pub before : Log
  pub last : history_of w.log ≡ followed_by (history_of before) e
  pub since : IsPrefix (history_of v.log) (history_of before)
  pub goes : Goes v w
  pub there : ReadsCurrent before action
  pub index : ℕ
  pub takes : Takes v (step_taken action index (length (history_of before)) (Some e) ∷ []) w
  pub mine : added_by w.own ≡ followed_by (added_by v.own) e
  pub number : number_of w.own ≡ number_of v.own

-- the step that enlists a pass: it found `found` reporters enlisted, and gave the pass the number found + 1; the pass has no entry yet
pub record GivesNumber (found : ℕ) (v w : View) : Type 0 where
  pub goes : Goes v w
  pub index : ℕ
  pub takes : Takes v (step_taken (CountRaised found) index (length (history_of w.log)) None ∷ []) w
  pub above : enlisted_by v.log ≤ found
  pub listed : enlisted_by w.log ≡ found + 1
  pub number : number_of w.own ≡ found + 1
  pub mine : added_by w.own ≡ []

-- if a history h is a prefix of p, and the entries of one reporter in h are all of p, then h is p
all_seen : (n : ℕ) (h p : List Entry) → IsPrefix h p → entries_by n h ≡ p → h ≡ p
all_seen n h p b is =
    let d = length-filter_both (λ (e : Entry). e.reporter == n) (λ (e : Entry). not (e.reporter == n)) (λ _. refl) h in
    let o = ap length is in
    let l = ap length (sym b.1) ∙ length-append h b.0 in
    sym (append-nil h) ∙ (ap (λ (x : List Entry). h ++ x) (sym (nil_from_length b.0 (omega arith))) ∙ b.1)

-- a step that enlists no one leaves the number of its pass
keeps_number : (t : Action) (n : ℕ) → length (enlists t) ≡ 0 → number_by t n ≡ n
keeps_number t n none = search arith

-- what a step finds after a log it finds after any log with the same history and as many reporters, unless it enlists
there_on : (a b : Log) (t : Action) → history_of a ≡ history_of b → enlisted_by a ≡ enlisted_by b → length (enlists t) ≡ 0 → ReadsCurrent a t → ReadsCurrent b t
there_on a b t history count none there = search arith

-- the pass of a seat took one step with this action, from the view v to the view w
module _ (words_after : List Entry → ℕ → List ℕ) (May : Log → Rattle.ucl_log.specs.Log.LoggedStep → Type 0) (seat : ℕ) (action : Action) (v w : View)
    (s : BoardStep words_after May seat action v w) where
  pub log_is : w.log ≡ s.before ++ logged_by seat s.step ∷ []
  log_is = ap (λ (z : View). z.log) s.is

  pub own_is : w.own ≡ v.own ++ s.step ∷ []
  own_is = ap (λ (z : View). z.own) s.is

  before_on : IsPrefix s.before w.log
  before_on = subst (IsPrefix s.before) (sym log_is) (logged_by seat s.step ∷ [], refl)

  pub since : IsPrefix v.log w.log
  since = begins_through v.log s.before w.log s.since before_on

  pub takes : Takes v (s.step ∷ []) w
  takes = record { own = own_is; copied = ap (λ (z : View). z.copied) s.is }

  pub one_more : (x : TakenStep) × Takes v (x ∷ []) w
  one_more = (s.step, takes)

  pub log_long : length w.log ≡ s.step.index + 1
  log_long = let place = s.may.index in let l = ap length log_is ∙ length-append s.before (logged_by seat s.step ∷ []) in omega arith

  pub first_later : length v.log ≤ s.step.index
  first_later = let place = s.may.index in let p = ap length (s.since).1 ∙ refl in let l = length-append v.log s.since.0 in omega arith

  pub count_is : enlisted_by w.log ≡ enlisted_by s.before + length (enlists action)
  count_is = ap enlisted_by log_is ∙ (enlisted_more s.before (logged_by seat s.step) ∙ ap (λ (t : Action). enlisted_by s.before + length (enlists t)) s.of)

  number_is : number_of w.own ≡ number_by action (number_of v.own)
  number_is = ap number_of own_is ∙ (number_more v.own s.step ∙ ap (λ (t : Action). number_by t (number_of v.own)) s.of)

  pub history_is : history_of w.log ≡ history_of s.before ++ entry_list s.step.entry
  history_is = ap history_of log_is ∙ history_more s.before (logged_by seat s.step)

  pub there_before : ReadsCurrent s.before action
  there_before = subst (ReadsCurrent s.before) s.of s.may.there

  module _ (legal : IsLegalRule May) where
    is_log : IsConsistentLog w.log
    is_log = subst IsConsistentLog (sym log_is) (may_next MayBeTaken s.before (logged_by seat s.step) s.is_log s.may)

    legal_steps : HasLegalSteps w.log
    legal_steps = legal w.log is_log (subst (EachMay May) (sym log_is) (may_next May s.before (logged_by seat s.step) s.follows s.next))

    facts : LogFacts w.log
    facts = log_facts w.log is_log legal_steps

    own_taken : w.own ≡ taken_by seat w.log
    own_taken = own_is ∙ (ap (λ (l : List TakenStep). l ++ s.step ∷ []) s.own ∙ (sym (taken_own seat s.before s.step) ∙ ap (taken_by seat) (sym log_is)))

    mine_is : added_by w.own ≡ entries_by (number_of w.own) (history_of w.log)
    mine_is = ap added_by own_taken ∙ (facts.mine seat ∙ ap (λ (l : List TakenStep). entries_by (number_of l) (history_of w.log)) (sym own_taken))

    -- alone with the whole board
    alone : w.share ≡ whole → (history_of w.log ≡ added_by w.own) × (enlisted_by w.log ≤ number_of w.own) × (number_of w.own ≤ 1)
    alone is =
        let o = s.occurs in
        let did = whole_is_alone words_after May legal o.words o.views o.rule seat w o.here is in
        let knows = (o.rule.fits seat w o.here).knows in
        let seen = all_seen (number_of w.own) (history_of w.log) (history_of o.rule.log) (history_on w.log o.rule.log knows) (sym mine_is ∙ did.mine) in
        let listed = enlisted_on w.log o.rule.log knows in
        let number = did.number in
        let one = did.one in
        (seen ∙ sym did.mine, omega arith, omega arith)

    pub goes : Goes v w
    goes = record {
      legal = legal_history w.log legal_steps;
      log = since;
      seen = history_on v.log w.log since;
      heard = λ k l at. begins_through _ s.before w.log (s.heard k l at) before_on;
      told = ap (λ (z : View). z.told) s.is;
      own = mine_is;
      few = facts.few;
      listed = enlisted_on v.log w.log since;
      share = ap (λ (z : View). z.share) s.is;
      acts = subst IsSome (sym (ap (λ (z : View). z.share) s.is)) s.acts;
      alone = alone;
    }

    -- a step that added no entry
    module _ (none : s.step.entry ≡ None) where
      pub same_history : history_of w.log ≡ history_of s.before
      same_history = history_is ∙ (ap (λ (o : Option Entry). history_of s.before ++ entry_list o) none ∙ append-nil (history_of s.before))

      pub at_is : s.step.length ≡ length (history_of w.log)
      at_is = s.may.length ∙ ap length (sym same_history)

      takes_none : Takes v (step_taken action s.step.index (length (history_of w.log)) None ∷ []) w
      takes_none = subst (λ (t : TakenStep). Takes v (t ∷ []) w) (λ i. step_taken (s.of i) s.step.index (at_is i) (none i)) takes

      mine_same : added_by w.own ≡ added_by v.own
      mine_same = ap added_by own_is ∙ (added_more v.own s.step ∙ (ap (λ (o : Option Entry). added_by v.own ++ entry_list o) none ∙ append-nil (added_by v.own)))

      pub sees : length (enlists action) ≡ 0 → Sees action v w
      sees few = record {
        goes = goes;
        index = s.step.index;
        takes = takes_none;
        there = there_on s.before w.log action (sym same_history) (let c = count_is in omega arith) few there_before;
        mine = mine_same;
        number = number_is ∙ keeps_number action (number_of v.own) few;
      }

    -- a step that added one
    pub adds : (e : Entry) → s.step.entry ≡ Some e → length (enlists action) ≡ 0 → Adds action e v w
    adds e is few = record {
      before = s.before;
      last = history_is ∙ ap (λ (o : Option Entry). history_of s.before ++ entry_list o) is;
      since = history_on v.log s.before s.since;
      goes = goes;
      there = there_before;
      index = s.step.index;
      takes = subst (λ (t : TakenStep). Takes v (t ∷ []) w) (λ i. step_taken (s.of i) s.step.index (s.may.length i) (is i)) takes;
      mine = ap added_by own_is ∙ (added_more v.own s.step ∙ ap (λ (o : Option Entry). added_by v.own ++ entry_list o) is);
      number = number_is ∙ keeps_number action (number_of v.own) few;
    }

    enlists_legally : MayEnlist (number_of (taken_by seat s.before)) action s.step.entry
    enlists_legally = subst (λ (t : Action). MayEnlist (number_of (taken_by seat s.before)) t s.step.entry) s.of
        (may_last IsLegalStep s.before (logged_by seat s.step) (subst HasLegalSteps log_is legal_steps)).enlists

-- the enlistment of a pass, where `found` were enlisted, gives it the next number
pub enlisted : (words_after : List Entry → ℕ → List ℕ) (May : Log → Rattle.ucl_log.specs.Log.LoggedStep → Type 0) (seat found : ℕ) (v w : View)
    (s : BoardStep words_after May seat (CountRaised found) v w) → IsLegalRule May → GivesNumber found v w
enlisted words_after May seat found v w s legal =
    let may = enlists_legally words_after May seat (CountRaised found) v w s legal in
    let there = there_before words_after May seat (CountRaised found) v w s in
    let found_is = there.0 in
    let count = count_is words_after May seat (CountRaised found) v w s in
    let low = enlisted_on v.log s.before s.since in
    let steps = legal s.before s.is_log s.follows in
    let none : added_by v.own ≡ [] = ap added_by s.own ∙ ((log_facts s.before s.is_log steps).mine seat
    ∙ (ap (λ (k : ℕ). entries_by k (history_of s.before)) may.0 ∙ none_by_zero (history_of s.before) (legal_history s.before steps))) in
    record {
      goes = goes words_after May seat (CountRaised found) v w s legal;
      index = s.step.index;
      takes = takes_none words_after May seat (CountRaised found) v w s legal may.1;
      above = omega arith;
      listed = omega arith;
      number = number_is words_after May seat (CountRaised found) v w s;
      mine = mine_same words_after May seat (CountRaised found) v w s legal may.1 ∙ none;
    }

-- Whose steps the log of a board has: of passes that have a share; all of them, of a pass that has the whole.
use Rattle.ucl_live_board.proofs.Common.{◌≡◌, ◌≢◌, ℕ, zero, suc, ◌<◌, ◌≤◌, List, ◌∷◌, ◌++◌, length, map, refl, sym, ap, ◌∙◌, subst, arith, eq-eqb, ne_eqb, []}
use Rattle.ucl_live_board.proofs.Common.{All, IsSome, None, dite, some, get_elem?, ℕ_discrete, Entry, TakenStep, LoggedStep, logged_by, Log, taken_by, entry_list}
use Rattle.ucl_live_board.proofs.Common.{added_by, number_of, history_of, enlisted_by, IsLegalRule, View, Share, whole, Overlap, BoardInvariant, DidAllAlone}
use Rattle.ucl_live_board.proofs.Common.{WholeIsAlone}
use Rattle.ucl_log.specs.Log.{LogFacts}
use Rattle.ucl_log.proofs.Logs.{taken_none, below_more, log_facts}
use Rattle.ucl_live_board.proofs.Halves.{in_whole}

-- a step of a seat in front of a log is in front of the steps of this seat
pub taken_here : (seat : ℕ) (t : TakenStep) (log : Log) → taken_by seat (logged_by seat t ∷ log) ≡ t ∷ taken_by seat log
taken_here seat t log = search (arith, eq-eqb)

-- a step of another seat in front of a log leaves the steps of a seat as they are
pub taken_else : (seat other : ℕ) (t : TakenStep) (log : Log) → other ≢ seat → taken_by seat (logged_by other t ∷ log) ≡ taken_by seat log
taken_else seat other t log not = search (arith, ne_eqb)

-- a log with a step of a seat in front has a step of this seat
pub some_here : (seat : ℕ) (t : TakenStep) (log : Log) → taken_by seat (logged_by seat t ∷ log) ≢ []
some_here seat t log none = let l = ap length (sym (taken_here seat t log) ∙ none) in omega arith

-- if no other seat took steps, the log is the steps of this seat
pub only_own : (seat : ℕ) (log : Log) → ((j : ℕ) → j ≢ seat → taken_by j log ≡ []) → log ≡ map (logged_by seat) (taken_by seat log)
only_own seat [] none = refl
only_own seat (x ∷ log) none = dite (ℕ_discrete x.seat seat)
    (λ is.
    let rest = only_own seat log (λ k not. sym (taken_else k x.seat x.step log (λ e. not (sym e ∙ is))) ∙ none k not) in
    (λ i. logged_by (is i) x.step ∷ rest i) ∙ ap (map (logged_by seat)) (sym (ap (λ (k : ℕ). taken_by seat (logged_by k x.step ∷ log)) is ∙ taken_here seat x.step log)))
    (λ not. absurd (some_here x.seat x.step log (none x.seat not)))

-- each place below the number of views has one
pub view_at : (views : List View) (j : ℕ) → j < length views → (u : View) × (get_elem? views j ≡ some u)
view_at [] j below = absurd (omega arith)
view_at (v ∷ views) zero below = (v, refl)
view_at (v ∷ views) (suc j) below = view_at views j (omega arith)

-- a seat from n on took no step, if all steps of the log are of seats below n
pub none_beyond : (n j : ℕ) (log : Log) → n ≤ j → All (λ (x : LoggedStep). x.seat < n) log → taken_by j log ≡ []
none_beyond n j log le all = taken_none j log (below_more n j log le all)

-- a share other than None, no share, is some share
pub some_acts : (s : Share) → s ≢ None → IsSome s
some_acts s not = search arith

-- the history of a log of one seat's steps is the entries that these steps added
history_by : (seat : ℕ) (steps : List TakenStep) → history_of (map (logged_by seat) steps) ≡ added_by steps
history_by seat [] = refl
history_by seat (t ∷ steps) = ap (λ (l : List Entry). entry_list t.entry ++ l) (history_by seat steps)

-- a pass that has a number took steps
pub number_some : (n : ℕ) (steps : List TakenStep) → 1 ≤ n → number_of steps ≡ n → steps ≢ []
number_some n steps low is none = let e = ap number_of none in omega arith

module _ (words_after : List Entry → ℕ → List ℕ) (May : Log → LoggedStep → Type 0) (words : List ℕ) (views : List View) (r : BoardInvariant words_after May words views) where
  -- the pass of a seat that took steps has a share
  pub seat_there : (j : ℕ) → taken_by j r.log ≢ [] → (u : View) × (get_elem? views j ≡ some u) × IsSome u.share
  seat_there j any = dite (native.Mathlib.Decide.dec_le (suc j) (length views))
      (λ less.
      let u = view_at views j less in
      let f = r.fits j u.0 u.1 in
      (u.0, u.1, some_acts u.0.share (λ none. any (sym f.own.1 ∙ f.idle none))))
      (λ over. absurd (any (none_beyond (length views) j r.log (omega (arith, over)) r.seated)))

  -- a pass whose share is the whole board, under a rule that is legal
  module _ (legal : IsLegalRule May) (seat : ℕ) (v : View) (here : get_elem? views seat ≡ some v) (share : v.share ≡ whole) where
    facts : LogFacts r.log
    facts = log_facts r.log r.is_log (legal r.log r.is_log r.follows)

    -- no other seat took steps
    only_it : (j : ℕ) → taken_by j r.log ≢ [] → j ≡ seat
    only_it j any = let u = seat_there j any in r.shared j seat u.0 v u.1 here (subst (λ (t : Share). Overlap u.0.share t) (sym share) (in_whole u.0.share u.2))

    idle_else : (j : ℕ) → j ≢ seat → taken_by j r.log ≡ []
    idle_else j not = by (taken_by j r.log) refl
      where
        by : (steps : List TakenStep) → taken_by j r.log ≡ steps → taken_by j r.log ≡ []
        by [] is = is
        by (t ∷ steps) is = absurd (not (only_it j (λ none. let l = ap length (sym none ∙ is) in omega arith)))

    -- whoever has a number is this pass
    numbered : (n : ℕ) → 1 ≤ n → n ≤ enlisted_by r.log → number_of v.own ≡ n
    numbered n low high =
        let g = facts.given n low high in
        ap number_of (r.fits seat v here).own.1 ∙ (ap (λ (k : ℕ). number_of (taken_by k r.log)) (sym (only_it g.0 (number_some n (taken_by g.0 r.log) low g.1))) ∙ g.1)

    -- a pass with the whole board entered all entries of the log, and no other pass was enlisted
    pub alone_there : DidAllAlone r.log v
    alone_there =
        let f = r.fits seat v here in
        let own = ap number_of f.own.1 in
        let low = facts.low seat in
        record {
          mine = ap added_by f.own.1 ∙ (sym (history_by seat (taken_by seat r.log)) ∙ ap history_of (sym (only_own seat r.log idle_else)));
          number = dite (ℕ_discrete (enlisted_by r.log) 0) (λ none. omega arith) (λ some. numbered (enlisted_by r.log) (omega arith) (omega arith));
          one = dite (native.Mathlib.Decide.dec_le (enlisted_by r.log) 1) (λ few. few)
              (λ many. let a = numbered 1 (omega arith) (omega (arith, many)) in let b = numbered 2 (omega arith) (omega (arith, many)) in absurd (omega arith));
        }

-- if steps follow a legal rule, a pass whose share is the whole board entered all entries, and no other was enlisted
pub whole_is_alone : (words_after : List Entry → ℕ → List ℕ) (May : Log → LoggedStep → Type 0) → IsLegalRule May → WholeIsAlone words_after May
whole_is_alone words_after May legal words views r seat v here share = alone_there words_after May words views r legal seat v here share

-- What the invariant says of a log: a board opens with none, each step is its end, its last step's pass knows it, and holders of the whole did all.
use Rattle.ucl_live_board.proofs.Common.{◌≡◌, ◌≢◌, ⊎_elim, ℕ, zero, suc, ◌<◌, Bool, true, false, List, ◌∷◌, ◌++◌, length, map, set, refl, sym, ap, ◌∙◌, subst}
use Rattle.ucl_live_board.proofs.Common.{arith, append-nil, [], length-set, All, Some, IsTrue, All-head, All-cons, All-nil, IsPrefix, dite, some, get_elem?}
use Rattle.ucl_live_board.proofs.Common.{ℕ_discrete, set_here, set_else, Entry, TakenStep, LoggedStep, logged_by, Log, taken_by, number_of, history_of, enlisted_by}
use Rattle.ucl_live_board.proofs.Common.{IsConsistentLog, IsLegalRule, View, Overlap, first_pass, BoardInvariant, BoardsOpenFresh, StepsComeLast, LastStepsSeeAll}
use Rattle.ucl_live_board.proofs.Common.{NumbersAreApart, IsHeld, Covers, HoldersDidAll}
use Rattle.std.proofs.Common.{◌≤◌}
use Rattle.std.proofs.lemmas.List.{append_cancel_left}
use Rattle.std.proofs.lemmas.List.Elements.{All-weaker}
use Rattle.ucl_live_board.specs.BoardInvariant.{PassesSeePrefixes, WordsCountReporters}
use Rattle.ucl_log.proofs.Logs.{enlisted_on, history_on, knows_all, legal_history, log_begins, log_facts, taken_append}
use Rattle.ucl_live_board.proofs.Halves.{in_whole, on_a_side}
use Rattle.ucl_live_board.proofs.Alone.{taken_else, some_here, only_own, view_at, none_beyond, number_some, seat_there}
use Rattle.ucl_live_board.proofs.InvariantIsKept.{place_below}

module _ (words_after : List Entry → ℕ → List ℕ) (May : Log → LoggedStep → Type 0) where
  -- the steps that a pass took between two states of the invariant stand at the end of the later log
  pub steps_last : StepsComeLast words_after May
  steps_last before after views r seat v w steps here s more =
      let there : get_elem? (set views seat w) seat ≡ some w = set_here views seat w (place_below views seat v here) in
      let f = r.fits seat v here in
      let g = s.fits seat w there in
      let else_same : (j : ℕ) → j ≢ seat → taken_by j s.log ≡ taken_by j r.log = (λ j not. dite (native.Mathlib.Decide.dec_le (suc j) (length views))
      (λ less. let u = view_at views j less in sym (s.fits j u.0 (set_else views seat j w not ∙ u.1)).own.1 ∙ (r.fits j u.0 u.1).own.1)
      (λ over.
      none_beyond (length views) j s.log (omega (arith, over)) (subst (λ (n : ℕ). All (λ (x : LoggedStep). x.seat < n) s.log) (length-set views seat w) s.seated)
      ∙ sym (none_beyond (length views) j r.log (omega (arith, over)) r.seated))) in
      let own : taken_by seat s.log ≡ taken_by seat r.log ++ steps = sym g.own.1 ∙ (more ∙ ap (λ (l : List TakenStep). l ++ steps) f.own.1) in
      let p = log_begins r.log s.log r.is_log s.is_log (λ j. dite (ℕ_discrete j seat)
      (λ is. subst (λ (k : ℕ). IsPrefix (taken_by k r.log) (taken_by k s.log)) (sym is) (steps, sym own))
      (λ not. ([], append-nil (taken_by j r.log) ∙ sym (else_same j not)))) in
      let rest : (j : ℕ) → taken_by j r.log ++ taken_by j p.0 ≡ taken_by j s.log = (λ j. sym (taken_append j r.log p.0) ∙ ap (taken_by j) p.1) in
      sym p.1 ∙ ap (λ (l : Log). r.log ++ l)
      (only_own seat p.0 (λ j not. append_cancel_left (taken_by j r.log) (taken_by j p.0) [] (rest j ∙ (else_same j not ∙ sym (append-nil (taken_by j r.log)))))
      ∙ ap (map (logged_by seat)) (append_cancel_left (taken_by seat r.log) (taken_by seat p.0) steps (rest seat ∙ own)))

  -- the pass that took the last step of the log knows the whole log
  pub last_sees_all : LastStepsSeeAll words_after May
  last_sees_all words views r before seat x v is here =
      let f = r.fits seat v here in
      knows_all v.log before (logged_by seat x) (subst IsConsistentLog is r.is_log) (subst (IsPrefix v.log) is f.knows) (sym f.own.0 ∙ (f.own.1 ∙ ap (taken_by seat) is)) ∙ sym is

-- a log is empty if only seat 0 could take steps, and it took none
no_steps : (log : Log) → All (λ (x : LoggedStep). x.seat < 1) log → taken_by 0 log ≡ [] → log ≡ []
no_steps [] all none = refl
no_steps (x ∷ log) all none = search (arith, All-head, some_here)

-- a board opens with an empty log and the words of no event and no reporter
pub opens_fresh : (words_after : List Entry → ℕ → List ℕ) (May : Log → LoggedStep → Type 0) → BoardsOpenFresh words_after May
opens_fresh words_after May words r =
    let none = no_steps r.log r.seated (sym (r.fits 0 first_pass refl).own.1) in
    (r.words_are ∙ ap (λ (l : Log). words_after (history_of l) (enlisted_by l)) none, none)

-- under a legal rule the history of a board is legal, and each reporter has a number of its own
pub board_facts : (words_after : List Entry → ℕ → List ℕ) (May : Log → LoggedStep → Type 0) → IsLegalRule May → NumbersAreApart words_after May
board_facts words_after May legal words views r = let steps = legal r.log r.is_log r.follows in (legal_history r.log steps, log_facts r.log r.is_log steps)

-- what each pass has seen is a prefix of the history
pub see_prefixes : (words_after : List Entry → ℕ → List ℕ) (May : Log → LoggedStep → Type 0) → PassesSeePrefixes words_after May
see_prefixes words_after May words views r seat v here = history_on v.log r.log (r.fits seat v here).knows

-- under a legal rule no number of a pass or an entry is above how many reporters the words say are enlisted
pub count_reporters : (words_after : List Entry → ℕ → List ℕ) (May : Log → LoggedStep → Type 0) → IsLegalRule May → WordsCountReporters words_after May
count_reporters words_after May legal words views r =
    let facts = log_facts r.log r.is_log (legal r.log r.is_log r.follows) in
    record {
      enlisted = enlisted_by r.log;
      words_are = r.words_are;
      few = facts.few;
      numbers = λ seat v here. subst (λ (own : List TakenStep). number_of own ≤ enlisted_by r.log) (sym (r.fits seat v here).own.1) (facts.low seat);
      listed = λ seat v here. enlisted_on v.log r.log (r.fits seat v here).knows;
      reporters = All-weaker (λ (entry : Entry). (0 < entry.reporter) × (entry.reporter ≤ enlisted_by r.log)) (λ (entry : Entry). entry.reporter ≤ enlisted_by r.log)
          (λ entry ranked. ranked.1) (history_of r.log) facts.ranked;
    }

-- if P holds of each seat that took a step of the log, P holds of the seat of each step of the log
all_of : (P : ℕ → Type 0) (log : Log) → ((j : ℕ) → taken_by j log ≢ [] → P j) → All (λ (x : LoggedStep). P x.seat) log
all_of P [] each = All-nil (λ (x : LoggedStep). P x.seat)
all_of P (x ∷ log) each = All-cons (λ (y : LoggedStep). P y.seat) x log (each x.seat (some_here x.seat x.step log))
    (all_of P log (λ j any. each j (λ none. search (arith, dite, some_here, taken_else))))

module _ (words_after : List Entry → ℕ → List ℕ) (May : Log → LoggedStep → Type 0) (words : List ℕ) (views : List View) (r : BoardInvariant words_after May words views) (held : ℕ → Bool) where
  -- a pass whose share overlaps with a share of the held seats is at one of them
  one_holds : (path : List Bool) → IsHeld views held path → (seat : ℕ) (u : View) → get_elem? views seat ≡ some u → Overlap u.share (Some path) → IsTrue (held seat)
  one_holds path h seat u here over = subst (λ (k : ℕ). IsTrue (held k)) (sym (r.shared seat h.seat u h.view here h.there (subst (Overlap u.share) (sym h.share) over))) h.held_is

  -- a pass whose share overlaps with what the held seats cover together is at one of them
  holds : (n : ℕ) (path : List Bool) → Covers views held n path → (seat : ℕ) (u : View) → get_elem? views seat ≡ some u → Overlap u.share (Some path) → IsTrue (held seat)
  holds zero path make seat u here over = one_holds path make seat u here over
  holds (suc n) path make seat u here over = ⊎_elim
      (λ (h : IsHeld views held path). one_holds path h seat u here over)
      (λ (both : Covers views held n (path ++ false ∷ []) × Covers views held n (path ++ true ∷ [])). ⊎_elim
      (λ first. holds n (path ++ false ∷ []) both.0 seat u here first)
      (λ second. holds n (path ++ true ∷ []) both.1 seat u here second)
      (on_a_side u.share path over))
      make

  -- if the held seats cover the whole board, each seat that took steps is one of them
  acting : (n : ℕ) → Covers views held n [] → (j : ℕ) → taken_by j r.log ≢ [] → IsTrue (held j)
  acting n make j any = let u = seat_there words_after May words views r j any in holds n [] make j u.0 u.1 (in_whole u.0.share u.2)

-- under a legal rule passes whose shares together are the whole board took all steps and have all numbers of reporters
pub did_all : (words_after : List Entry → ℕ → List ℕ) (May : Log → LoggedStep → Type 0) → IsLegalRule May → HoldersDidAll words_after May
did_all words_after May legal words views r held n make = record {
  steps = all_of (λ j. IsTrue (held j)) r.log (acting words_after May words views r held n make);
  numbers = λ k low high.
      let g = (log_facts r.log r.is_log (legal r.log r.is_log r.follows)).given k low high in
      let any = number_some k (taken_by g.0 r.log) low g.1 in
      let u = seat_there words_after May words views r g.0 any in
      (g.0, u.0, acting words_after May words views r held n make g.0 any, u.1, ap number_of (r.fits g.0 u.0 u.1).own.1 ∙ g.1);
}

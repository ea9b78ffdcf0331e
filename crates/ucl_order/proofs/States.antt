-- What the clubs have done in the matches in play, in the finished ones, and in both.
use Rattle.ucl_order.proofs.Common.{All, All-head, All-tail, Appearance, Bool, HasSixEach, IsPairing, IsSlot, List, Match, None, Option}
use Rattle.ucl_order.proofs.Common.{Results, Some}
use Rattle.ucl_order.proofs.Common.{[], and_parts, ap, append-nil, appearances, arith, cases_Bool, cond, cons_option, counted}
use Rattle.ucl_order.proofs.Common.{disciplinary_points}
use Rattle.ucl_order.proofs.Common.{each_slot, eq-eqb, eqb-true, false, false_from_ne_true, filter, filter-append, finished, get_or}
use Rattle.ucl_order.proofs.Common.{has_finished, has_started, under_way, inl, inr, is_drawn}
use Rattle.ucl_order.proofs.Common.{is_under_way, is_lost, is_won, length, list_all, not, played, refl, results_of, results_of_clubs}
use Rattle.ucl_order.proofs.Common.{seen_by, set}
use Rattle.ucl_order.proofs.Common.{sum_by, sum_by-cons, sym, totals, true, true≢false, unfinished, ℕ, ◌&&◌, ◌++◌, ◌+◌, ◌==◌, ◌∙◌, ◌∷◌, ◌≡◌}
use Rattle.ucl_order.proofs.Common.{filter_agree}
use Rattle.ucl_order.proofs.Limits.{AddsUp, away_adds, both_parts, in_front, length_adds, sum_adds}
use Rattle.ucl_order.proofs.Rounds.{filter-twice}
use Rattle.ucl_order.proofs.Slots.{slots}

-- One match more at the end. --

-- a match that passes the test, put at the end, is at the end of those that pass
pub filter_taken : (p : Match → Bool) (ms : List Match) (m : Match) → p m ≡ true → filter p (ms ++ m ∷ []) ≡ filter p ms ++ m ∷ []
filter_taken p ms m e = rw (filter-append p ms (m ∷ []), e)

-- a match that fails the test, put at the end, changes nothing of those that pass
pub filter_left : (p : Match → Bool) (ms : List Match) (m : Match) → p m ≡ false → filter p (ms ++ m ∷ []) ≡ filter p ms
filter_left p ms m e = rw (filter-append p ms (m ∷ []), e, append-nil (filter p ms))

-- a match in play or finished that is put at the end changes only the results of matches in its own state: place 0 has those of matches in
-- play, place 1 those of finished ones
pub counted_more : (ms : List Match) (m : Match) (over : Bool) (new : List Results) → has_started m ≡ true → has_finished m ≡ over
    → new ≡ results_of_clubs (cond over (finished ms) (under_way ms) ++ m ∷ []) → set (counted ms) (cond over 1 0) new
    ≡ counted (ms ++ m ∷ [])
counted_more ms m true new begun over e = rw (e, filter_left is_under_way ms m (rw (begun, over) refl), filter_taken has_finished ms m over)
counted_more ms m false new begun over e = rw
    (e, filter_taken is_under_way ms m (rw (begun, over) refl), filter_left has_finished ms m over)

-- place 1 of the counted results has those of the finished matches, place 0 those of the matches in play
pub counted_at : (ms : List Match) (over : Bool) (none : List Results) → get_or (counted ms) (cond over 1 0) none
    ≡ results_of_clubs (cond over (finished ms) (under_way ms))
counted_at ms true none = refl
counted_at ms false none = refl

-- the sum, number by number, of a club's results in two lists of matches
abbrev together : Results → Results → Results
together a b = record {
  played = a.played + b.played;
  wins = a.wins + b.wins;
  draws = a.draws + b.draws;
  losses = a.losses + b.losses;
  goals_for = a.goals_for + b.goals_for;
  goals_against = a.goals_against + b.goals_against;
  away_goals = a.away_goals + b.away_goals;
  away_wins = a.away_wins + b.away_wins;
  discipline = a.discipline + b.discipline;
}

-- Those in play and those that are finished are all that have begun. --

-- of the matches that have begun the finished ones are all that are finished
ended : (ms : List Match) → filter has_finished (filter has_started ms) ≡ filter has_finished ms
ended ms =
    filter-twice has_started has_finished ms ∙ filter_agree (λ m. has_started m && has_finished m) has_finished (λ m. search arith) ms

-- what adds up is, in the matches that have begun, the sum of what it is in those in play and in the finished ones
part : {g : List Appearance → ℕ} → AddsUp g → (club : ℕ) (ms : List Match) → g (appearances club (filter has_started ms))
    ≡ g (appearances club (filter is_under_way ms)) + g (appearances club (filter has_finished ms))
part adds club ms =
    let both = both_parts adds club has_finished (filter has_started ms) in
    let split = rw (ended ms, filter-twice has_started (λ m. not (has_finished m)) ms) at both in omega arith

-- the results of a club in the matches that have begun are those in play and those in finished ones together
pub parts : (club : ℕ) (ms : List Match)
    → results_of club (filter has_started ms)
    ≡ together (results_of club (filter is_under_way ms)) (results_of club (filter has_finished ms))
unfolding totals
parts club ms =
    let sum = λ (f : Appearance → ℕ). part (sum_adds f) club ms in
    let away = λ (f : Appearance → ℕ). part (away_adds (sum_adds f)) club ms in
    rw (
      part length_adds club ms,
      sum (λ a. cond (is_won a) 1 0),
      sum (λ a. cond (is_drawn a) 1 0),
      sum (λ a. cond (is_lost a) 1 0),
      sum (λ a. a.scored),
      sum (λ a. a.conceded),
      sum disciplinary_points,
      away (λ a. a.scored),
      away (λ a. cond (is_won a) 1 0),
    )

-- All are finished just where each club has played its six. --

-- where all matches are finished, no club has one left to play
none-left : (ms : List Match) (club : ℕ) → list_all has_finished ms ≡ true → played club (unfinished ms) ≡ 0
none-left [] club h = refl
none-left (m ∷ ms) club h = let parts = and_parts (has_finished m) (list_all has_finished ms) h in rw parts.0 (none-left ms club parts.1)

-- where no club has a match left to play, all matches are finished
all-over : (ms : List Match) → All IsPairing ms → ((club : ℕ) → IsSlot club → played club (unfinished ms) ≡ 0) → list_all has_finished ms
    ≡ true
all-over [] pairs none = refl
all-over (m ∷ ms) pairs none =
    elim (cases_Bool (has_finished m)) [
      | inl over ↦ rw over (all-over ms (All-tail IsPairing m ms pairs) (λ club slot. rw over at (none club slot)))
      | inr left ↦
          let pair = All-head IsPairing m ms pairs in
          let one = rw left at (none m.home pair.0) in
          let more = in_front length_adds m.home m (unfinished ms) in
          let here : played m.home (m ∷ []) ≡ 1 = rw (eq-eqb m.home m.home refl) refl in
          absurd (omega arith)
    ]

-- all matches are finished just where each club has six finished ones
pub all_six : (ms : List Match) → All IsPairing ms → HasSixEach ms →
    (((played 1 (finished ms) == 6) && (played 2 (finished ms) == 6)) && (played 3 (finished ms) == 6)) && (played 4 (finished ms) == 6)
    ≡ list_all has_finished ms
all_six ms pairs six = elim (cases_Bool (list_all has_finished ms)) [
  | inl all ↦
      let each : (club : ℕ) → IsSlot club → (played club (finished ms) == 6) ≡ true =
      λ club slot. eq-eqb _ _ (omega (arith, six club slot, both_parts length_adds club has_finished ms, none-left ms club all)) in
      rw (
        all,
        each 1 (slots 0 0 (omega arith)),
        each 2 (slots 1 0 (omega arith)),
        each 3 (slots 2 0 (omega arith)),
        each 4 (slots 3 0 (omega arith)),
      )
  | inr some ↦ rw some (false_from_ne_true _ (λ four.
      let last = and_parts _ _ four in
      let third = and_parts _ _ last.0 in
      let two = and_parts _ _ third.0 in
      let played_all : (club : ℕ) → IsSlot club → played club (finished ms) ≡ 6 =
      each_slot (λ c. played c (finished ms) ≡ 6) (eqb-true _ _ two.0) (eqb-true _ _ two.1) (eqb-true _ _ third.1) (eqb-true _ _ last.1) in
      let none : (club : ℕ) → IsSlot club → played club (unfinished ms) ≡ 0 =
      λ club slot. omega (arith, six club slot, both_parts length_adds club has_finished ms, played_all club slot) in
      true≢false (sym (all-over ms pairs none) ∙ some)))
]

-- What a club of a group can do at most.
use Rattle.ucl_order.proofs.Common.{not, All, All-cons, All-filter, All-head, All-map, All-nil, All-permutation, All-tail, Appearance}
use Rattle.ucl_order.proofs.Common.{AreOfGroup, Bool, FitsFields, HasScore, IsPairing, IsSlot, IsWithinTable, List, Mark, Match, NamedClub}
use Rattle.ucl_order.proofs.Common.{None, Option, Profile, Results, Some, [], all_clubs, among, appearances, arith, away_goals}
use Rattle.ucl_order.proofs.Common.{away_matches, away_wins, cond, cons_option, count_by, count_by-le-length, disciplinary_points}
use Rattle.ucl_order.proofs.Common.{discipline, draws, each_slot, false, filter, get_or, goals_against, goals_for, has_started}
use Rattle.ucl_order.proofs.Common.{if◌then◌else◌, is_drawn, is_in, is_lost, is_won, length, length-filter, length_permutation, losses}
use Rattle.ucl_order.proofs.Common.{matches_of, nat_tests, order_of, played, points, refl, results_of, results_of_clubs, row_by, row_of}
use Rattle.ucl_order.proofs.Common.{rows_of, seen_by, slice_index, started_of, sum_by-cons, sum_by-le, tied_results, tied_with, totals}
use Rattle.ucl_order.proofs.Common.{true, wins, ℕ, ◌&&◌, ◌*◌, ◌+◌, ◌-◌, ◌==◌, ◌∷◌, ◌≡◌, ◌≤◌}
use Rattle.ucl_order.proofs.Common.{ap, filter-append, filter_map-append, length-append, sum_by, sum_by-append, ◌++◌, ◌∙◌}
use Rattle.ucl_order.proofs.KeysFit.{FitsKeys}
use Rattle.ucl_order.proofs.Classes.{order_permutes}
use Rattle.ucl_order.proofs.Slots.{all-four, pairings, slots}

-- a number of a list of appearances that adds up: of two lists, one after the other, it is the sum
pub record AddsUp (g : List Appearance → ℕ) : Type 0 where
  pub more : (xs ys : List Appearance) → g (xs ++ ys) ≡ g xs + g ys

pub length_adds : AddsUp (λ games. length games)
length_adds = record { more = λ xs ys. length-append xs ys }

pub points_adds : AddsUp (λ games. 3 * count_by is_won games + count_by is_drawn games)
points_adds = record {
  more = λ xs ys. omega (arith, sum_by-append (λ a. cond (is_won a) 1 0) xs ys, sum_by-append (λ a. cond (is_drawn a) 1 0) xs ys);
}

pub sum_adds : (f : Appearance → ℕ) → AddsUp (λ games. sum_by f games)
sum_adds f = record { more = sum_by-append f }

-- what adds up does so over away matches
pub away_adds : {g : List Appearance → ℕ} → AddsUp g → AddsUp (λ games. g (filter (λ a. a.is_away) games))
away_adds {g = g} adds = record { more = λ xs ys. ap g (filter-append (λ (a : Appearance). a.is_away) xs ys) ∙ adds.more _ _ }

-- what adds up over the appearances of a club
module _ {g : List Appearance → ℕ} (adds : AddsUp g) (club : ℕ) where
  -- with one match in front it is so much more as in this match alone
  pub in_front : (m : Match) (ms : List Match) → g (appearances club (m ∷ ms)) ≡ g (appearances club (m ∷ [])) + g (appearances club ms)
  in_front m ms = ap g (filter_map-append (seen_by club) (m ∷ []) ms) ∙ adds.more (appearances club (m ∷ [])) (appearances club ms)

  -- in the matches that pass a test and in the others it is together what it is in all
  pub both_parts : (p : Match → Bool) (ms : List Match)
      → g (appearances club (filter p ms)) + g (appearances club (filter (λ m. not (p m)) ms)) ≡ g (appearances club ms)
  both_parts p [] = omega (arith, adds.more [] [])
  both_parts p (m ∷ ms) =
      search (arith, both_parts p ms, in_front m ms, in_front m (filter p ms), in_front m (filter (λ m. not (p m)) ms))

-- a match is worth three points at most
three_at_most : (a : Appearance) → 3 * cond (is_won a) 1 0 + cond (is_drawn a) 1 0 ≤ 3
three_at_most a = grind (arith, nat_tests)

-- appearances are worth three points each at most
three_each : (games : List Appearance) → 3 * count_by is_won games + count_by is_drawn games ≤ 3 * length games
three_each [] = omega arith
three_each (a ∷ games) = omega (
  arith,
  sum_by-cons (λ a. cond (is_won a) 1 0) a games,
  sum_by-cons (λ a. cond (is_drawn a) 1 0) a games,
  three_at_most a,
  three_each games,
)

-- a club has at most three points for each match that it played
pub points-le : (club : ℕ) (ms : List Match) → points club ms ≤ 3 * played club ms
points-le club ms = three_each (appearances club ms)

-- each club plays six of the matches of a board
pub six : (board : List ℕ) (club : ℕ) → IsSlot club → played club (matches_of board) ≡ 6
unfolding matches_of
six board club slot = each_slot (λ c. played c (matches_of board) ≡ 6) refl refl refl refl club slot

-- what a club did in one match is within the limits of a match record: 63 goals on either side, 63 yellow cards that stand, 31 expulsions
pub record AreFew (a : Appearance) : Type 0 where
  pub scored : a.scored ≤ 63
  pub conceded : a.conceded ≤ 63
  pub yellows : a.yellows ≤ 63
  pub expulsions : a.expulsions ≤ 31

-- if all appearances are within the limits of a match record, they are so with one such in front, if there is one
few_one : (o : Option Appearance) (games : List Appearance) → ((a : Appearance) → o ≡ Some a → AreFew a) → All AreFew games → All AreFew (cons_option o games)
few_one o games h rest = search (arith, All-cons AreFew, h, rest)

-- if both sides of a match are within the limits of a match record, so is the side of the club that plays at home or away
seen_parts : (at_home away : Bool) (h v a : Appearance) → (if at_home then Some h else (if away then Some v else None)) ≡ Some a → AreFew h → AreFew v → AreFew a
seen_parts at_home away h v a e few_h few_v = search arith

-- what a club sees of a match with a valid score has numbers within the limits
seen_few : (club : ℕ) (m : Match) (a : Appearance) → HasScore m → seen_by club m ≡ Some a → AreFew a
seen_few club m a h e =
    seen_parts (m.home == club) (m.away == club) _ _ a e
    (record { scored = h.home_goals; conceded = h.away_goals; yellows = h.home_yellows; expulsions = h.home_expulsions })
    (record { scored = h.away_goals; conceded = h.home_goals; yellows = h.away_yellows; expulsions = h.away_expulsions })

-- in matches with valid scores all appearances of a club have numbers within the limits
pub all_few : (club : ℕ) (ms : List Match) → All HasScore ms → All AreFew (appearances club ms)
all_few club [] h = All-nil AreFew
all_few club (m ∷ ms) h =
    few_one (seen_by club m) (appearances club ms) (λ a e. seen_few club m a (All-head HasScore m ms h) e) (all_few club ms (All-tail HasScore m ms h))

-- each club has three away matches on a board
three : (board : List ℕ) (club : ℕ) → IsSlot club → length (away_matches club (matches_of board)) ≡ 3
unfolding matches_of
three board club slot = each_slot (λ c. length (away_matches c (matches_of board)) ≡ 3) refl refl refl refl club slot

-- at most 63 yellow cards and 31 expulsions, which count three each, are at most 156 disciplinary points
few_cards : (y e : ℕ) → y ≤ 63 → e ≤ 31 → y + 3 * e ≤ 156
few_cards y e h k = omega arith

-- the totals of a club with at most six matches, three of them away, fit the bits of its keys
fits : (club : ℕ) (ms : List Match) → All HasScore ms → played club ms ≤ 6 → length (away_matches club ms) ≤ 3 → FitsKeys ms club
unfolding totals
fits club ms valid most away =
    let games : List Appearance = appearances club ms in
    let visited : List Appearance = away_matches club ms in
    let few : All AreFew games = all_few club ms valid in
    let few_away : All AreFew visited = All-filter (λ a. a.is_away) AreFew games few in
    let scored : goals_for club ms ≤ length games * 63 = sum_by-le (λ a. a.scored) 63 games (λ k d h. (few k d h).scored) in
    let conceded : goals_against club ms ≤ length games * 63 = sum_by-le (λ a. a.conceded) 63 games (λ k d h. (few k d h).conceded) in
    let scored_away : away_goals club ms ≤ length visited * 63 = sum_by-le (λ a. a.scored) 63 visited (λ k d h. (few_away k d h).scored) in
    let cards : discipline club ms ≤ length games * 156 =
    sum_by-le disciplinary_points 156 games (λ k d h. few_cards (get_or games k d).yellows (get_or games k d).expulsions (few k d h).yellows (few k d h).expulsions) in
    let won : wins club ms ≤ length games = count_by-le-length is_won games in
    let drawn : draws club ms ≤ length games = count_by-le-length is_drawn games in
    let lost : losses club ms ≤ length games = count_by-le-length is_lost games in
    let won_away : away_wins club ms ≤ length visited = count_by-le-length is_won visited in
    let three_each : points club ms ≤ 3 * played club ms = points-le club ms in
    search arith

-- the matches of a board are of a group: each of two different clubs, each club in six, three of them away
pub group_of_board : (board : List ℕ) → All HasScore (matches_of board) → AreOfGroup (matches_of board)
unfolding matches_of
group_of_board board valid = record {
  few = omega arith;
  pairings = pairings board;
  scores = valid;
  six = λ club slot. omega (arith, six board club slot);
  three_away = λ club slot. omega (arith, three board club slot);
}

-- some of the matches of a group are matches of a group
pub group_filter : (p : Match → Bool) (ms : List Match) → AreOfGroup ms → AreOfGroup (filter p ms)
group_filter p ms group = record {
  few = omega (arith, group.few, length-filter p ms, count_by-le-length p ms);
  pairings = All-filter p IsPairing ms group.pairings;
  scores = All-filter p HasScore ms group.scores;
  six = λ club slot. omega (arith, group.six club slot, both_parts length_adds club p ms);
  three_away = λ club slot. omega (arith, group.three_away club slot, both_parts (away_adds length_adds) club p ms);
}

-- what each club has done in them fits the fields of the keys, also among its tied clubs
module _ (ms : List Match) (group : AreOfGroup ms) where
  pub fits_group : (club : ℕ) → IsSlot club → FitsKeys ms club
  fits_group club slot = fits club ms group.scores (group.six club slot) (group.three_away club slot)

  pub fits_among : (clubs : List ℕ) (club : ℕ) → IsSlot club → FitsKeys (among clubs ms) club
  fits_among clubs club slot =
      let both : Match → Bool = λ m. is_in clubs m.home && is_in clubs m.away in
      let few = group_filter both ms group in
      fits club (among clubs ms) few.scores (few.six club slot) (few.three_away club slot)

  pub results_fit : All FitsFields (results_of_clubs ms)
  results_fit = All-map FitsFields (λ c. results_of c ms) all_clubs (λ k d h. fits_group _ (slots k d h))

  pub tied_fit : (keys : List ℕ) → All FitsFields (tied_results ms keys)
  tied_fit keys = All-map FitsFields (λ c. results_of c (among (tied_with keys c) ms)) all_clubs (λ k d h. fits_among _ _ (slots k d h))

-- the matches of a board that are in play or finished are matches of a group, if all scores are valid
pub group_started : (board : List ℕ) → All HasScore (matches_of board) → AreOfGroup (started_of board)
group_started board valid = group_filter has_started (matches_of board) (group_of_board board valid)

-- a row of results that fit the fields is within the limits of the table
within_table : (place slot : ℕ) (mark : Mark) (r : Results) → IsSlot slot → FitsFields r → IsWithinTable (row_by place slot mark r)
within_table place slot mark r is_slot f = search arith

module _ (profile : Profile) (board : List ℕ) (roster : List NamedClub) (valid : All HasScore (matches_of board)) where
  row_within : (place : ℕ) → 1 ≤ place → place ≤ 4 → IsWithinTable (row_of profile board roster place)
  unfolding row_of totals
  row_within place low high =
      let order : List ℕ = order_of profile (started_of board) roster in
      let long : length order ≡ 4 = length_permutation _ _ (order_permutes profile (started_of board) roster) in
      let slot : IsSlot (slice_index order (place - 1)) = All-permutation IsSlot all_clubs order (order_permutes profile (started_of board) roster) slots (place - 1) 0 (omega arith) in
      within_table place (slice_index order (place - 1)) _ _ slot (fits_group (started_of board) (group_started board valid) (slice_index order (place - 1)) slot)

  -- the four rows of a board of valid words are within the limits of the table
  pub rows_within : All IsWithinTable (rows_of profile board roster)
  rows_within = all-four IsWithinTable _ _ _ _ (row_within 1 (omega arith) (omega arith)) (row_within 2 (omega arith) (omega arith))
      (row_within 3 (omega arith) (omega arith)) (row_within 4 (omega arith) (omega arith))

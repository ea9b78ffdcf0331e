-- The order goes by points first, so points say who stands in the first two.
use Rattle.ucl_order.proofs.Common.{All, All-head, All-tail, AllPairs, Appearance, Blank, Bool, Contains, Contains-from_any}
use Rattle.ucl_order.proofs.Common.{Contains-permutation, Finished, GoesThrough, IsCompletion, IsMatch, IsSlot, IsWithinTable, List, Mark}
use Rattle.ucl_order.proofs.Common.{MarkIsCertain, Match, Minus, NamedClub, None, Plus, Profile, Row, Some, StandsAbove, State, []}
use Rattle.ucl_order.proofs.Common.{all_clubs, and_parts, ap, arith, cases_Bool, count_by, early_mark, eq-eqb, eqb-true, false}
use Rattle.ucl_order.proofs.Common.{false_from_ne_true, final_mark, finished, fixture_of, game_at, get_or, has_finished, higher_in_tie}
use Rattle.ucl_order.proofs.Common.{cons_option, if◌then◌else◌}
use Rattle.ucl_order.proofs.Common.{inl, inr, is_finished, is_in, leb-true, length, length_permutation, list_all, list_any_at, map, mark_by}
use Rattle.ucl_order.proofs.Common.{mark_of, match_at, match_numbers, matches_of, nat_le, nat_lt, nat_tests, not, order_of, out_of_reach}
use Rattle.ucl_order.proofs.Common.{played, points, points_higher, reach, refl, rivals, row_of, row_with, rows_of, seen_by, slice_index}
use Rattle.ucl_order.proofs.Common.{started, started_of, sum_by-IsPermutation, sure_points, sym, take, true, unfinished, ℕ, ◌&&◌, ◌*◌, ◌+◌}
use Rattle.ucl_order.proofs.Common.{◌-◌, ◌==◌, ◌∙◌, ◌∷◌, ◌≡◌, ◌≤◌, ◌⊎◌}
use Rattle.ucl_order.proofs.Classes.{order_permutes, count-le}
use Rattle.ucl_order.proofs.TieBreaks.{order-pairs}
use Rattle.ucl_order.proofs.Slots.{by_four, a_club, are_matches, all-four}
use Rattle.ucl_order.proofs.Limits.{in_front, length_adds, points-le, points_adds}

-- the key never rises along the list: no later club has a greater key than an earlier one
abbrev pub Falls : (ℕ → ℕ) → List ℕ → Type 0
Falls key xs = AllPairs (λ x y. key y ≤ key x) xs

-- a club that stands above another has at least as many points
points_fall : (profile : Profile) (ms : List Match) (roster : List NamedClub) (a b : ℕ) → StandsAbove profile ms roster a b → points b ms ≤ points a ms
points_fall profile ms roster a b (points_higher h) = grind (arith, nat_tests)
points_fall profile ms roster a b (higher_in_tie e h) = grind (arith, nat_tests)

-- in the order no later club has more points than an earlier one
pub order_falls : (profile : Profile) (ms : List Match) (roster : List NamedClub) → Falls (λ c. points c ms) (order_of profile ms roster)
order_falls profile ms roster i j d h l = points_fall profile ms roster _ _ (order-pairs profile ms roster i j d h l)

-- which clubs stand in the first two of four, of which none has a greater key than the one before it
module _ (key : ℕ → ℕ) (club : ℕ) where
  unfoldable pub reaches : ℕ → Bool
  reaches other = not (other == club) && nat_le (key club) (key other)

  unfoldable pub passes : ℕ → Bool
  passes other = not (other == club) && nat_lt (key club) (key other)

  two_reach : (a b c d : ℕ) → key c ≤ key a → key c ≤ key b → key d ≤ key a → key d ≤ key b → is_in (a ∷ b ∷ c ∷ d ∷ []) club ≡ true
      → count_by reaches (a ∷ b ∷ c ∷ d ∷ []) ≤ 1 → is_in (a ∷ b ∷ []) club ≡ true
  unfolding reaches
  two_reach a b c d h i j k member few = grind (arith, nat_tests)

  first_two : (a b c d : ℕ) → Falls key (a ∷ b ∷ c ∷ d ∷ []) → is_in (a ∷ b ∷ c ∷ d ∷ []) club ≡ true
      → count_by reaches (a ∷ b ∷ c ∷ d ∷ []) ≤ 1 → is_in (take 2 (a ∷ b ∷ c ∷ d ∷ [])) club ≡ true
  first_two a b c d down member few =
      two_reach a b c d (down 0 2 0 (omega arith) (omega arith)) (down 1 2 0 (omega arith) (omega arith)) (down 0 3 0 (omega arith) (omega arith))
      (down 1 3 0 (omega arith) (omega arith)) member few

  -- a club stands there if at most one other has as great a key
  pub in_first_two : (o : List ℕ) → length o ≡ 4 → Falls key o → is_in o club ≡ true → count_by reaches o ≤ 1 → is_in (take 2 o) club ≡ true
  in_first_two o long down member few =
      by_four (λ o. Falls key o → is_in o club ≡ true → count_by reaches o ≤ 1 → is_in (take 2 o) club ≡ true)
      first_two o long down member few

  one_passes : (a b c d : ℕ) → key b ≤ key a → key c ≤ key a → key d ≤ key a → key c ≤ key b → key d ≤ key b → is_in (a ∷ b ∷ []) club ≡ true
      → count_by passes (a ∷ b ∷ c ∷ d ∷ []) ≤ 1
  unfolding passes
  one_passes a b c d h i j k l member = grind (arith, nat_tests)

  few_pass : (a b c d : ℕ) → Falls key (a ∷ b ∷ c ∷ d ∷ []) → is_in (take 2 (a ∷ b ∷ c ∷ d ∷ [])) club ≡ true → count_by passes (a ∷ b ∷ c ∷ d ∷ []) ≤ 1
  few_pass a b c d down member =
      one_passes a b c d (down 0 1 0 (omega arith) (omega arith)) (down 0 2 0 (omega arith) (omega arith)) (down 0 3 0 (omega arith) (omega arith))
      (down 1 2 0 (omega arith) (omega arith)) (down 1 3 0 (omega arith) (omega arith)) member

  -- a club does not stand in the first two of four if two others have a greater key
  pub not_in_first_two : (o : List ℕ) → length o ≡ 4 → Falls key o → 2 ≤ count_by passes o → is_in (take 2 o) club ≡ false
  not_in_first_two o long down many =
      false_from_ne_true _ (λ member.
      let few : count_by passes o ≤ 1 = by_four (λ o. Falls key o → is_in (take 2 o) club ≡ true → count_by passes o ≤ 1) few_pass o long down member in
      omega arith)

-- a state that the test finds finished is `Finished`
is_done : (s : State) → is_finished s ≡ true → s ≡ Finished
is_done s h = search arith

-- the matches of a board, the first list, that have the numbers of the second list
board_part : List ℕ → List ℕ → List Match
board_part board games = map (match_at board) games

-- in the matches numbered `games` the club has on the board `later` at least its points from those that are finished on `board`, and at
-- most three more for each of the others that it plays
record Between (club : ℕ) (games board later : List ℕ) : Type 0 where
  low : points club (finished (board_part board games)) ≤ points club (started (board_part later games))
  high : points club (started (board_part later games)) ≤ points club (finished (board_part board games)) + 3 * played club (unfinished (board_part board games))

-- a club plays in a match once or not at all, and this does not depend on the goals and cards of the match
plays_alike : (at_home away : Bool) (h v h' v' : Appearance)
    → length (cons_option (if at_home then Some h else (if away then Some v else None)) [])
    ≡ length (cons_option (if at_home then Some h' else (if away then Some v' else None)) [])
plays_alike at_home away h v h' v' = search arith

-- a club plays in a match on one board exactly if it plays in the match of the same number on another
plays_same : (club game : ℕ) (board later : List ℕ) → played club (match_at later game ∷ []) ≡ played club (match_at board game ∷ [])
plays_same club game board later = plays_alike ((fixture_of game).home == club) ((fixture_of game).away == club) _ _ _ _

-- a match whose record is the same on two boards is the same match
match_kept : (board later : List ℕ) (game : ℕ) → game_at later game ≡ game_at board game → match_at later game ≡ match_at board game
match_kept board later game e = rw e

-- in a completion of a board a club has, in the matches of these numbers, at least its points from finished ones, and at most three more
-- for each of the others that it plays
between : (club : ℕ) (games board later : List ℕ) → All IsMatch games → IsCompletion board later → Between club games board later
unfolding board_part
between club [] board later are done = record { low = omega arith; high = omega arith }
between club (game ∷ games) board later are done =
    let m : Match = match_at board game in
    let l : Match = match_at later game in
    let now : List Match = board_part board games in
    let end : List Match = board_part later games in
    let here : IsMatch game = All-head IsMatch game games are in
    let rest : Between club games board later = between club games board later (All-tail IsMatch game games are) done in
    let ended = done.ended game here in
    let end_points = in_front points_adds club l (started end) in
    elim (cases_Bool (has_finished m)) [
      | inl over ↦
          let same : l ≡ m = match_kept board later game (done.kept game here (is_done _ over)) in
          let worth : points club (l ∷ []) ≡ points club (m ∷ []) = ap (λ (x : Match). points club (x ∷ [])) same in
          let now_points = in_front points_adds club m (finished now) in
          record { low = rw (over, ended) (omega arith); high = rw (over, ended) (omega arith) }
      | inr open_now ↦
          let most : points club (l ∷ []) ≤ 3 * played club (l ∷ []) = points-le club (l ∷ []) in
          let alike : played club (l ∷ []) ≡ played club (m ∷ []) = plays_same club game board later in
          let left = in_front length_adds club m (unfinished now) in
          record { low = rw (open_now, ended) (omega arith); high = rw (open_now, ended) (omega arith) }
    ]

-- if the matches of these numbers are all finished on a board, they are the same in each completion of the board
all_kept : (games board later : List ℕ) → All IsMatch games → IsCompletion board later
    → list_all has_finished (map (match_at board) games) ≡ true → map (match_at later) games ≡ map (match_at board) games
all_kept [] board later are done all = refl
all_kept (game ∷ games) board later are done all =
    let parts = and_parts (has_finished (match_at board game)) (list_all has_finished (map (match_at board) games)) all in
    let here : match_at later game ≡ match_at board game = match_kept board later game (done.kept game (All-head IsMatch game games are) (is_done _ parts.0)) in
    let rest : map (match_at later) games ≡ map (match_at board) games = all_kept games board later (All-tail IsMatch game games are) done parts.1 in
    rw (here, rest)

-- a completion of a board on which all matches are finished has the same matches as the board
unchanged : (board later : List ℕ) → IsCompletion board later → list_all has_finished (matches_of board) ≡ true → matches_of later ≡ matches_of board
unfolding matches_of
unchanged board later done all = all_kept match_numbers board later are_matches done all

-- two boards with the same matches give the same order
same_order : (profile : Profile) (board later : List ℕ) (roster : List NamedClub) → matches_of later ≡ matches_of board →
    order_of profile (started_of later) roster ≡ order_of profile (started_of board) roster
unfolding order_of
same_order profile board later roster e = rw e

-- the points of a club in those matches of a board that are in play or finished
final_points : List ℕ → ℕ → ℕ
final_points later club = points club (started_of later)

-- if the mark by these tests is Plus, `all` matches are finished and the club is `through`, or only a `few` others can reach its points
plus_cases : (all through few many : Bool) → (if all then (if through then Plus else Minus) else (if few then Plus else (if many then Minus else Blank))) ≡ Plus
    → ((all ≡ true) × (through ≡ true)) ⊎ (few ≡ true)
plus_cases all through few many h = search arith

-- if the mark by these tests is Minus, `all` matches are finished and the club is not `through`, or `many` others are out of its reach
minus_cases : (all through few many : Bool) → (if all then (if through then Plus else Minus) else (if few then Plus else (if many then Minus else Blank))) ≡ Minus
    → ((all ≡ true) × (through ≡ false)) ⊎ (many ≡ true)
minus_cases all through few many h = search arith

-- if another club ends with at least as many points as a club, it could reach the points that this club was sure of; b is any further test
reach_weaker : (last_club last_other sure_club reach_other : ℕ) (b : Bool) → sure_club ≤ last_club
    → last_other ≤ reach_other → (b && nat_le last_club last_other) ≡ true → (b && nat_le sure_club reach_other) ≡ true
reach_weaker p q r s b l h e = grind (arith, nat_tests, cases_Bool b)

-- if another club was sure of more points than a club could reach, it ends with more points than this club; b is any further test
pass_stronger : (last_club last_other reach_club sure_other : ℕ) (b : Bool) → last_club ≤ reach_club
    → sure_other ≤ last_other → (b && nat_lt reach_club sure_other) ≡ true → (b && nat_lt last_club last_other) ≡ true
pass_stronger p q r s b l h e = grind (arith, nat_tests, cases_Bool b)

-- a club that the test finds among the first two of an order is one of them
through_if : (order : List ℕ) (club : ℕ) → is_in (take 2 order) club ≡ true → Contains (take 2 order) club
through_if order club h = Contains-from_any {eq = λ x y. y == x} (λ x y e. sym (eqb-true y x e)) club (take 2 order) h

-- a club that the test does not find among the first two of an order is not one of them
not_through_if : (order : List ℕ) (club : ℕ) → is_in (take 2 order) club ≡ false → Contains (take 2 order) club → ⊥
not_through_if order club h found =
    let there : is_in (take 2 order) club ≡ true = list_any_at (λ c. c == club) (take 2 order) found.0 club found.1 (eq-eqb _ _ found.2) in
    absurd (cc)

-- a completion of the board
module _ (profile : Profile) (board later : List ℕ) (done : IsCompletion board later) (roster : List NamedClub) where
  low : (club : ℕ) → sure_points (matches_of board) club ≤ final_points later club
  unfolding final_points matches_of board_part
  low club = (between club match_numbers board later are_matches done).low

  high : (club : ℕ) → final_points later club ≤ reach (matches_of board) club
  unfolding final_points matches_of board_part
  high club = (between club match_numbers board later are_matches done).high

  member : (club : ℕ) → IsSlot club → is_in (order_of profile (started_of later) roster) club ≡ true
  member club slot =
      let found = Contains-permutation all_clubs (order_of profile (started_of later) roster) club (order_permutes profile (started_of later) roster) (a_club club slot) in
      list_any_at (λ c. c == club) (order_of profile (started_of later) roster) found.0 club found.1 (eq-eqb _ _ found.2)

  -- a club with at most one rival stands in the first two
  through : (club : ℕ) → IsSlot club → rivals (matches_of board) club ≤ 1 → is_in (take 2 (order_of profile (started_of later) roster)) club ≡ true
  unfolding final_points reaches
  through club slot few =
      let key : ℕ → ℕ = final_points later in
      let rival : ℕ → Bool = λ other. not (other == club) && nat_le (sure_points (matches_of board) club) (reach (matches_of board) other) in
      let fewer : count_by (reaches key club) all_clubs ≤ count_by rival all_clubs =
      count-le (reaches key club) rival all_clubs
      (λ o. reach_weaker (key club) (key o) (sure_points (matches_of board) club) (reach (matches_of board) o) (not (o == club))
      (low club) (high o)) in
      let same : count_by (reaches key club) (order_of profile (started_of later) roster) ≡ count_by (reaches key club) all_clubs =
      sum_by-IsPermutation _ _ _ (order_permutes profile (started_of later) roster) in
      let long : length (order_of profile (started_of later) roster) ≡ 4 = length_permutation _ _ (order_permutes profile (started_of later) roster) in
      in_first_two key club (order_of profile (started_of later) roster) long (order_falls profile (started_of later) roster)
      (member club slot) (omega arith)

  -- a club of which two others are out of reach does not
  out : (club : ℕ) → 2 ≤ out_of_reach (matches_of board) club → is_in (take 2 (order_of profile (started_of later) roster)) club ≡ false
  unfolding final_points passes
  out club many =
      let key : ℕ → ℕ = final_points later in
      let gone : ℕ → Bool = λ other. not (other == club) && nat_lt (reach (matches_of board) club) (sure_points (matches_of board) other) in
      let more : count_by gone all_clubs ≤ count_by (passes key club) all_clubs =
      count-le gone (passes key club) all_clubs
      (λ o. pass_stronger (key club) (key o) (reach (matches_of board) club) (sure_points (matches_of board) o) (not (o == club))
      (high club) (low o)) in
      let same : count_by (passes key club) (order_of profile (started_of later) roster) ≡ count_by (passes key club) all_clubs =
      sum_by-IsPermutation _ _ _ (order_permutes profile (started_of later) roster) in
      let long : length (order_of profile (started_of later) roster) ≡ 4 = length_permutation _ _ (order_permutes profile (started_of later) roster) in
      not_in_first_two key club (order_of profile (started_of later) roster) long (order_falls profile (started_of later) roster) (omega arith)

  -- a club marked Plus goes through
  pub plus_is_certain : (club : ℕ) → IsSlot club → mark_of profile board roster club ≡ Plus → GoesThrough profile later roster club
  unfolding mark_of
  plus_is_certain club slot h =
      through_if (order_of profile (started_of later) roster) club
      (elim (plus_cases (list_all has_finished (matches_of board)) (is_in (take 2 (order_of profile (started_of board) roster)) club)
      (nat_le (rivals (matches_of board) club) 1) (nat_le 2 (out_of_reach (matches_of board) club)) h) [
        | inl (all, now) ↦ rw (same_order profile board later roster (unchanged board later done all)) now
        | inr few ↦ through club slot (leb-true _ _ few)
      ])

  -- a club marked Minus does not
  pub minus_is_certain : (club : ℕ) → mark_of profile board roster club ≡ Minus → GoesThrough profile later roster club → ⊥
  unfolding mark_of
  minus_is_certain club h =
      not_through_if (order_of profile (started_of later) roster) club (elim (minus_cases (list_all has_finished (matches_of board))
      (is_in (take 2 (order_of profile (started_of board) roster)) club) (nat_le (rivals (matches_of board) club) 1) (nat_le 2 (out_of_reach (matches_of board) club)) h) [
        | inl (all, now) ↦ rw (same_order profile board later roster (unchanged board later done all)) now
        | inr many ↦ out club (leb-true _ _ many)
      ])

-- ---- the rows, from what the calls answered

-- a row for the club at a place of a board's order, with its mark and its numbers in matches in play and finished, is the row at this
-- place of the board's table
pub row_of_place : (profile : Profile) (board : List ℕ) (roster : List NamedClub) (place : ℕ) (ms given : List Match) (order : List ℕ) (r : Row)
    → ms ≡ matches_of board → given ≡ ms → order ≡ order_of profile (started_of board) roster → (let slot = slice_index order (place - 1) in
    r ≡ row_with place slot (mark_by given order slot) (started given)) → r ≡ row_of profile board roster place
unfolding row_of mark_of
row_of_place profile board roster place ms given order r is_ms is_given is_order is = rw (is, is_given, is_ms, is_order)

-- lists of four rows are equal if their rows are equal, place by place
pub four_rows : {a b c d a' b' c' d' : Row} → a ≡ a' → b ≡ b' → c ≡ c' → d ≡ d' → ◌≡◌ {A = List Row} (a ∷ b ∷ c ∷ d ∷ []) (a' ∷ b' ∷ c' ∷ d' ∷ [])
four_rows p q r s = cc

-- the mark of each row is that of its club, and so is what it says
module _ (profile : Profile) (board : List ℕ) (roster : List NamedClub) where
  marked : (place : ℕ) → (row_of profile board roster place).mark ≡ mark_of profile board roster (row_of profile board roster place).slot
  unfolding row_of
  marked place = refl

  abbrev HasMark : Row → Type 0
  HasMark row = row.mark ≡ mark_of profile board roster row.slot

  all_marked : All HasMark (rows_of profile board roster)
  all_marked = all-four HasMark _ _ _ _ (marked 1) (marked 2) (marked 3) (marked 4)

  certain : (row : Row) → IsWithinTable row → HasMark row → MarkIsCertain profile board roster row
  certain row within is = record {
    plus = λ mark later done. plus_is_certain profile board later done roster row.slot within.slot (sym is ∙ mark);
    minus = λ mark later done. minus_is_certain profile board later done roster row.slot (sym is ∙ mark);
  }

  pub all_certain : All IsWithinTable (rows_of profile board roster) → All (MarkIsCertain profile board roster) (rows_of profile board roster)
  all_certain within i d below = certain (get_or (rows_of profile board roster) i d) (within i d below) (all_marked i d below)

-- ---- the marks, from what the calls answered

-- if all matches are finished, the final marks of the four clubs are their marks, in the same order
pub final_marks : (ms : List Match) (order : List ℕ) (a b c d : Mark) → length order ≡ 4 → list_all has_finished ms ≡ true →
    a ≡ final_mark order (get_or order 0 0) → b ≡ final_mark order (get_or order 1 0) → c ≡ final_mark order (get_or order 2 0) → d
    ≡ final_mark order (get_or order 3 0) →
    ◌≡◌ {A = List Mark} (a ∷ b ∷ c ∷ d ∷ []) (map (mark_by ms order) order)
final_marks ms (w ∷ x ∷ y ∷ z ∷ []) a b c d long all is_a is_b is_c is_d = rw (all, is_a, is_b, is_c, is_d)
final_marks ms order a b c d long all is_a is_b is_c is_d = absurd (omega arith)

-- if not all matches are finished, the early marks of the four clubs, which go by points, are their marks, in the same order
pub early_marks : (ms : List Match) (order : List ℕ) (a b c d : Mark) → length order ≡ 4 → list_all has_finished ms ≡ false →
    a ≡ early_mark ms (get_or order 0 0) → b ≡ early_mark ms (get_or order 1 0) → c ≡ early_mark ms (get_or order 2 0) → d ≡ early_mark ms (get_or order 3 0) →
    ◌≡◌ {A = List Mark} (a ∷ b ∷ c ∷ d ∷ []) (map (mark_by ms order) order)
early_marks ms (w ∷ x ∷ y ∷ z ∷ []) a b c d long some is_a is_b is_c is_d = rw (some, is_a, is_b, is_c, is_d)
early_marks ms order a b c d long some is_a is_b is_c is_d = absurd (omega arith)

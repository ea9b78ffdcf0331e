-- What is not of the form of moments of a record: an older board state after a newer one, and a mixture of two moments.
use Rattle.ucl_live_runs.proofs.Common.{All, All-contains, BoardState, Contains, Contains-append_right, Event, Json, List, LiveArgs}
use Rattle.ucl_live_runs.proofs.Common.{MixturesAreRefused, NamedClub, NightEvent, OlderMomentsAreRefused, Option, Row, Said, Session, Some}
use Rattle.ucl_live_runs.proofs.Common.{StandingEvent, [], after_lines, ap, ap₂, arith, asked_by, asked_header, bad_slot_from, begun_line}
use Rattle.ucl_live_runs.proofs.Common.{board_in, board_state_now, board_state_of_moment, board_state_with, cases_lt, codes, ended_lines}
use Rattle.ucl_live_runs.proofs.Common.{entered, get_or, inl, inr, is_club, lines_of, map, mixture, moment, named, open_at, refl}
use Rattle.ucl_live_runs.proofs.Common.{refusal_of, request_of, said_by_text, said_on, same_Some, standing_of, start_of, suc, sym, take}
use Rattle.ucl_live_runs.proofs.Common.{two_kickoffs, version_of, ℕ, ◌++◌, ◌<◌, ◌∙◌, ◌∷◌, ◌≡◌}
use Rattle.std.proofs.lemmas.List.Kept.{AllPairs-from_increasing}
use Rattle.std.specs.List.{AllPairs}
use Rattle.std.proofs.Common.{drop}
unfoldable use Rattle.ucl_board.specs.History.{board_of}
unfoldable use Rattle.ucl_word.specs.Layout.{record_at, word_of}
unfoldable use Rattle.ucl_word.specs.Rules.{after}
unfoldable use Rattle.csv.specs.Machine.{next_record}
unfoldable use Rattle.csv.specs.Reading.{records_from, strip_bom}
unfoldable use Rattle.ucl_screen.specs.Numbers.{digits_after}
unfoldable use Rattle.ucl_word.specs.Counts.{counted_match}
unfoldable use Rattle.ucl_word.specs.Names.{kind_named}
use Rattle.ucl_word.specs.declared.event.Kind.TheVariants.{KickOff}
use Rattle.ucl_live_runs.proofs.FollowShown.{not-itself, one-way}
use Rattle.ucl_live_runs.proofs.Moments.{rises}
use Rattle.ucl_live_runs.proofs.RecordEnds.{IsReady, IsUpTo, older as older-of, ready}

-- numbers of which each is less than those after it
abbrev Rise : List ℕ → Type 0
Rise places = AllPairs (λ x y. x < y) places

-- the first of numbers that rise is less than each other
first-below : (p : ℕ) (places : List ℕ) → Rise (p ∷ places) → All (λ q. p < q) places
first-below p places pairs k d few = pairs 0 (suc k) d (omega arith) (omega (arith, few))

-- numbers that rise do so without the first
rest-rises : (p : ℕ) (places : List ℕ) → Rise (p ∷ places) → Rise places
rest-rises p places pairs i j d less few = pairs (suc i) (suc j) d (omega (arith, less)) (omega (arith, few))

-- board states of moments of a record
module _ (options : LiveArgs) (rows : List ℕ) where
  abbrev state_at : ℕ → Option BoardState
  state_at = board_state_of_moment options rows

  -- each of them is that of one of the places, wherever it stands among them
  one-of : (places : List ℕ) (before after : List BoardState) (m : BoardState) → map Some (before ++ m ∷ after) ≡ map state_at places
      → (place : ℕ) × Contains places place × (state_at place ≡ Some m)
  one-of [] [] after m same = cc
  one-of (p ∷ places) [] after m same = (p, (0, omega arith, refl), cc)
  one-of [] (n ∷ before) after m same = cc
  one-of (p ∷ places) (n ∷ before) after m same =
      let one = one-of places before after m cc in (one.0, Contains-append_right (p ∷ []) places one.0 one.1, one.2)

  -- of two of them the first is that of a lower place, if the places rise
  two-of : (places : List ℕ) (before between after : List BoardState) (m o : BoardState) → Rise places
      → map Some (before ++ m ∷ (between ++ o ∷ after)) ≡ map state_at places
      → (p : ℕ) × (q : ℕ) × (p < q) × (state_at p ≡ Some m) × (state_at q ≡ Some o)
  two-of [] [] between after m o pairs same = cc
  two-of (p ∷ places) [] between after m o pairs same =
      let later = one-of places between after o cc in
      (p, later.0, All-contains (λ q. p < q) places later.0 (first-below p places pairs) later.1, cc, later.2)
  two-of [] (n ∷ before) between after m o pairs same = cc
  two-of (p ∷ places) (n ∷ before) between after m o pairs same = two-of places before between after m o (rest-rises p places pairs) cc

-- an older board state after a newer one is not of this form
pub no-older : OlderMomentsAreRefused
unfolding OlderMomentsAreRefused
no-older options rows places before between after newer older json short later are =
    let two = two-of options rows places before between after newer older (AllPairs-from_increasing places are.rising) are.same in
    no (rises options rows (ready options rows json short) two.0 two.1 newer older (let less = two.2 in omega arith) two.3 two.4)
  where
    no : IsUpTo newer older → ⊥
    no (inl same) = cc (later, same, not-itself older)
    no (inr behind) = cc (later, one-way older newer (older-of older newer behind).1)

-- ---- the record of two kickoffs

-- a row of four fields
abbrev row_of : List ℕ → List ℕ → List ℕ → List ℕ → Said
row_of first second third fourth = Row (record { first = first; second = second; third = third; fourth = fourth })

-- the kickoff of this match by reporter 1
abbrev kickoff_of : ℕ → NightEvent
kickoff_of game = record { reporter = 1; call = record { game = game; expected = 0; kind = KickOff } }

-- its four clubs
abbrev four : List NamedClub
four = named (codes "A") 0 ∷ named (codes "B") 0 ∷ named (codes "C") 0 ∷ named (codes "D") 0 ∷ []

-- the events that stand after the first kickoff, and after both
abbrev one : List StandingEvent
one = standing_of 5 (kickoff_of 1) ∷ []

abbrev both : List StandingEvent
both = standing_of 5 (kickoff_of 1) ∷ standing_of 6 (kickoff_of 7) ∷ []

-- its session before the row of this number, when these events stand
abbrev session_with : LiveArgs → ℕ → List StandingEvent → Session
session_with options row events = record { options = options; header = asked_header options; row = row; phase = open_at four events }

abbrev board_state_of : LiveArgs → List ℕ → BoardState
board_state_of options board = board_state_with (asked_header options) four board

cut : lines_of two_kickoffs ≡ codes "club,1,A,0" ∷ codes "club,2,B,0" ∷ codes "club,3,C,0" ∷ codes "club,4,D,0" ∷ codes "1,1,0,kickoff" ∷ codes "1,7,0,kickoff" ∷ []
unfolding ended_lines begun_line
cut = refl

-- what its rows say
said : (said_on 1 (codes "club,1,A,0") ≡ row_of (codes "club") (codes "1") (codes "A") (codes "0"))
    × (said_on 2 (codes "club,2,B,0") ≡ row_of (codes "club") (codes "2") (codes "B") (codes "0"))
    × (said_on 3 (codes "club,3,C,0") ≡ row_of (codes "club") (codes "3") (codes "C") (codes "0"))
    × (said_on 4 (codes "club,4,D,0") ≡ row_of (codes "club") (codes "4") (codes "D") (codes "0"))
    × (said_on 5 (codes "1,1,0,kickoff") ≡ row_of (codes "1") (codes "1") (codes "0") (codes "kickoff"))
    × (said_on 6 (codes "1,7,0,kickoff") ≡ row_of (codes "1") (codes "7") (codes "0") (codes "kickoff"))
unfolding said_by_text records_from next_record strip_bom
said = (refl, refl, refl, refl, refl, refl)

-- what the rows of the two kickoffs ask for
asks : (request_of (row_of (codes "1") (codes "1") (codes "0") (codes "kickoff")) ≡ Event (kickoff_of 1))
    × (request_of (row_of (codes "1") (codes "7") (codes "0") (codes "kickoff")) ≡ Event (kickoff_of 7))
unfolding asked_by digits_after kind_named
asks = (refl, refl)

-- the events that stand after them
enters : (entered 5 [] (kickoff_of 1) ≡ one) × (entered 6 one (kickoff_of 7) ≡ both)
unfolding counted_match refusal_of
enters = (refl, refl)

at-4 : (options : LiveArgs) → moment options two_kickoffs 4 ≡ session_with options 5 []
unfolding after_lines digits_after bad_slot_from is_club
at-4 options = rw (cut, said.0, said.1, said.2, said.3) refl

at-5 : (options : LiveArgs) → moment options two_kickoffs 5 ≡ session_with options 6 one
unfolding after_lines digits_after bad_slot_from is_club
at-5 options = rw (cut, said.0, said.1, said.2, said.3, said.4, asks.0, enters.0) refl

at-6 : (options : LiveArgs) → moment options two_kickoffs 6 ≡ session_with options 7 both
unfolding after_lines digits_after bad_slot_from is_club
at-6 options = rw (cut, said.0, said.1, said.2, said.3, said.4, asks.0, enters.0, said.5, asks.1, enters.1) refl

-- the board of the mixture
abbrev mixed : List ℕ
mixed = take 6 (board_in []) ++ drop 6 (board_in both)

-- the mixture and the board after the first kickoff have the same version, but not the same word of match 1
same-version : version_of mixed ≡ version_of (board_in one)
unfolding board_of counted_match word_of record_at after
same-version = refl

other-word : get_or mixed 0 0 ≡ get_or (board_in one) 0 0 → ⊥
unfolding board_of counted_match word_of after
other-word h = omega (arith, h)

-- the mixture is not the board state of any moment
not-there : (options : LiveArgs) (place : ℕ) → options.format ≡ Json → board_state_of_moment options two_kickoffs place ≡ Some (board_state_of options mixed) → ⊥
not-there options place json there = elim (cases_lt place 5) [
  | inl less ↦ no (rises options two_kickoffs is place 5 mix now (omega (arith, less)) there stands)
  | inr few ↦ no-later (rises options two_kickoffs is 5 place now mix few stands there)
]
  where
    is : IsReady (start_of options) (lines_of two_kickoffs)
    is = ready options two_kickoffs json (omega arith)

    mix : BoardState
    mix = board_state_of options mixed

    now : BoardState
    now = board_state_of options (board_in one)

    stands : board_state_of_moment options two_kickoffs 5 ≡ Some now
    stands = ap board_state_now (at-5 options)

    no : IsUpTo mix now → ⊥
    no (inl same) = other-word (ap (λ (m : BoardState). get_or m.board 0 0) same)
    no (inr behind) = elim behind.less [ inl less ↦ omega (arith, less) | inr less ↦ omega (arith, less.1, same-version) ]

    no-later : IsUpTo now mix → ⊥
    no-later (inl same) = no (inl (sym same))
    no-later (inr behind) = elim behind.less [ inl less ↦ omega (arith, less) | inr less ↦ omega (arith, less.1, same-version) ]

-- a mixture of two moments of the record of two kickoffs is not of this form
pub no-mixture : MixturesAreRefused
unfolding MixturesAreRefused
no-mixture options places before after first second json at-first at-second are =
    let is_first = same_Some first (board_state_of options (board_in [])) (sym at-first ∙ ap board_state_now (at-4 options)) in
    let is_second = same_Some second (board_state_of options (board_in both)) (sym at-second ∙ ap board_state_now (at-6 options)) in
    let place = one-of options two_kickoffs places before after (mixture first second) are.same in
    not-there options place.0 json (place.2 ∙ ap Some (ap₂ mixture is_first is_second))

-- Events that are entered in turn.
use Rattle.ucl_screen.proofs.Common.{Entry, IsBoardAfter, List, NightEvent, [], add-one, after_attempt, ap, append-nil, arith, attempt_of}
use Rattle.ucl_screen.proofs.Common.{append_assoc, drop, drop-cons, drop_all, each_match, flat_map, flat_map-append, fold, get_or, length, map}
use Rattle.ucl_screen.proofs.Common.{match_numbers, max_version, refl, suc, sym, take, take_more, versions, ℕ, ◌++◌, ◌+◌, ◌-◌, ◌<◌, ◌∙◌}
use Rattle.ucl_screen.proofs.Common.{◌∷◌, ◌≡◌, ◌≤◌}
use Rattle.ucl_board.specs.History.{accepted_of, board_of}
use Rattle.ucl_screen.specs.Script.{first_event_row}
unfoldable use Rattle.ucl_screen.specs.Events.{each_in_turn}

-- an event that is still to be entered is the first of the rest
pub first-event : (i : ℕ) (events : List NightEvent) (e : NightEvent) → i < length events → e ≡ get_or events i e → drop i events ≡ e ∷ drop (i + 1) events
first-event i events e h is = rw (add-one i) (drop-cons events i e h ∙ ap (λ (x : NightEvent). x ∷ drop (suc i) events) (sym is))

-- the version of a board after a legal history is at most the greatest, 49,140
pub version-bound : (history : List Entry) (words : List ℕ) (version : ℕ) → IsBoardAfter history words version → version ≤ max_version
version-bound history words version is = rw is.version_is (versions history is.legal).1

-- the first `i` events were entered in turn on a fresh board, which then has these words and this version; `given` is the joined output of
-- `each` for them, and `row` the row of the next event
pub record AreEntered {X : Type 0} (each : ℕ → List Entry → NightEvent → List X) (events : List NightEvent) (i row : ℕ) (words : List ℕ) (version : ℕ) (given : List X) : Type 0 where
  pub history : List Entry
  pub board_is : IsBoardAfter history words version
  pub given_is : given ++ each_in_turn each row history (drop i events) ≡ each_in_turn each first_event_row [] events
  pub entries : fold after_attempt history (map attempt_of (drop i events)) ≡ accepted_of (map attempt_of events)

module _ {X : Type 0} (each : ℕ → List Entry → NightEvent → List X) (events : List NightEvent) (i row : ℕ) (words : List ℕ) (version : ℕ) (given : List X)
    (so_far : AreEntered each events i row words version given) where
  -- one event more is entered
  pub entered-one : (e : NightEvent) (words_then : List ℕ) (version_then : ℕ) (given_then : List X) → i < length events → e ≡ get_or events i e
      → IsBoardAfter (after_attempt so_far.history (attempt_of e)) words_then version_then → given_then ≡ given ++ each row so_far.history e
      → AreEntered each events (i + 1) (row + 1) words_then version_then given_then
  unfolding each_in_turn
  entered-one e words_then version_then given_then below is board_is more =
      let next = first-event i events e below is in record {
        history = after_attempt so_far.history (attempt_of e);
        board_is = board_is;
        given_is = rw (more, append_assoc given (each row so_far.history e) (each_in_turn each (row + 1) (after_attempt so_far.history (attempt_of e)) (drop (i + 1) events)))
            (rw next at so_far.given_is);
        entries = rw next at so_far.entries;
      }

  -- all events are entered
  pub entered-all : length events ≤ i → (given ≡ each_in_turn each first_event_row [] events) × (words ≡ board_of (accepted_of (map attempt_of events)))
  unfolding each_in_turn
  entered-all h =
      let none = drop_all i events h in (sym (append-nil given) ∙ (rw none at so_far.given_is), sym so_far.board_is.words_are ∙ ap board_of (rw none at so_far.entries))

-- place `n - 1` of the match numbers is n, for a match from 1 to 12
pub match-numbered : (n : ℕ) → 1 ≤ n → n ≤ 12 → get_or match_numbers (n - 1) 0 ≡ n
match-numbered n low high = each_match (λ g. get_or match_numbers (g - 1) 0 ≡ g) refl refl refl refl refl refl refl refl refl refl refl refl n (low, high)

-- if a text has the lines of the matches before match n, the text and the line of match n are the lines of the matches up to n
pub line_more : (line : ℕ → List ℕ) (n game : ℕ) (before after : List ℕ) → 1 ≤ n → n ≤ 12 → game ≡ n
    → before ≡ flat_map line (take (n - 1) match_numbers) → after ≡ before ++ line game → after ≡ flat_map line (take (n + 1 - 1) match_numbers)
line_more line n game before after low high is so_far next =
    let at : n + 1 - 1 ≡ n - 1 + 1 = omega arith in
    let within : n - 1 ≤ 11 = omega arith in
    rw (at, take_more match_numbers (n - 1) 0 (omega arith), match-numbered n low high, flat_map-append line (take (n - 1) match_numbers) (n ∷ []), next, is, so_far, append-nil (line n))

-- a text that has the lines of the matches before match 13 has the lines of all twelve matches
pub lines_all : (line : ℕ → List ℕ) (n : ℕ) (text : List ℕ) → n ≡ 13 → text ≡ flat_map line (take (n - 1) match_numbers) → text ≡ flat_map line match_numbers
lines_all line n text last is = rw (is, last)

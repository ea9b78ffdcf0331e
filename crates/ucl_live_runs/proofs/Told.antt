-- What the answers of a session to one line tell.
use Rattle.ucl_live_runs.proofs.Common.{Accepted, All, All-get_or, All-head, All-nil, All-push, All-tail, AreWords, AwaitingClubs}
use Rattle.ucl_live_runs.proofs.Common.{AwaitingHeader, Bad, BoardHeader, BoardState, Bool, Contains, Contains-append_right, Err, Event}
use Rattle.ucl_live_runs.proofs.Common.{Fate, IfSome, IsBoardState, IsGroup, IsLegal, IsRoster, IsWord, Json, Kept, LeftOut, List, LiveArgs}
use Rattle.ucl_live_runs.proofs.Common.{Matches, Mend, MendRefusal, Mends, NamedClub, NightEvent, None, Nothing, Ok, Open, Option, Profile}
use Rattle.ucl_live_runs.proofs.Common.{Reached, Refusal, Refused, Request, Result, Row, Said, Screen, Session, Some, StandingEvent}
use Rattle.ucl_live_runs.proofs.Common.{Without, Words, [], after, and_parts, answer, answer_at, answer_of, answer_said, ap, arith}
use Rattle.ucl_live_runs.proofs.Common.{asked_header, bad_answer, board_in, board_state_at, board_state_now, board_state_with, board_words}
use Rattle.ucl_live_runs.proofs.Common.{club_said, clubs_after, cond_both, edition_by, edition_reply, entered, event_answer, events_after}
use Rattle.ucl_live_runs.proofs.Common.{fate_of, fits, flat_map-append, fold, game_at, header_by, header_said, history_in, inl, inr}
use Rattle.ucl_live_runs.proofs.Common.{is_group_row, is_ok, json_line, kept_after, kept_by, leb-true, left_by, left_out_by, left_out_lines}
use Rattle.ucl_live_runs.proofs.Common.{left_out_value, length, letter_in, matches_answer, mend_answer, mend_refused_answer, mended_answer}
use Rattle.ucl_live_runs.proofs.Common.{mended_stage, moved, named, nat_le, nat_tests, next, next_at, number_valid, open_at, profile_named}
use Rattle.ucl_live_runs.proofs.Common.{refl, refused_value, reply_answer, request_of, request_stage, row_named, row_number, screen_after}
use Rattle.ucl_live_runs.proofs.Common.{screen_answer, screen_if, sequential_reply, standing_of, start_of, subst, sym, true, unwrap_or}
use Rattle.ucl_live_runs.proofs.Common.{version_of, word_at, word_valid, words_answer, ℕ, ◌&&◌, ◌++◌, ◌+◌, ◌-◌, ◌<◌, ◌>>=◌, ◌^◌, ◌∷◌, ◌≡◌}
use Rattle.ucl_live_runs.proofs.Common.{◌≤◌, ◌⊎◌}
use Rattle.ucl_command.proofs.Letters.{asked_letter}
use Rattle.ucl_command.specs.Groups.{may_be_asked}
use Rattle.ucl_screen.specs.Numbers.{number}
unfoldable use Rattle.ucl_mends.specs.Mended.{left_out_after}
use Rattle.ucl_live_runs.proofs.AnswerLines.{CarriesAtMost, HasNumbers, IsShown, accepted-line, bad-line, board-fits, carried-line}
use Rattle.ucl_live_runs.proofs.AnswerLines.{carried-then, carried_in, found-fits, left-out-line, matches-line, mend-refused-line}
use Rattle.ucl_live_runs.proofs.AnswerLines.{mended-line, most-none, most-then, refused-line, value-line, words-line}
use Rattle.ucl_live_runs.proofs.AnswerValues.{screen-back, screen-plain}
use Rattle.ucl_live_runs.proofs.Boards.{IsGood, IsPossible, IsSmall, by-reply, entered-legal, good-club, good-clubs, good-first, good-mend}
use Rattle.ucl_live_runs.proofs.Boards.{in-limits, later-edition, possible}
use Rattle.ucl_live_runs.proofs.FollowShown.{IsOfSame}
use Rattle.ucl_live_runs.proofs.Lines.{by-line}
use Rattle.ucl_live_runs.specs.Follow.{screen_of}
use Rattle.ucl_json.proofs.AnswerSizes.{version-fits}
use Rattle.ucl_json.proofs.PlainValues.{IsShortPlain}
use Rattle.ucl_json.specs.BoardLines.{parse_board_state}
use Rattle.ucl_mends.proofs.LeftOuts.{few-left}
use Rattle.ucl_mends.proofs.Mends.{IsRanged, all-ranged, few}

-- the first is of the group and order of the second, and of an earlier edition, or of the same one and a lower version
pub record IsBehind (o m : BoardState) : Type 0 where
  pub same : IsOfSame o.header m.header
  pub less : (o.header.edition < m.header.edition) ⊎ ((o.header.edition ≡ m.header.edition) × (version_of o.board < version_of m.board))

-- the text of an answer tells the board state after it, if any: it is the one before, or it is newer, and the text carries it if screens are
-- asked for
pub record Tells (screens : Bool) (before : BoardState) (after : Option BoardState) (text : List ℕ) : Type 0 where
  pub most : CarriesAtMost after text
  pub moves : (after ≡ Some before) ⊎ ((m : BoardState) × (after ≡ Some m) × IsBehind before m × (screens ≡ true → Contains (carried_in text) (Some m)))

-- if the board state has not changed, an answer tells it if each of its lines carries nothing or just this board state
pub stays-told : (screens : Bool) (before : BoardState) (after : Option BoardState) (text : List ℕ) → CarriesAtMost after text → after ≡ Some before → Tells screens before after text
stays-told screens before after text most same = record { most = most; moves = inl same }

-- a header with a group that there is, and an edition of 16 bits
pub record IsHeader (header : BoardHeader) : Type 0 where
  pub letter : IsGroup header.group
  pub edition : header.edition ≤ 65535

-- a text that is read as the letter of a group, if it is, names a group that there is
within : (text : List ℕ) → IfSome (letter_in text) IsGroup
within (b ∷ []) = cond_both (nat_le 65 b && nat_le b 72) (Some b) None (λ (o : Option ℕ). IfSome o IsGroup)
    (λ y. let p = and_parts (nat_le 65 b) (nat_le b 72) y in (leb-true 65 b p.0, leb-true b 72 p.1)) (λ _. tt)
within _ = tt

-- the header that these fields make, if each was read
abbrev has_header : Option ℕ → Option Profile → Option ℕ → Option BoardHeader
has_header a b c = do
  group ← a
  profile ← b
  edition ← c
  Some (record { group = group; profile = profile; edition = edition })

-- the header that these fields make, if each was read, is in range, if each was read in range
header-of : (a : Option ℕ) (b : Option Profile) (c : Option ℕ) → IfSome a IsGroup → IfSome c (λ n. (0 ≤ n) × (n ≤ 65535))
    → IfSome (has_header a b c) IsHeader
header-of (Some a) (Some b) (Some c) letter edition = record { letter = letter; edition = edition.1 }
header-of _ _ _ letter edition = tt

-- the group that is asked for, if it may be asked for, or else A, is a group that there is
letter-of : (asked : Option ℕ) → may_be_asked asked ≡ true → IsGroup (unwrap_or asked 65)
letter-of None h = (omega arith, omega arith)
letter-of (Some group) h = asked_letter group h

-- the header with which a session begins has a group that there is and an edition of 16 bits
pub first-header : (options : LiveArgs) → IsHeader (asked_header options)
first-header options = record { letter = letter-of options.group options.letter; edition = omega arith }

-- the header of a row, or else the one before it, has a group that there is and an edition of 16 bits, if both have
or-header : (header : BoardHeader) (o : Option BoardHeader) → IsHeader header → IfSome o IsHeader → IsHeader (unwrap_or o header)
or-header header None is more = is
or-header header (Some other) is more = more

-- the header after a row has a group that there is and an edition of 16 bits, if the one before it has
row-header : (header : BoardHeader) (r : Said) → IsHeader header → IsHeader (unwrap_or (header_said r) header)
row-header header (Row f) is = or-header header (header_by f) is
    (header-of (letter_in f.second) (profile_named f.third) (edition_by f.fourth) (within f.second) (in-limits 0 65535 (number 5 f.fourth)))
row-header _ _ is = is

-- the row number that an event keeps, which is 0 above 32 bits, has 32 bits
small-row : (row : ℕ) → row_number row ≤ 4294967295
small-row row = cond_both (nat_le row 4294967295) row 0 (λ n. n ≤ 4294967295) (λ y. grind (arith, nat_tests)) (λ _. omega arith)

-- if the rows of all events that stand have 32 bits, they do so after an event is entered
small-entered : (row : ℕ) (events : List StandingEvent) (event : NightEvent) → All IsSmall events → All IsSmall (entered row events event)
small-entered row events event all =
    cond_both (is_ok (sequential_reply (history_in events) event.call)) (events ++ standing_of row event ∷ []) events (All IsSmall)
    (λ _. All-push IsSmall events (standing_of row event) all (small-row row)) (λ _. all)

-- if the rows of the events kept so far and of one more have 32 bits, so have those of the events kept after it
small-kept : (kept : List StandingEvent) (event : StandingEvent) (fate : Fate) → All IsSmall kept → IsSmall event → All IsSmall (kept_by kept event fate)
small-kept kept event Kept all one = All-push IsSmall kept event all one
small-kept kept event _ all one = all

-- if the rows of the events kept so far and of more events have 32 bits, so have those of all events kept after them
small-mended : (row : ℕ) (kept events : List StandingEvent) → All IsSmall kept → All IsSmall events → All IsSmall (fold (kept_after row) kept events)
small-mended row kept [] small all = small
small-mended row kept (event ∷ events) small all =
    small-mended row (kept_after row kept event) events (small-kept kept event (fate_of row kept event) small (All-head IsSmall event events all)) (All-tail IsSmall event events all)

-- if the rows of all events that stand have 32 bits, so have those of the events that stand after a mend
small-after : (events : List StandingEvent) (mend : Mend) → All IsSmall events → All IsSmall (events_after events mend)
small-after events (Without row) all = small-mended row [] events (All-nil IsSmall) all
small-after events _ all = all

-- the JSON lines of the events that a mend leaves out carry no board state, if those that it goes through are in range
left-tells : (o : Option BoardState) (row : ℕ) (kept events : List StandingEvent) → All IsRanged events → All IsSmall events
    → CarriesAtMost o (left_out_lines (left_out_after row kept events))
unfolding left_out_after
left-tells o row kept [] ranged all = most-none o
left-tells o row kept (event ∷ events) ranged all =
    let fate = fate_of row kept event in
    let rest = left_out_after row (kept_after row kept event) events in
    let both = most-then o (left_out_lines (left_by event fate)) (left_out_lines rest) (one fate (All-head IsRanged event events ranged) (All-head IsSmall event events all))
    (left-tells o row (kept_after row kept event) events (All-tail IsRanged event events ranged) (All-tail IsSmall event events all)) in
    subst (CarriesAtMost o) (sym (flat_map-append (λ (out : LeftOut). json_line (left_out_value out.event.row out.event.entry out.refusal)) (left_by event fate) rest)) both
  where
    one : (fate : Fate) → IsRanged event → IsSmall event → CarriesAtMost o (left_out_lines (left_by event fate))
    one (Refused refusal) r s =
        most-then o (json_line (left_out_value event.row event.entry refusal)) []
        (left-out-line o event.row event.entry refusal (omega (arith, s)) (omega (arith, r.1)) (omega (arith, r.0))) (most-none o)
    one _ r s = most-none o

-- the JSON lines of the events that a mend leaves out carry no board state, if those that stand are a legal history with rows of 32 bits
left-by-tells : (o : Option BoardState) (events : List StandingEvent) (mend : Mend) → IsLegal (history_in events) → All IsSmall events
    → CarriesAtMost o (left_out_lines (left_out_by events mend))
left-by-tells o events (Without row) legal all = left-tells o row [] events (all-ranged [] events legal) all
left-by-tells o events _ legal all = most-none o

-- the row that a mend names fits 64 bits
without-fits : (mend : Mend) → IsPossible (Mends mend) → IfSome (row_named mend) (λ n. n < 2 ^ 64)
without-fits (Without row) p = omega (arith, p)
without-fits _ p = tt

-- a header and what a session has reached are in range: if the board is open, its clubs are a roster, its history legal, its rows of 32 bits
pub record AreSound (header : BoardHeader) (reached : Reached) : Type 0 where
  pub phase : IsGood reached
  pub header_is : IsHeader header

-- a session is sound: its header and its phase are in range
abbrev pub IsSound : Session → Type 0
IsSound e = AreSound e.header e.phase

-- an open board that is sound stays sound after a mend whose numbers are in range
sound-mend : (header : BoardHeader) (clubs : List NamedClub) (events : List StandingEvent) (mend : Mend) (reply : Result ℕ MendRefusal) → AreSound header (open_at clubs events)
    → IsPossible (Mends mend) → edition_reply header.edition events mend ≡ reply → AreSound (mended_stage header clubs events mend reply).header (mended_stage header clubs events mend reply).phase
sound-mend header clubs events mend (Ok edition) g p is = record {
  phase = (good-clubs clubs mend p g.phase.0, good-mend events mend g.phase.1, small-after events mend g.phase.2);
  header_is = record { letter = g.header_is.letter; edition = (later-edition header.edition events mend edition g.header_is.edition p is).1 };
}
sound-mend header clubs events mend (Err refusal) g p is = g

-- an open board that is sound stays sound after a request whose numbers are in range
sound-request : (header : BoardHeader) (row : ℕ) (clubs : List NamedClub) (events : List StandingEvent) (q : Request) → AreSound header (open_at clubs events)
    → IsPossible q → AreSound (request_stage header row clubs events q).header (request_stage header row clubs events q).phase
sound-request header row clubs events (Event event) g p = record {
  phase = (g.phase.0, entered-legal row events event g.phase.1 p.0, small-entered row events event g.phase.2);
  header_is = g.header_is;
}
sound-request header row clubs events (Mends mend) g p =
    sound-mend header clubs events mend (edition_reply header.edition events mend) g p refl
sound-request header row clubs events _ g p = g

-- what a session has reached stays sound after any row
sound-at : (e : Session) (s : Reached) (r : Said) → AreSound e.header s → AreSound (next_at e s r).header (next_at e s r).phase
sound-at e (Ok AwaitingHeader) r g = record {
  phase = good-first e.options e.row r;
  header_is = cond_both (is_group_row r) (unwrap_or (header_said r) e.header) e.header IsHeader (λ _. row-header e.header r g.header_is) (λ _. g.header_is);
}
sound-at e (Ok (AwaitingClubs clubs)) r g = record { phase = good-club e.row clubs (club_said (length clubs + 1) r); header_is = g.header_is }
sound-at e (Ok (Open table)) r g = sound-request e.header e.row table.roster table.events (request_of r) g (possible r)
sound-at e (Err fault) r g = g

-- a sound session stays sound after any line
pub sound-next : (e : Session) (r : Said) → IsSound e → IsSound (next e r)
sound-next e Nothing g = g
sound-next e r g = sound-at e e.phase r g

-- a session is sound as it begins: its phase, its header and its numbers are in range
pub start-sound : (options : LiveArgs) → IsSound (start_of options)
start-sound options = record { phase = tt; header_is = first-header options }

-- a board state is one that there can be if its group and its edition are in range, its clubs are a roster, and its words those of a board
board_state-good : (header : BoardHeader) (clubs : List NamedClub) (board : List ℕ) → IsHeader header → IsRoster clubs → AreWords board →
    IsBoardState (board_state_with header clubs board)
board_state-good header clubs board t is w = record { letter = t.letter; edition = t.edition; clubs = is; words = w; bits = board-fits board w.each }

-- the numbers of an event that a row may ask for are in range
numbers : (e : NightEvent) → IsPossible (Event e) → HasNumbers e
numbers e p = record { reporter = omega (arith, p.0.0); game = p.0.1.1; expected = omega (arith, p.1) }

-- answers in JSON, on the board of such a header and such clubs
module _ (options : LiveArgs) (header : BoardHeader) (row : ℕ) (clubs : List NamedClub) (json : options.format ≡ Json) (fits : row < 2 ^ 64) (good : IsHeader header)
    (is : IsRoster clubs) where
  -- the board state with this header, these clubs and this board
  abbrev Here : List ℕ → BoardState
  Here board = board_state_with header clubs board

  module _ (board : List ℕ) (w : AreWords board) where
    there : IsBoardState (Here board)
    there = board_state-good header clubs board good is w

    plain : IsShortPlain (screen_of row (Here board))
    plain = screen-plain row (Here board) there fits

    told : parse_board_state (screen_of row (Here board)) ≡ Some (Here board)
    told = screen-back row (Here board) there

    -- a screen carries the board state of its board
    screen-tells : CarriesAtMost (Some (Here board)) (screen_answer options.format header row clubs board)
    screen-tells = rw json (value-line (screen_of row (Here board)) (Some (Here board)) (Some (Here board)) plain told (inr refl))

    abbrev screen : List ℕ
    screen = screen_if options header row clubs board

    if-tells : CarriesAtMost (Some (Here board)) screen
    if-tells = cond_both options.screens (screen_answer options.format header row clubs board) [] (CarriesAtMost (Some (Here board))) (λ _. screen-tells) (λ _. most-none (Some (Here board)))

    shown : options.screens ≡ true → Contains (carried_in screen) (Some (Here board))
    shown on = rw (on, json, carried-line (screen_of row (Here board)) (Some (Here board)) plain told) (0, omega arith, refl)

    -- a text that carries nothing else, and then the screen of a newer board, if screens are asked for, tell it
    newer-told : (before : BoardState) (text : List ℕ) → CarriesAtMost (Some (Here board)) text → IsBehind before (Here board)
        → Tells options.screens before (Some (Here board)) (text ++ screen)
    newer-told before text most behind = record {
      most = most-then (Some (Here board)) text screen most if-tells;
      moves = inr (
        Here board,
        refl,
        behind,
        λ on. subst (λ (os : List (Option BoardState)). Contains os (Some (Here board))) (sym (carried-then text screen most.begun))
            (Contains-append_right (carried_in text) (carried_in screen) (Some (Here board)) (shown on)),
      );
    }

-- answers in JSON to events and mends, on the board of such a header and such clubs
module _ (options : LiveArgs) (header : BoardHeader) (row : ℕ) (clubs : List NamedClub) (json : options.format ≡ Json) (fits : row < 2 ^ 64) (good : IsHeader header)
    (is : IsRoster clubs) where
  abbrev At : List ℕ → BoardState
  At board = board_state_with header clubs board

  -- the board of the events that stand
  module _ (events : List StandingEvent) (legal : IsLegal (history_in events)) (small : All IsSmall events) where
    abbrev At_now : BoardState
    At_now = At (board_in events)

    words : AreWords (board_in events)
    words = board_words (history_in events) legal

    -- the answer to an event tells the board state after it
    event-tells : (event : NightEvent) → IsPossible (Event event)
        → Tells options.screens At_now (Some (At (board_in (entered row events event)))) (event_answer options header row clubs events event)
    event-tells event p =
        let board = board_in events in
        let word = word_at board event.call.game in
        let game = game_at board event.call.game in
        let now = board_in (events ++ standing_of row event ∷ []) in
        let one : IsWord word =
        All-get_or IsWord board (event.call.game - 1) 0 (let t = words.twelve in let r = p.0.1 in omega (arith, t, r)) words.each in
        let line = reply_answer options.format header.edition row event (length events) in
        by-reply (λ (reply : Result Accepted Refusal) (board : List ℕ). Tells options.screens At_now (Some (At board))
        (line reply board ++ screen_after options header row clubs reply board)) row events event legal p.0
        (λ good-now more.
        let number : game.number + 1 < 2 ^ 64 = let n = number_valid game (word_valid word one) in omega arith in
        let edition : header.edition < 2 ^ 64 = let few = good.edition in omega arith in
        let version : version_of now < 2 ^ 64 = let few = version-fits now good-now in omega arith in
        newer-told options header row clubs json fits good is now good-now At_now (line (answer game.number None) now) (rw json
        (accepted-line (Some (At now)) row event (game.number + 1) header.edition (version_of now) fits (numbers event p) number edition version))
        (record { same = (refl, refl); less = inr (refl, omega (arith, more)) }))
        (λ refusal some.
        let silent = refused-line (Some At_now) row event refusal game fits (numbers event p)
        (found-fits word event.call.expected event.call.kind refusal one some) (word_valid word one) in
        stays-told options.screens At_now (Some At_now) (line (Err refusal) board ++ [])
        (rw json (most-then (Some At_now) (json_line (refused_value row event refusal game)) [] silent (most-none (Some At_now)))) refl)

    left-few : (mend : Mend) → length (left_out_by events mend) < 2 ^ 64
    left-few (Without named) = let a = few-left named events in let b = few events legal in omega (arith, a, b.1)
    left-few _ = omega arith

    -- the answer to each mend tells the board state after it
    mend-tells : (mend : Mend) (reply : Result ℕ MendRefusal) → IsPossible (Mends mend) → edition_reply header.edition events mend ≡ reply
        → Tells options.screens At_now
        (board_state_at (mended_stage header clubs events mend reply).header (mended_stage header clubs events mend reply).phase)
        (mend_answer options header row clubs events mend reply)
    mend-tells mend (Err refusal) p reply =
        stays-told options.screens At_now (Some At_now) (mend_refused_answer options.format row refusal) (rw json (mend-refused-line (Some At_now) row refusal fits)) refl
    mend-tells mend (Ok edition) p reply =
        let later = later-edition header.edition events mend edition good.edition p reply in
        let new = record header { edition = edition } in
        let all = clubs_after clubs mend in
        let stand = events_after events mend in
        let m = board_state_with new all (board_in stand) in
        let kept = good-mend events mend legal in
        let most = few stand kept in
        let left = left_out_by events mend in
        let line = mended-line (Some m) (row_named mend) row (length left) edition (length stand) fits (without-fits mend p) (left-few mend)
        (omega (arith, later.1)) (omega (arith, most.1)) in
        newer-told options new row all json fits (record { letter = good.letter; edition = later.1 }) (good-clubs clubs mend p is) (board_in stand)
        (board_words (history_in stand) kept) At_now (mended_answer options.format row edition left (row_named mend) stand)
        (rw json (most-then (Some m) (left_out_lines left) _ (left-by-tells (Some m) events mend legal small) line))
        (record { same = (refl, refl); less = inl later.0 })

    -- the answer to a request tells the board state after it, or none
    request-tells : (q : Request) (shown : List ℕ) → IsPossible q → IsShown shown → Tells options.screens At_now
        (board_state_at (request_stage header row clubs events q).header (request_stage header row clubs events q).phase)
        (answer_of options header row clubs events q shown)
    request-tells (Event event) shown p short = event-tells event p
    request-tells (Mends mend) shown p short = mend-tells mend (edition_reply header.edition events mend) p refl
    request-tells (Bad field) shown p short =
        stays-told options.screens At_now (Some At_now) (bad_answer options.format row field shown) (rw json (bad-line (Some At_now) row field shown fits short)) refl
    request-tells Screen shown p short =
        stays-told options.screens At_now (Some At_now) (screen_answer options.format header row clubs (board_in events))
        (screen-tells options header row clubs json fits good is (board_in events) words) refl
    request-tells Words shown p short =
        stays-told options.screens At_now (Some At_now) (words_answer options.format row (board_in events))
        (rw json (words-line (Some At_now) row (board_in events) fits words)) refl
    request-tells Matches shown p short =
        stays-told options.screens At_now (Some At_now) (matches_answer options.format row clubs (board_in events))
        (rw json (matches-line (Some At_now) row (board_in events) clubs fits is words)) refl

-- a line of a session that is sound
module _ (e : Session) (r : Said) (shown : List ℕ) (json : e.options.format ≡ Json) (fits : e.row < 2 ^ 64) (g : IsSound e) (short : IsShown shown) where
  request-told : (clubs : List NamedClub) (events : List StandingEvent) → e.phase ≡ open_at clubs events → Tells e.options.screens (board_state_with e.header clubs (board_in events))
      (board_state_now (moved e (request_stage e.header e.row clubs events (request_of r)))) (answer_of e.options e.header e.row clubs events (request_of r) shown)
  request-told clubs events is =
      let sound : AreSound e.header (open_at clubs events) = subst (AreSound e.header) is g in
      request-tells e.options e.header e.row clubs json fits sound.header_is sound.phase.0 events sound.phase.1 sound.phase.2 (request_of r) shown (possible r) short

  -- a line carries nothing, or the board state after it
  pub line-tells : CarriesAtMost (board_state_now (next e r)) (answer_said e r shown)
  line-tells = by-line (λ after text. CarriesAtMost (board_state_now after) text) e r shown (λ after. most-none (board_state_now after)) (λ clubs events is. (request-told clubs events is).most)

-- on an open board the JSON answer to a line tells the board state after it: it is the one before, or a newer one that the answer carries
pub board-tells : (e : Session) (r : Said) (shown : List ℕ) → e.options.format ≡ Json → e.row < 2 ^ 64 → IsSound e → IsShown shown
    → (clubs : List NamedClub) (events : List StandingEvent) → e.phase ≡ open_at clubs events
    → Tells e.options.screens (board_state_with e.header clubs (board_in events)) (board_state_now (next e r)) (answer_said e r shown)
board-tells e Nothing shown json fits g short clubs events is =
    let after = board_state_now (next e Nothing) in
    stays-told e.options.screens (board_state_with e.header clubs (board_in events)) after [] (most-none after) (ap (board_state_at e.header) is)
board-tells e r shown json fits g short clubs events is =
    subst (λ (s : Reached). Tells e.options.screens (board_state_with e.header clubs (board_in events)) (board_state_at (next_at e s r).header (next_at e s r).phase) (answer_at e s r shown)) (sym is)
    (request-told e r shown json fits g short clubs events is)

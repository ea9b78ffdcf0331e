-- The values of screens: the board state that they carry, and that they are plain and short.
use Rattle.ucl_live_runs.proofs.Common.{All, All-head, All-tail, AreWords, AwayInTie, BoardState, IsBoardState, IsClub, IsGroup, IsRoster}
use Rattle.ucl_live_runs.proofs.Common.{List, NamedClub, Profile, Some, Uefa, [], and_parts, ap, arith, codes, eq-eqb, in_play, is_name}
use Rattle.ucl_live_runs.proofs.Common.{le-leb, length, letter_in, nat_le, profile_name, profile_named, read_again, read_words, refl, suc}
use Rattle.ucl_live_runs.proofs.Common.{version_of, ℕ, ◌<◌, ◌^◌, ◌∙◌, ◌∷◌, ◌≡◌, ◌≤◌}
use Rattle.std.specs.Prelude.{option_and_then}
use Rattle.serde_json.proofs.OnLiterals.{serde_json_on_literals}
use Rattle.serde_json.specs.Data.{member, no_members, number, object, string, unsigned}
use Rattle.ucl_json.proofs.AnswerSizes.{clubs-plain, digits-2, digits-20, digits-5, few-in-play, group-text, matches-plain, order-text}
use Rattle.ucl_json.proofs.AnswerSizes.{places-plain, version-fits, words-plain}
use Rattle.ucl_json.proofs.PlainValues.{IsShortPlain, parsed-line}
use Rattle.ucl_json.specs.BoardLines.{edition_in, if_read, just, listed, parse_club, parse_roster, parse_word}
unfoldable use Rattle.ucl_json.specs.BoardLines.{parse_board_state, parse_each}
use Rattle.ucl_json.specs.Values.{club_items, number_value, word_items}
unfoldable use Rattle.ucl_json.specs.Values.{edition_screen_value, screen_value}
use Rattle.ucl_live_runs.specs.Follow.{screen_of}
unfoldable use Rattle.ucl_live_runs.specs.Follow.{LinesTellTheirBoardState, ScreensTellTheirBoardState}
unfoldable use Rattle.ucl_order.specs.Roster.{bad_slot_from, is_club}
use Rattle.ucl_screen.proofs.HexDigits.{word-back}

-- words that were put into JSON are read back, and are as many
words-back : (words : List ℕ) → All (λ word. word < 2 ^ 64) words
    → (parse_each parse_word (listed (word_items words)) ≡ Some words) × (length (listed (word_items words)) ≡ length words)
unfolding parse_each
words-back [] h = (refl, refl)
words-back (word ∷ words) h =
    let more = words-back words (All-tail (λ w. w < 2 ^ 64) word words h) in
    (rw (word-back word (All-head (λ w. w < 2 ^ 64) word words h), more.0) refl, ap suc more.1)

-- a board, put into JSON, is read back as just that board
board-back : (board : List ℕ) → AreWords board → All (λ word. word < 2 ^ 64) board
    → option_and_then (λ words. if_read (read_words 1 words)) (just 12 parse_word (listed (word_items board))) ≡ Some board
board-back board w bits =
    let back = words-back board bits in
    rw (back.1, eq-eqb (length board) 12 w.twelve, back.0, read_again board w) refl

-- a club that a roster takes, put into JSON, is read back as just that club
club-back : (club : NamedClub) → IsClub club →
    parse_club (object (member (codes "club") (string club.name) (member (codes "coefficient") (number (unsigned club.coefficient)) no_members))) ≡ Some club
unfolding is_club serde_json_on_literals
club-back club h = let p = and_parts (is_name club.name) (nat_le club.coefficient 999999) h in rw p.1 refl

-- a roster, put into JSON, is read back as just that roster
clubs-back : (clubs : List NamedClub) → IsRoster clubs → parse_roster (listed (club_items clubs)) ≡ Some clubs
unfolding parse_each bad_slot_from
clubs-back (a ∷ b ∷ c ∷ d ∷ []) is =
    let p : IsClub a = is.each 0 a (omega arith) in
    let q : IsClub b = is.each 1 a (omega arith) in
    let r : IsClub c = is.each 2 a (omega arith) in
    let s : IsClub d = is.each 3 a (omega arith) in
    rw (club-back a p, club-back b q, club-back c r, club-back d s, p, q, r, s) refl
clubs-back _ is = absurd (let t = is.four in omega arith)

-- the letter of a group from A to H is read back as just that group
letter-back : (group : ℕ) → IsGroup group → letter_in (group ∷ []) ≡ Some group
letter-back group h = rw (le-leb 65 group h.0, le-leb group 72 h.1) refl

-- the name of a tie-break order is read back as just that order
order-back : (profile : Profile) → profile_named (profile_name profile) ≡ Some profile
order-back Uefa = refl
order-back AwayInTie = refl

-- an edition of 16 bits, put into JSON, is read back as just that edition
edition-back : (edition : ℕ) → edition ≤ 65535 → edition_in (Some (number_value edition)) ≡ Some edition
edition-back edition h = rw (le-leb edition 65535 h) refl

-- a screen tells the board state that it was written from
pub screen-back : (row : ℕ) (m : BoardState) → IsBoardState m → parse_board_state (screen_of row m) ≡ Some m
unfolding parse_board_state edition_screen_value screen_value serde_json_on_literals
screen-back row m is = rw (
  letter-back m.header.group is.letter,
  order-back m.header.profile,
  edition-back m.header.edition is.edition,
  clubs-back m.roster is.clubs,
  board-back m.board is.words is.bits,
) refl

pub answered : ScreensTellTheirBoardState
unfolding ScreensTellTheirBoardState
answered = screen-back

-- a screen in JSON is a plain value that fits a line
pub screen-plain : (row : ℕ) (m : BoardState) → IsBoardState m → row < 2 ^ 64 → IsShortPlain (screen_of row m)
unfolding edition_screen_value screen_value serde_json_on_literals
screen-plain row m is r =
    let words = words-plain m.board is.words in
    let clubs = clubs-plain m.roster is.clubs in
    let group = group-text m.header.group is.letter in
    let order = order-text m.header.profile in
    let version = version-fits m.board is.words in
    let edition = is.edition in
    let places = places-plain m.header.profile m.board m.roster is.clubs is.words in
    let games = matches-plain m.board is.words in
    let few = few-in-play m.board is.words in record {
      plain = (
        (refl, refl),
        (clubs.0, (omega arith, (group.0, (omega arith, (games.0, (order.0, (refl, (r, (places.0, (omega arith, (words.0, tt))))))))))),
      );
      size = omega (
        arith,
        digits-5 m.header.edition (omega arith),
        digits-2 (in_play m.board) (omega arith),
        digits-20 row r,
        digits-5 (version_of m.board) (omega arith),
        words.1,
        clubs.1,
        group.1,
        order.1,
        places.1,
        games.1,
      );
    }

-- the JSON line of a screen parses to just the board state that it was made from
pub told-lines : LinesTellTheirBoardState
unfolding LinesTellTheirBoardState
told-lines row m is r = parsed-line (screen_of row m) (screen-plain row m is r) ∙ screen-back row m is

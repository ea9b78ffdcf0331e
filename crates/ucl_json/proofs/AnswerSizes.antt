-- The values of answers are plain; and how long they are at most.
use Rattle.ucl_json.proofs.Common.{All, All-get_or, All-head, All-tail, AreWords, IsClub, IsGroup, IsRoster, IsSlot, IsWithinTable, List}
use Rattle.ucl_json.proofs.Common.{MatchRecord, NamedClub, Profile, Refusal, Row, [], and_from, and_parts, arith, club_in, club_items}
use Rattle.ucl_json.proofs.Common.{club_value, comma_if, decimal, digit_glyph, escape, escape_byte, escape_byte_plain, false, game_at}
use Rattle.ucl_json.proofs.Common.{hex_digits, in_play, is_name, is_printed, kind_name, le-leb, leb-true, length, length-append}
use Rattle.ucl_json.proofs.Common.{length-decimal-le, list_all, mark_name, match_items, match_numbers, match_value, named, nat_le, negsuc}
use Rattle.ucl_json.proofs.Common.{number_text, of_integer, place_items, place_value, pos, quoted, refl, refusal_code, refusal_name, row_of}
use Rattle.ucl_json.proofs.Common.{rows_of, rows_within, serde_json_on_literals, sides_value, slice_index_or, suc, true, version_of}
use Rattle.ucl_json.proofs.Common.{word_at, word_items, words_valid, zero, ℕ, ℤ, ◌%◌, ◌&&◌, ◌*◌, ◌+◌, ◌-ℤ◌, ◌-◌, ◌/◌, ◌<◌, ◌^◌, ◌∙◌, ◌∷◌}
use Rattle.ucl_json.proofs.Common.{◌≡◌, ◌≤◌}
use Rattle.std.proofs.lemmas.Int.{ints}
use Rattle.std.proofs.lemmas.List.Sums.{AllPass-from_list_all, count_by-le-length, sum_by-le}
use Rattle.std.specs.Prelude.{Bool}
use Rattle.ucl_board.specs.Fixtures.{Fixture, at, fixture_of, fixtures}
use Rattle.ucl_word.proofs.ChangedWords.{word_below}
use Rattle.ucl_word.proofs.ValidRecords.{away_expulsions_valid, away_goals_valid, away_yellows_valid, home_expulsions_valid}
use Rattle.ucl_word.proofs.ValidRecords.{home_goals_valid, home_yellows_valid, number_valid, reporter_valid}
use Rattle.ucl_word.proofs.Words.{word_valid}
use Rattle.ucl_word.specs.Layout.{IsWord, record_at}
use Rattle.ucl_word.specs.Record.{IsValid}
use Rattle.ucl_word.specs.Rules.{is_in_play}
use Rattle.ucl_word.specs.declared.event.Kind.{Kind}
use Rattle.ucl_word.specs.declared.event.Kind.TheVariants.{Disallow, Goal, Red, SecondYellow, Yellow}
use Rattle.ucl_word.specs.declared.event.Side.TheVariants.{Home}
use Rattle.ucl_word.specs.declared.record.State.{State}
use Rattle.ucl_word.specs.declared.record.State.TheVariants.{Scheduled}
use Rattle.ucl_word.specs.declared.refusal.Refusal.TheVariants.{Stale}
use Rattle.ucl_order.specs.Names.{profile_name}
unfoldable use Rattle.ucl_order.specs.Roster.{is_club}
use Rattle.ucl_order.specs.declared.mark.Mark.{Mark}
use Rattle.ucl_order.specs.declared.mark.Mark.TheVariants.{Plus}
use Rattle.ucl_order.specs.declared.profile.Profile.TheVariants.{AwayInTie, Uefa}
use Rattle.ucl_screen.proofs.HexDigits.{low, word-digits}
use Rattle.ucl_screen.specs.Matches.{state_name}
use Rattle.ucl_json.proofs.PlainValues.{ArePlain, IsPlain, IsPlainNumber, IsText, items_size, quoted-length, size}

-- a number below 10 has at most one decimal digit
pub digits-1 : (n : ℕ) → n < 10 → length (decimal n) ≤ 1
digits-1 n h = length-decimal-le 1 n (omega arith) h (omega arith)

-- a number below 100 has at most two decimal digits
pub digits-2 : (n : ℕ) → n < 100 → length (decimal n) ≤ 2
digits-2 n h = length-decimal-le 2 n (omega arith) h (omega arith)

-- a number below 1,000 has at most three decimal digits
pub digits-3 : (n : ℕ) → n < 1000 → length (decimal n) ≤ 3
digits-3 n h = length-decimal-le 3 n (omega arith) h (omega arith)

-- a number below 100,000 has at most five decimal digits
pub digits-5 : (n : ℕ) → n < 100000 → length (decimal n) ≤ 5
digits-5 n h = length-decimal-le 5 n (omega arith) h (omega arith)

-- a number below 1,000,000 has at most six decimal digits
pub digits-6 : (n : ℕ) → n < 1000000 → length (decimal n) ≤ 6
digits-6 n h = length-decimal-le 6 n (omega arith) h (omega arith)

-- a number below 2^64 has at most 20 decimal digits
pub digits-20 : (n : ℕ) → n < 2 ^ 64 → length (decimal n) ≤ 20
digits-20 n h = length-decimal-le 20 n (omega arith) (omega arith) h

-- each hexadecimal digit is a printable byte, which JSON writes as it is, without a backslash
glyph-plain : (d : ℕ) → d < 16 → (is_printed (digit_glyph false d) ≡ true) × (escape_byte (digit_glyph false d) ≡ digit_glyph false d ∷ [])
unfolding escape_byte
glyph-plain (suc (suc (suc (suc (suc (suc (suc (suc (suc (suc (suc (suc (suc (suc (suc (suc d)))))))))))))))) h = absurd (omega arith)
glyph-plain _ _ = (refl, refl)

-- the last k hexadecimal digits of a number, before other printable bytes, are printable, and JSON writes them as they are
low-plain : (k n : ℕ) (rest : List ℕ) → IsText rest → IsText (low k n rest) × (length (escape (low k n rest)) ≡ k + length (escape rest))
low-plain zero n rest h = (h, omega arith)
low-plain (suc k) n rest h =
    let glyph = glyph-plain (n % 16) (omega arith) in
    let more = low-plain k (n / 16) (digit_glyph false (n % 16) ∷ rest) (and_from (is_printed (digit_glyph false (n % 16))) (list_all is_printed rest) glyph.0 h) in
    (more.0, more.1 ∙ rw glyph.1 (omega arith))

-- the last k hexadecimal digits of a number are printable, and take k + 2 bytes in quotes
low-quoted : (k n : ℕ) → IsText (low k n []) × (length (quoted (low k n [])) ≡ k + 2)
low-quoted k n = let plain = low-plain k n [] refl in (plain.0, omega (arith, plain.1, length-append (escape (low k n [])) (34 ∷ [])))

-- the sixteen hexadecimal digits of a match word are printable, and take 18 bytes in quotes
word-text : (word : ℕ) → IsWord word → IsText (hex_digits word) × (length (quoted (hex_digits word)) ≡ 18)
word-text word is = let below = word_below word is in rw (word-digits word (omega arith)) (low-quoted 16 word)

-- match words that come later in an array are plain values, and take at most 19 bytes each, with quotes and comma, and one for the bracket
later-words : (words : List ℕ) → All IsWord words → ArePlain 125 (word_items words) × (items_size true (word_items words) ≤ 1 + 19 * length words)
later-words [] are = (tt, omega arith)
later-words (word ∷ words) are =
    let one = word-text word (All-head IsWord word words are) in
    let more = later-words words (All-tail IsWord word words are) in
    ((one.0, more.0), omega (arith, one.1, more.1))

-- the twelve words of a board are plain values, and take at most 228 bytes in an array
pub words-plain : (board : List ℕ) → AreWords board → ArePlain 125 (word_items board) × (items_size false (word_items board) ≤ 228)
words-plain [] are = absurd (let t = are.twelve in omega arith)
words-plain (word ∷ words) are =
    let one = word-text word (All-head IsWord word words are.each) in
    let more = later-words words (All-tail IsWord word words are.each) in
    ((one.0, more.0), (let t = are.twelve in omega (arith, one.1, more.1)))

-- no board has a version above 49,140, which is 4,095 for each match
pub version-fits : (board : List ℕ) → AreWords board → version_of board ≤ 49140
version-fits board w =
    let most : version_of board ≤ length board * 4095 =
    sum_by-le (λ word. (record_at word).number) 4095 board (λ k d less. number_valid (record_at (slice_index_or board k d)) (word_valid (slice_index_or board k d) (w.each k d less))) in
    let t = w.twelve in omega (arith, t, most)

-- no board has more than twelve matches in play
pub few-in-play : (board : List ℕ) → AreWords board → in_play board ≤ 12
few-in-play board w = let t = w.twelve in omega (arith, t, count_by-le-length (λ word. is_in_play (record_at word).state) board)

-- what is known of a club that a roster takes: its name is printed and takes at most 42 bytes in quotes
pub record IsPlainClub (club : NamedClub) : Type 0 where
  pub name : IsText club.name
  pub short : length club.name ≤ 20
  pub coefficient : club.coefficient ≤ 999999
  pub in_quotes : length (quoted club.name) ≤ 42

-- a club that a roster takes has a printed name, of at most 42 bytes in quotes, and a coefficient of at most 999,999
club-plain : (club : NamedClub) → IsClub club → IsPlainClub club
unfolding is_club
club-plain club h =
    let p = and_parts (is_name club.name) (nat_le club.coefficient 999999) h in
    let q = and_parts (nat_le 1 (length club.name) && nat_le (length club.name) 20) (list_all is_printed club.name) p.0 in
    let r = and_parts (nat_le 1 (length club.name)) (nat_le (length club.name) 20) q.0 in
    let few = leb-true (length club.name) 20 r.1 in
    record { name = q.1; short = few; coefficient = leb-true club.coefficient 999999 p.1; in_quotes = omega (arith, few, quoted-length club.name q.1) }

-- the club in a slot of a roster has a printable name, of at most 42 bytes in quotes, and a coefficient of at most 999,999
pub slot-plain : (clubs : List NamedClub) → IsRoster clubs → (slot : ℕ) → IsSlot slot → IsPlainClub (club_in clubs slot)
slot-plain clubs is slot h =
    let four = is.four in let low = h.0 in let high = h.1 in
    club-plain (club_in clubs slot) (is.each (slot - 1) (named [] 0) (omega arith))

-- the value of a club that a roster takes is plain, and has at most 72 bytes
club-size : (clubs : List NamedClub) (slot : ℕ) → IsPlainClub (club_in clubs slot) → IsPlain 125 (club_value clubs slot) × (size (club_value clubs slot) ≤ 72)
unfolding serde_json_on_literals
club-size clubs slot c =
    let few = c.coefficient in
    let long = c.in_quotes in
    (((refl, refl), (c.name, (omega arith, tt))), omega (arith, digits-6 (club_in clubs slot).coefficient (omega arith)))

-- the four clubs of a roster are plain values, and take at most 292 bytes in an array
pub clubs-plain : (clubs : List NamedClub) → IsRoster clubs → ArePlain 125 (club_items clubs) × (items_size false (club_items clubs) ≤ 292)
clubs-plain clubs is =
    let one = club-size clubs 1 (slot-plain clubs is 1 (omega arith, omega arith)) in
    let two = club-size clubs 2 (slot-plain clubs is 2 (omega arith, omega arith)) in
    let three = club-size clubs 3 (slot-plain clubs is 3 (omega arith, omega arith)) in
    let four = club-size clubs 4 (slot-plain clubs is 4 (omega arith, omega arith)) in
    ((one.0, (two.0, (three.0, (four.0, tt)))), omega (arith, one.1, two.1, three.1, four.1))

-- the letter of a group is a text, of 3 bytes in quotes
pub group-text : (group : ℕ) → IsGroup group → IsText (group ∷ []) × (length (quoted (group ∷ [])) ≡ 3)
group-text group h =
    let low = h.0 in let high = h.1 in
    (rw (le-leb 32 group (omega arith), le-leb group 126 (omega arith)) refl, rw (escape_byte_plain group (λ e. omega arith) (λ e. omega arith) (omega arith)) refl)

-- the name of a tie-break order is a text, of at most 13 bytes in quotes
pub order-text : (profile : Profile) → IsText (profile_name profile) × (length (quoted (profile_name profile)) ≤ 13)
unfolding escape_byte
order-text Uefa = (refl, omega arith)
order-text AwayInTie = (refl, omega arith)

-- the name of a kind of event is a text, of at most 20 bytes in quotes
pub kind-text : (kind : Kind) → IsText (kind_name kind) × (length (quoted (kind_name kind)) ≤ 20)
unfolding escape_byte
kind-text (Goal Home) = (refl, omega arith)
kind-text (Disallow Home) = (refl, omega arith)
kind-text (Yellow Home) = (refl, omega arith)
kind-text (SecondYellow Home) = (refl, omega arith)
kind-text (Red Home) = (refl, omega arith)
kind-text _ = (refl, omega arith)

-- the name of a refusal is a text, of at most 22 bytes in quotes, and its code fits 64 bits
pub refusal-text : (refusal : Refusal) → IsText (refusal_name refusal) × (length (quoted (refusal_name refusal)) ≤ 22) × (refusal_code refusal < 2 ^ 64)
unfolding escape_byte
refusal-text (Stale found) = (refl, omega arith, omega arith)
refusal-text _ = (refl, omega arith, omega arith)

-- the name of the state of a match is a text, of at most 11 bytes in quotes
state-text : (s : State) → IsText (state_name s) × (length (quoted (state_name s)) ≤ 11)
unfolding escape_byte
state-text Scheduled = (refl, omega arith)
state-text _ = (refl, omega arith)

-- the mark of a row of a table is a text, of at most 3 bytes in quotes
mark-text : (mark : Mark) → IsText (mark_name mark) × (length (quoted (mark_name mark)) ≤ 3)
unfolding escape_byte
mark-text Plus = (refl, omega arith)
mark-text _ = (refl, omega arith)

-- the limits of the numbers of a valid record
ruleset valid = (home_goals_valid, away_goals_valid, home_yellows_valid, away_yellows_valid, home_expulsions_valid, away_expulsions_valid, number_valid, reporter_valid)

-- two numbers of at most 63 are a plain value, of at most 7 bytes
sides-plain : (deep home away : ℕ) → home ≤ 63 → away ≤ 63 → IsPlain (suc deep) (sides_value home away) × (size (sides_value home away) ≤ 7)
sides-plain deep home away h k = ((omega arith, (omega arith, tt)), omega (arith, digits-2 home (omega arith), digits-2 away (omega arith)))

-- the clubs of each match have slots of one digit
slots-short : (game : ℕ) → game ≤ 12 → ((fixture_of game).home ≤ 4) × ((fixture_of game).away ≤ 4)
slots-short game few =
    let both = AllPass-from_list_all (λ (f : Fixture). nat_le f.home 4 && nat_le f.away 4) fixtures refl (game - 1) (at 0 0) (omega arith) in
    let p = and_parts (nat_le (fixture_of game).home 4) (nat_le (fixture_of game).away 4) both in
    (leb-true (fixture_of game).home 4 p.0, leb-true (fixture_of game).away 4 p.1)

-- a match as it stands is a plain value, of at most 150 bytes
pub match-plain : (deep game : ℕ) (m : MatchRecord) → game ≤ 12 → IsValid m → IsPlain (suc (suc deep)) (match_value game m) × (size (match_value game m) ≤ 150)
unfolding serde_json_on_literals
match-plain deep game m few v =
    let slots = slots-short game few in
    let home = slots.0 in let away = slots.1 in
    let state = state-text m.state in
    let expulsions = sides-plain deep m.home_expulsions m.away_expulsions (omega (arith, valid)) (omega (arith, valid)) in
    let score = sides-plain deep m.home_goals m.away_goals (omega (arith, valid)) (omega (arith, valid)) in
    let yellows = sides-plain deep m.home_yellows m.away_yellows (omega (arith, valid)) (omega (arith, valid)) in
    let number = digits-5 m.number (omega (arith, valid)) in
    let reporter = digits-3 m.reporter (omega (arith, valid)) in (
      ((refl, refl), (omega arith, (expulsions.0, (omega arith, (omega arith, (omega (arith, valid), (omega (arith, valid), (score.0, (state.0, (yellows.0, tt)))))))))),
      omega (
        arith,
        expulsions.1,
        score.1,
        yellows.1,
        state.1,
        digits-1 (fixture_of game).home (omega arith),
        digits-1 (fixture_of game).away (omega arith),
        digits-2 game (omega arith),
        number,
        reporter,
      ),
    )

-- the twelve matches of a board are plain values, and take at most 1,813 bytes in an array
pub matches-plain : (board : List ℕ) → AreWords board → ArePlain 125 (match_items board match_numbers) × (items_size false (match_items board match_numbers) ≤ 1813)
matches-plain board w = plain false match_numbers refl
  where
    comma : (later : Bool) → length (comma_if later) ≤ 1
    comma true = omega arith
    comma false = omega arith

    plain : (later : Bool) (games : List ℕ) → list_all (λ game. nat_le game 12) games ≡ true
        → ArePlain 125 (match_items board games) × (items_size later (match_items board games) ≤ 1 + 151 * length games)
    plain later [] h = (tt, omega arith)
    plain later (game ∷ games) h =
        let p = and_parts (nat_le game 12) (list_all (λ g. nat_le g 12) games) h in
        let few = leb-true game 12 p.0 in
        let valid = word_valid (word_at board game) (All-get_or IsWord board (game - 1) 0 (omega (arith, w.twelve, few)) w.each) in
        let one = match-plain 123 game (game_at board game) few valid in
        let more = plain true games p.1 in
        ((one.0, more.0), omega (arith, comma later, one.1, more.1))

-- the difference of two numbers of at most 378 is a plain number, of at most four bytes
difference-plain : (z : ℤ) (a b : ℕ) → z ≡ pos a -ℤ pos b → a ≤ 378 → b ≤ 378 → IsPlainNumber (of_integer z) × (length (number_text (of_integer z)) ≤ 4)
difference-plain (pos n) a b e h k = let few : n < 1000 = omega (arith, ints) in (omega arith, omega (arith, digits-3))
difference-plain (negsuc n) a b e h k = let few : suc n < 1000 = omega (arith, ints) in (omega arith, omega (arith, digits-3))

-- a row of a table is a plain value, of at most 190 bytes
place-plain : (roster : List NamedClub) (row : Row) → IsRoster roster → IsWithinTable row → row.place ≤ 4
    → IsPlain 125 (place_value roster row) × (size (place_value roster row) ≤ 190)
unfolding place_value serde_json_on_literals
place-plain roster row is w four =
    let club = slot-plain roster is row.slot w.slot in
    let mark = mark-text row.mark in
    let apart = difference-plain (pos row.goals_for -ℤ pos row.goals_against) row.goals_for row.goals_against refl w.goals_for w.goals_against in (
      ((refl, refl), (club.name, (omega arith, (apart.0, (omega arith, (omega arith, (omega arith, (mark.0, (omega arith, (omega arith, (omega arith, (omega arith, (omega arith, tt))))))))))))),
      omega (
        arith,
        club.in_quotes,
        mark.1,
        apart.1,
        digits-1 row.draws (omega arith),
        digits-3 row.goals_against (omega arith),
        digits-3 row.goals_for (omega arith),
        digits-1 row.losses (omega arith),
        digits-1 row.place (omega arith),
        digits-1 row.played (omega arith),
        digits-2 row.points (omega arith),
        digits-1 row.slot (omega arith),
        digits-1 row.wins (omega arith),
      ),
    )

-- the four rows of a table are plain values, and take at most 764 bytes in an array
pub places-plain : (profile : Profile) (board : List ℕ) (roster : List NamedClub) → IsRoster roster → AreWords board
    → ArePlain 125 (place_items roster (rows_of profile board roster)) × (items_size false (place_items roster (rows_of profile board roster)) ≤ 764)
unfolding row_of
places-plain profile board roster is words =
    let within = rows_within profile board roster (words_valid board words) in
    let row = row_of profile board roster in
    let a = place-plain roster (row 1) is (within 0 (row 1) (omega arith)) (omega arith) in
    let b = place-plain roster (row 2) is (within 1 (row 1) (omega arith)) (omega arith) in
    let c = place-plain roster (row 3) is (within 2 (row 1) (omega arith)) (omega arith) in
    let d = place-plain roster (row 4) is (within 3 (row 1) (omega arith)) (omega arith) in
    ((a.0, (b.0, (c.0, (d.0, tt)))), omega (arith, a.1, b.1, c.1, d.1))

-- How long a screen is at most.
use Rattle.ucl_json.proofs.Common.{AreWords, IsGroup, IsRoster, IsWithinTable, List, NamedClub, Profile, Row, [], arith, columns}
use Rattle.ucl_json.proofs.Common.{compact_text, decimal, escape_byte, in_play, json_line, length, length-append, length-decimal-le}
use Rattle.ucl_json.proofs.Common.{length-replicate, lines_wide, name_of, replicate, row_line, row_of, rows_within, screen_text}
use Rattle.ucl_json.proofs.Common.{screen_value, version_of, words_valid, ℕ, ◌-◌, ◌<◌, ◌^◌, ◌∷◌, ◌≡◌, ◌≤◌}
use Rattle.ucl_screen.specs.Lines.{header, zeros_before}
use Rattle.ucl_json.proofs.AnswerSizes.{clubs-plain, digits-2, digits-5, digits-20, few-in-play, group-text, order-text, places-plain}
use Rattle.ucl_json.proofs.AnswerSizes.{slot-plain, version-fits, words-plain}
use Rattle.ucl_json.proofs.PlainValues.{size, sized}

-- a number below 100,000 has five digits, with zeros before it
five_digits : (n : ℕ) → n < 100000 → length (zeros_before 5 n) ≡ 5
five_digits n low =
    let short = length-decimal-le 5 n (omega arith) (omega arith) (omega arith) in
    omega (arith, length-append (replicate (5 - length (decimal n)) 48) (decimal n), length-replicate {A = ℕ} (5 - length (decimal n)) 48)

-- the first line of a screen has at most 26 bytes
header_short : (group version playing : ℕ) → version ≤ 49140 → playing ≤ 12 → length (header group version playing) ≤ 26
unfolding header
header_short group version playing low few =
    let five = simp length-append at (five_digits version (omega arith)) in
    let two = length-decimal-le 2 playing (omega arith) (omega arith) (omega arith) in
    simp length-append (omega arith)

-- the line of a place has at most 54 bytes, its line feed among them
row_short : (roster : List NamedClub) (row : Row) → IsRoster roster → IsWithinTable row → row.place ≤ 4 → length (row_line roster row) ≤ 54
row_short roster row is within place =
    let wide = lines_wide.places row (name_of roster row.slot) within place (slot-plain roster is row.slot within.slot).short in
    omega arith

-- a screen has at most 296 bytes
pub screen_short : (profile : Profile) (board : List ℕ) (roster : List NamedClub) → AreWords board → IsRoster roster → (group : ℕ) → length (screen_text profile board roster group) ≤ 296
unfolding screen_text row_of
screen_short profile board roster words is group =
    let head = header_short group (version_of board) (in_play board) (version-fits board words) (few-in-play board words) in
    let names : length columns ≡ 54 = lines_wide.names in
    let row = row_of profile board roster in
    let within = rows_within profile board roster (words_valid board words) in
    let one = row_short roster (row 1) is (within 0 (row 1) (omega arith)) (omega arith) in
    let two = row_short roster (row 2) is (within 1 (row 1) (omega arith)) (omega arith) in
    let three = row_short roster (row 3) is (within 2 (row 1) (omega arith)) (omega arith) in
    let four = row_short roster (row 4) is (within 3 (row 1) (omega arith)) (omega arith) in
    simp length-append (omega arith)

-- the value of a screen has at most 1,422 bytes
screen_size : (row : ℕ) (profile : Profile) (board : List ℕ) (roster : List NamedClub) (group : ℕ) → row < 2 ^ 64 → AreWords board → IsRoster roster → IsGroup group
    → size (screen_value row profile board roster group) ≤ 1422
unfolding screen_value escape_byte
screen_size row profile board roster group fits words is letter =
    let low = version-fits board words in
    let few = few-in-play board words in
    omega (
      arith,
      (clubs-plain roster is).1,
      (group-text group letter).1,
      digits-2 (in_play board) (omega arith),
      (order-text profile).1,
      digits-20 row fits,
      (places-plain profile board roster is words).1,
      digits-5 (version_of board) (omega arith),
      (words-plain board words).1,
    )

-- the line of a screen in JSON has at most 1,423 bytes
pub line_short : (row : ℕ) (profile : Profile) (board : List ℕ) (roster : List NamedClub) (group : ℕ) → row < 2 ^ 64 → AreWords board → IsRoster roster → IsGroup group
    → length (json_line (screen_value row profile board roster group)) ≤ 1423
line_short row profile board roster group fits words is letter =
    let value = screen_value row profile board roster group in
    let most = screen_size row profile board roster group fits words is letter in
    omega (arith, sized value, length-append (compact_text value) (10 ∷ []))

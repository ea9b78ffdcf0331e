-- How wide the lines are.
use Rattle.ucl_screen.proofs.Common.{Bool, IsAscii, IsAscii-cons, IsAscii-nil, IsUtf8, IsUtf8-from_ascii, IsWithinTable, LinesHave53Columns}
use Rattle.ucl_screen.proofs.Common.{List, Mark, Row, [], and_parts, ap, append-nil, arith, codes, cond, decimal, difference_text, false}
use Rattle.ucl_screen.proofs.Common.{is_name, is_printed, left, length, length-append, length-decimal-le, length-replicate, list_all}
use Rattle.ucl_screen.proofs.Common.{mark_text, nat_le, nat_tests, number, place_line, refl, replicate, right, sym, true, ℕ, ◌++◌, ◌+◌, ◌-◌}
use Rattle.ucl_screen.proofs.Common.{◌<◌, ◌^◌, ◌∙◌, ◌∷◌, ◌≡◌, ◌≤◌}

-- a text padded to a width that it fits has that width
wide_left : (width : ℕ) (text : List ℕ) → length text ≤ width → length (left width text) ≡ width
wide_left width text fits = omega (arith, length-append text (replicate (width - length text) 32), length-replicate {A = ℕ} (width - length text) 32)

-- a text padded on the left to a width that it fits has that width
wide_right : (width : ℕ) (text : List ℕ) → length text ≤ width → length (right width text) ≡ width
wide_right width text fits = omega (arith, length-append (replicate (width - length text) 32) text, length-replicate {A = ℕ} (width - length text) 32)

-- a number below ten to the power of a width, and of 64 bits, padded to the width has that width
wide_number : (width n : ℕ) → 0 < width → n < 10 ^ width → n < 2 ^ 64 → length (right width (decimal n)) ≡ width
wide_number width n some fits word = wide_right width (decimal n) (length-decimal-le width n some fits word)

-- a signed number of at most 378 has at most five bytes, sign and all
signed : (b : Bool) (m n : ℕ) → m ≤ 378 → n ≤ 378 → length (cond b (codes "+" ++ decimal m) (codes "-" ++ decimal n)) ≤ 5
signed true m n hm hn = let l = length-decimal-le 4 m (omega arith) (omega arith) (omega arith) in omega arith
signed false m n hm hn = let l = length-decimal-le 4 n (omega arith) (omega arith) (omega arith) in omega arith

-- a goal difference of at most 378 goals on either side fills five columns
wide_difference : (scored conceded : ℕ) → scored ≤ 378 → conceded ≤ 378 → length (right 5 (difference_text scored conceded)) ≡ 5
wide_difference scored conceded s c = wide_right 5 (difference_text scored conceded) (signed (nat_le conceded scored) (scored - conceded) (conceded - scored) (omega arith) (omega arith))

-- a mark fills three columns
wide_mark : (mark : Mark) → length (mark_text mark) ≡ 3
wide_mark mark = search arith

-- the length of twelve texts, one after the other, is the sum of their lengths
added : (a b c d e f g h i j k l : List ℕ) → length (a ++ b ++ c ++ d ++ e ++ f ++ g ++ h ++ i ++ j ++ k ++ l)
    ≡ length a + length b + length c + length d + length e + length f + length g + length h + length i + length j + length k + length l
added a b c d e f g h i j k l = simp length-append

-- a line of the table has 53 columns, and its line feed
wide_line : (row : Row) (name : List ℕ) → IsWithinTable row → row.place ≤ 4 → length name ≤ 20 → length (place_line row name) ≡ 54
unfolding place_line
wide_line row name w place fits =
    let sum = added (right 1 (decimal row.place)) (mark_text row.mark) (left 20 name) (right 3 (decimal row.played)) (right 3 (decimal row.wins)) (right 3 (decimal row.draws))
    (right 3 (decimal row.losses)) (right 4 (decimal row.goals_for)) (right 4 (decimal row.goals_against)) (right 5 (difference_text row.goals_for row.goals_against))
    (right 4 (decimal row.points)) (codes "\n") in
    let a = wide_number 1 row.place (omega arith) (omega arith) (omega arith) in
    let b = wide_mark row.mark in
    let c = wide_left 20 name fits in
    let d = wide_number 3 row.played (omega arith) (omega arith) (omega arith) in
    let e = wide_number 3 row.wins (omega arith) (omega arith) (omega arith) in
    let f = wide_number 3 row.draws (omega arith) (omega arith) (omega arith) in
    let g = wide_number 3 row.losses (omega arith) (omega arith) (omega arith) in
    let h = wide_number 4 row.goals_for (omega arith) (omega arith) (omega arith) in
    let i = wide_number 4 row.goals_against (omega arith) (omega arith) (omega arith) in
    let j = wide_difference row.goals_for row.goals_against w.goals_for w.goals_against in
    let k = wide_number 4 row.points (omega arith) (omega arith) (omega arith) in
    omega arith

-- the line of column names and each line of the table have 53 columns and a line feed
pub lines_wide : LinesHave53Columns
lines_wide = record { names = refl; places = wide_line }

-- a printable ASCII byte is less than 128
below : (b : ℕ) → is_printed b ≡ true → b < 128
below b h = let e = (and_parts (nat_le 0x20 b) (nat_le b 0x7e) h).1 in grind (arith, nat_tests)

-- a text of printable bytes is ASCII
printed_ascii : (bs : List ℕ) → list_all is_printed bs ≡ true → IsAscii bs
printed_ascii [] h = IsAscii-nil
printed_ascii (b ∷ bs) h = let e = and_parts (is_printed b) (list_all is_printed bs) h in IsAscii-cons b bs (below b e.0) (printed_ascii bs e.1)

-- a text of printable ASCII bytes is UTF-8
pub printed_utf8 : (bs : List ℕ) → list_all is_printed bs ≡ true → IsUtf8 bs
printed_utf8 bs h = IsUtf8-from_ascii bs (printed_ascii bs h)

-- the name of a club is UTF-8
pub name_text : (name : List ℕ) → is_name name ≡ true → IsUtf8 name
name_text name h = printed_utf8 name (and_parts _ _ h).1

-- a line with nothing after its first text is this text
pub one_part : (before : List ℕ) → before ++ [] ++ [] ≡ before
one_part before = append-nil (before ++ []) ∙ append-nil before

-- a line with nothing after its number is the text before it and the number
pub two_parts : (before number : List ℕ) → before ++ number ++ [] ≡ before ++ number
two_parts before number = append-nil (before ++ number)

-- a line with no number is the text before and the text after, with nothing between them
pub no_number : (before after : List ℕ) → before ++ after ≡ before ++ [] ++ after
no_number before after = ap (λ bytes. bytes ++ after) (sym (append-nil before))

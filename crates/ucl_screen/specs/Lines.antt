-- Single lines of the screen, as lists of bytes. A column is one byte.
use Rattle.std.specs.Prelude.{ℕ, ◌-◌, ◌++◌, nat_le, if◌then◌else◌, List, [], ◌∷◌, length, replicate, codes, decimal}
use Rattle.ucl_order.specs.declared.mark.Mark.{Mark}
use Rattle.ucl_order.specs.declared.mark.Mark.TheVariants.{Plus, Minus, Blank}
use Rattle.ucl_order.specs.declared.table.Row.{Row}

-- a text at the left of so many columns, the others filled with spaces; a longer text stays whole
abbrev pub left : ℕ → List ℕ → List ℕ
left width text = text ++ replicate (width - length text) 32

-- a text at the right of so many columns, the others filled with spaces; a longer text stays whole
abbrev pub right : ℕ → List ℕ → List ℕ
right width text = replicate (width - length text) 32 ++ text

-- a number in so many digits, with leading zeros; a longer number stays whole
abbrev pub zeros_before : ℕ → ℕ → List ℕ
zeros_before width n = replicate (width - length (decimal n)) 48 ++ decimal n

-- a goal difference with its sign, which is a plus if the difference is 0
abbrev pub difference_text : ℕ → ℕ → List ℕ
difference_text goals_for goals_against =
    if nat_le goals_against goals_for then codes "+" ++ decimal (goals_for - goals_against) else codes "-" ++ decimal (goals_against - goals_for)

-- a mark as `+`, `-` or a space, between two spaces
abbrev pub mark_text : Mark → List ℕ
mark_text Plus = codes " + "
mark_text Minus = codes " - "
mark_text Blank = codes "   "

-- the first line of the screen: GROUP, its letter, the version (how many events were accepted) in five digits, and the matches in play
unfoldable pub header : ℕ → ℕ → ℕ → List ℕ
header group version in_play = codes "GROUP " ++ group ∷ [] ++ codes " v" ++ zeros_before 5 version ++ codes " IN PLAY " ++ decimal in_play ++ codes "\n"

-- the line of a row of the table: the place, the mark, the club's name, and its numbers
unfoldable pub place_line : Row → List ℕ → List ℕ
place_line row name =
    right 1 (decimal row.place) ++ mark_text row.mark ++ left 20 name
    ++ right 3 (decimal row.played) ++ right 3 (decimal row.wins) ++ right 3 (decimal row.draws) ++ right 3 (decimal row.losses)
    ++ right 4 (decimal row.goals_for) ++ right 4 (decimal row.goals_against) ++ right 5 (difference_text row.goals_for row.goals_against)
    ++ right 4 (decimal row.points) ++ codes "\n"

-- The screen of a board, a list of bytes.
use Rattle.std.specs.Prelude.{ℕ, ◌≤◌, ◌&&◌, ◌++◌, nat_le, if◌then◌else◌, List, [], ◌∷◌, Option, Some, None, codes, count_by, flat_map}
use Rattle.ucl_word.specs.Rules.{is_in_play}
use Rattle.ucl_word.specs.Layout.{record_at}
use Rattle.ucl_board.specs.Words.{version_of}
use Rattle.ucl_order.specs.declared.profile.Profile.{Profile}
use Rattle.ucl_order.specs.declared.table.Row.{Row}
use Rattle.ucl_order.specs.Roster.{NamedClub, name_of}
use Rattle.ucl_order.specs.Rows.{rows_of}
use Rattle.ucl_screen.specs.Lines.{header, left, place_line, right}

-- the byte is the letter of a group, A to H
abbrev pub IsGroup : ℕ → Type 0
IsGroup letter = (65 ≤ letter) × (letter ≤ 72)

-- the letter of a text that is one letter, A to H; None if the text is anything else
abbrev pub letter_in : List ℕ → Option ℕ
letter_in (letter ∷ []) = if nat_le 65 letter && nat_le letter 72 then Some letter else None
letter_in _ = None

-- how many matches of the board are in play
abbrev pub in_play : List ℕ → ℕ
in_play board = count_by (λ word. is_in_play (record_at word).state) board

-- the second line of the screen: the names of the columns, each at the side of what stands below it, and as wide
abbrev pub columns : List ℕ
columns =
    codes "    " ++ left 20 (codes "Club") ++ right 3 (codes "P") ++ right 3 (codes "W") ++ right 3 (codes "D") ++ right 3 (codes "L")
    ++ right 4 (codes "GF") ++ right 4 (codes "GA") ++ right 5 (codes "GD") ++ right 4 (codes "Pts") ++ codes "\n"

-- the line of a row of the table, with the name of the club in its slot
abbrev pub row_line : List NamedClub → Row → List ℕ
row_line roster row = place_line row (name_of roster row.slot)

-- the screen of a board and a group letter, six lines: letter, version and matches in play; the names of the columns; and a line for each
-- row of the table, with the clubs ordered under the profile
unfoldable pub screen_text : Profile → List ℕ → List NamedClub → ℕ → List ℕ
screen_text profile board roster group =
    header group (version_of board) (in_play board) ++ columns ++ flat_map (row_line roster) (rows_of profile board roster)

-- What a line says, as a row of its own: nothing, a row of four fields, or something else. It is read with its line feed, as `csv` reads,
-- so a quote that is not closed takes in the line feed, which stands in no field that is good.
use Rattle.std.specs.Prelude.{ℕ, ◌-◌, ◌==◌, nat_le, if◌then◌else◌, Bool, List, [], ◌∷◌, ◌++◌, length, get_or, Option, Some, None}
use Rattle.csv.specs.Reading.{default_config, records}
use Rattle.ucl_screen.specs.Rows.{Fields, FourFields, four_of, four_seen, rows_of}
use Rattle.ucl_screen.specs.declared.rows.RowFields.{RowFields}
use Rattle.ucl_screen.specs.declared.rows.RowFields.TheVariants as seen

-- whether a line, given with its line feed, has at most 256 bytes before its end, to which a carriage return before the feed belongs
abbrev pub fits : List ℕ → Bool
fits text = nat_le (length text) (if get_or text (length text - 2) 0 == 13 then 258 else 257)

-- what a line says: nothing; something else than four fields, or too long to be read; or a row of four fields
pub data Said : Type 0 where
  Nothing : Said
  Other : Said
  Row : (fields : FourFields) → Said

-- what a row says: `Row` with its four fields, or `Other` if it has not four
abbrev pub of_row : Option FourFields → Said
of_row None = Other
of_row (Some f) = Row f

-- what a row says, given as the borrowed fields that the code returns
abbrev pub fields_seen : RowFields → Said
fields_seen (seen.Four f) = Row (four_seen f)
fields_seen seen.Other = Other

-- what a line says, given as what the code returns: None if it has no row
abbrev pub line_seen : Option RowFields → Said
line_seen None = Nothing
line_seen (Some row) = fields_seen row

-- what a line says of which these are the rows: one of four fields, none, or something else
abbrev pub of_rows : List Fields → Said
of_rows [] = Nothing
of_rows (row ∷ []) = of_row (four_of row)
of_rows (row ∷ other ∷ rows) = Other

-- the rows of the line with this number: at the start of line 1 a byte order mark is ignored
abbrev pub rows_on : ℕ → List ℕ → List Fields
rows_on row text = if row == 1 then rows_of text else records default_config text

-- what the line with this number says, given with its line feed
unfoldable pub said_by_text : ℕ → List ℕ → Said
said_by_text row text = if fits text then of_rows (rows_on row text) else Other

-- what the line with this number says, given without its line feed
abbrev pub said_on : ℕ → List ℕ → Said
said_on row line = said_by_text row (line ++ 10 ∷ [])

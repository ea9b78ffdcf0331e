-- The rows of an input that are ahead, and what reading one of them does.
use Rattle.std.specs.Prelude.{◌≡◌, ⊤, List, [], ◌∷◌, Option, Some, None}
use Rattle.ucl_screen.specs.declared.rows.RowFields.{RowFields}
use Rattle.ucl_screen.specs.declared.rows.RowFields.TheVariants as row
use Rattle.ucl_screen.specs.declared.rows.Rows.{Rows}
use Rattle.ucl_screen.specs.declared.rows.Rows.TheVariants.{Plain, Csv}
use Rattle.ucl_screen.specs.PlainRows.{fields_of_four}
use Rattle.ucl_screen.specs.Rows.{Fields, IsReading, four_of, four_seen, rows_left, rows_of}

-- the rows that are ahead: those of a text, or those that `csv` has left to read
abbrev pub rows_ahead : Rows → List Fields
rows_ahead (Plain text) = rows_of text.now
rows_ahead (Csv reader) = rows_left reader

-- rows can be read on: of a plain text always, and by a reader of `csv` if it is between two rows and has not failed
abbrev pub IsOpen : Rows → Type 0
IsOpen (Plain text) = ⊤
IsOpen (Csv reader) = IsReading reader

-- a read of the next row found these fields, or None if there is no row; `old` and `new` are the rows ahead before and after
abbrev pub ReadsNext : Option RowFields → List Fields → List Fields → Type 0
ReadsNext None old new = old ≡ []
ReadsNext (Some (row.Four four)) old new = old ≡ fields_of_four (four_seen four) ∷ new
ReadsNext (Some row.Other) old new = (fields : Fields) × (old ≡ fields ∷ new) × (four_of fields ≡ None)

-- What holds of all screens.
use Rattle.std.specs.Prelude.{◌≡◌, ℕ, ◌≤◌, List, length}
use Rattle.ucl_order.specs.declared.table.Row.{Row}
use Rattle.ucl_order.specs.Rows.{IsWithinTable}
use Rattle.ucl_screen.specs.Lines.{place_line}
use Rattle.ucl_screen.specs.Screen.{columns}

-- the line of the names of the columns has 53 bytes and a line feed, and so has that of each place of the table, for a row within the
-- limits of a table and a name of at most 20 bytes
pub record LinesHave53Columns : Type 0 where
  pub names : length columns ≡ 54
  pub places : (row : Row) (name : List ℕ) → IsWithinTable row → row.place ≤ 4 → length name ≤ 20 → length (place_line row name) ≡ 54

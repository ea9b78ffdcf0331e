-- The rows of an input, and what a reader of them has left. A row is the list of its fields, and a field is a list of bytes.
-- `records` of `csv` are all rows that it reads of a text, and `default_config` is its default dialect.
use Rattle.std.specs.Prelude.{◌≡◌, ℕ, ◌+◌, Bool, true, false, List, [], ◌∷◌, length, Option, Some, None}
use Rattle.std.specs.Borrow.{Bor}
use Rattle.csv.specs.Machine.{ends_at_end}
use Rattle.csv.specs.Reading.{Ready, default_config, has_failed, records, records_from, source_of, strip_bom}
use Rattle.csv.specs.declared.parser.State.{State}
use Rattle.csv.specs.declared.reader.Reader.{Reader}
use Rattle.csv.specs.declared.reader.Trim.TheVariants as trim
use Rattle.ucl_screen.specs.declared.rows.Four.{Four}

-- a row: the list of its fields, each a list of bytes
abbrev pub Fields : Type 0
Fields = List (List ℕ)

-- the rows of a text: all records that the crate `csv` reads of it by its default rules, after a byte order mark if there is one
abbrev pub rows_of : List ℕ → List Fields
rows_of text = records default_config (strip_bom text)

-- the fields of a row that has just four
pub record FourFields : Type 0 where
  pub first : List ℕ
  pub second : List ℕ
  pub third : List ℕ
  pub fourth : List ℕ

-- the four fields of a row; None if it has more or fewer
abbrev pub four_of : Fields → Option FourFields
four_of (a ∷ b ∷ c ∷ d ∷ []) = Some (record { first = a; second = b; third = c; fourth = d })
four_of _ = None

-- the four fields of a row as the code borrows them
abbrev pub four_seen : Four → FourFields
four_seen f = record { first = f.first.now; second = f.second.now; third = f.third.now; fourth = f.fourth.now }

-- the rows that a parser in this state reads of the bytes that are left; none if the bytes are not known
unfoldable pub rows_from : State → Option (List ℕ) → List Fields
rows_from s None = []
rows_from s (Some bytes) = records_from default_config (length bytes + 1) s bytes

-- the bytes that a reader has left, if they are known
abbrev pub bytes_left : Reader (Bor (List ℕ)) → Option (List ℕ)
bytes_left reader = source_of (λ s. Some s.now) reader

-- the rows that a reader has left to read
abbrev pub rows_left : Reader (Bor (List ℕ)) → List Fields
rows_left reader = rows_from reader.state (bytes_left reader)

-- the reader is between two rows, has not failed, and reads each row as it is: by the default rules, with nothing trimmed
pub record IsReading (reader : Reader (Bor (List ℕ))) : Type 0 where
  pub config : reader.config ≡ default_config
  pub untrimmed : reader.trim ≡ trim.None
  pub ready : Ready reader
  pub sound : has_failed reader ≡ false
  pub between : ends_at_end reader.state ≡ false

-- a read found the next row, with these fields, or found that there is none; `old` and `new` are the rows left before and after
abbrev pub ReadsRow : Bool → List Fields → Fields → List Fields → Type 0
ReadsRow true old fields new = old ≡ fields ∷ new
ReadsRow false old fields new = old ≡ []

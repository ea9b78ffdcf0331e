-- Rows that are read where they lie, since each field is in its text as it is, and how the crate `csv` reads them (`next_record` there).
-- A field is in its text as it is if it begins with no quote, or if it is in quotes and has none within.
use Rattle.std.specs.List.{list_any}
use Rattle.std.specs.Prelude.{◌≡◌, ⊤, Bool, true, false, not, ◌==◌, ◌&&◌, ◌||◌, ℕ, ◌+◌, List, [], ◌∷◌, ◌++◌, get_or, Some, None, if◌then◌else◌}
use Rattle.csv.specs.Machine.{Read, ends_at_end, in_field, next_record, step}
use Rattle.csv.specs.Reading.{default_config, records}
use Rattle.csv.specs.declared.parser.State.{State}
use Rattle.csv.specs.declared.parser.State.TheVariants.{StartField, StartRecord}
use Rattle.ucl_screen.specs.Rows.{Fields, FourFields, four_of, four_seen, rows_from}
use Rattle.ucl_screen.specs.declared.plain.FirstRow.{FirstRow}
use Rattle.ucl_screen.specs.declared.plain.FirstRow.TheVariants as first

-- whether a byte ends a line: it is a carriage return or a line feed
abbrev pub is_line_end : ℕ → Bool
is_line_end b = (b == 13) || (b == 10)

-- whether a byte can belong to a field that began with no quote: it is no comma, carriage return or line feed
abbrev pub is_joining : ℕ → Bool
is_joining b = not (b == 44) && not (is_line_end b)

-- whether a byte can belong to the content of a field in quotes: it is no quote
abbrev pub is_quotable : ℕ → Bool
is_quotable b = not (b == 34)

-- whether a text has a quote
abbrev pub has_quote : List ℕ → Bool
has_quote text = list_any (λ b. b == 34) text

-- how many commas a text has before its first end of a line
unfoldable pub commas : List ℕ → ℕ
commas [] = 0
commas (b ∷ text) = if is_line_end b then 0 else (if b == 44 then 1 else 0) + commas text

-- `rest` follows the first field of a text, and begins with what ends the field: it has all the commas of the first line, and no quote
pub record FollowsField (text rest : List ℕ) : Type 0 where
  pub plain : has_quote rest ≡ false
  pub ends : is_joining (get_or rest 0 10) ≡ false
  pub all : commas rest ≡ commas text

-- a text is empty, or begins with an end of a line
abbrev pub AtLineEnd : List ℕ → Type 0
AtLineEnd text = is_line_end (get_or text 0 10) ≡ true

-- a text begins with this field of a row, and `rest` follows: `csv` has collected just the field there, a byte other than a quote acts
-- as within a field, and the end of the text ends the row
pub record BeginsWithField (text field rest : List ℕ) : Type 0 where
  pub state : State
  pub reads : (tail : List ℕ) (fields : Fields) → next_record default_config StartField fields [] (text ++ tail) ≡ next_record default_config state fields field (rest ++ tail)
  pub goes_on : (b : ℕ) → (b == 34) ≡ false → step default_config state b ≡ in_field default_config b
  pub may_end : ends_at_end state ≡ true

-- a text begins with this field and a comma, and `rest` follows
pub record IsFieldBefore (text field rest : List ℕ) : Type 0 where
  pub reads : (tail : List ℕ) (fields : Fields) → next_record default_config StartField fields [] (text ++ tail) ≡ next_record default_config StartField (fields ++ field ∷ []) [] (rest ++ tail)

-- a text begins with the last field of a row, and `rest` follows, which is empty or begins with the row's line end
pub record IsLastField (text field rest : List ℕ) : Type 0 where
  pub at_end : AtLineEnd rest
  pub reads : (tail : List ℕ) (fields : Fields) → AtLineEnd tail → (p : Read) × (next_record default_config StartField fields [] (text ++ tail) ≡ Some p)
      × (p.0 ≡ fields ++ field ∷ []) × (rows_from p.1 (Some p.2) ≡ records default_config (rest ++ tail))

-- a text begins with a row of which these are the first fields, and `rest` follows behind a comma
pub record BeginsRow (text : List ℕ) (fields : Fields) (rest : List ℕ) : Type 0 where
  pub reads : (tail : List ℕ) → next_record default_config StartRecord [] [] (text ++ tail) ≡ next_record default_config StartField fields [] (rest ++ tail)

-- a text begins with this row, and `rest` follows, which is empty or begins with a line end; the same holds if a tail of this kind, empty
-- or with a line end first, is appended to both
pub record BeginsWithRow (text : List ℕ) (row : Fields) (rest : List ℕ) : Type 0 where
  pub at_end : AtLineEnd rest
  pub rows : (tail : List ℕ) → AtLineEnd tail → records default_config (text ++ tail) ≡ row ∷ records default_config (rest ++ tail)

-- the fields of a row of four
abbrev pub fields_of_four : FourFields → Fields
fields_of_four f = f.first ∷ f.second ∷ f.third ∷ f.fourth ∷ []

-- what a text begins with: no row; a row of four fields, then `rest`; a row of more or fewer fields; `Unread`, left to `csv`, says nothing
abbrev pub IsFirstRow : FirstRow → List ℕ → Type 0
IsFirstRow first.None text = (tail : List ℕ) → records default_config (text ++ tail) ≡ records default_config tail
IsFirstRow (first.Four four rest) text = BeginsWithRow text (fields_of_four (four_seen four)) rest.now
IsFirstRow first.Other text = (row : Fields) × (rest : List ℕ) × BeginsWithRow text row rest × (four_of row ≡ None)
IsFirstRow first.Unread text = ⊤

-- the first row of a text that has no quote is not left to `csv`, and if it has four fields, the rest has no quote either
abbrev pub IsReadPlain : FirstRow → Type 0
IsReadPlain (first.Four four rest) = has_quote rest.now ≡ false
IsReadPlain first.Unread = ⊥
IsReadPlain row = ⊤

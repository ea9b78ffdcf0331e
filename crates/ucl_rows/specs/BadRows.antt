-- What an answer in JSON reports of a bad row: its first bad field, and the start of its text.
use Rattle.std.specs.Prelude.{ℕ, if◌then◌else◌, List, [], ◌∷◌, take, codes, is_some}
use Rattle.ucl_order.specs.Roster.{is_printed}
use Rattle.ucl_screen.specs.Events.{expected_in, match_in, reporter_in}
use Rattle.ucl_screen.specs.Rows.{FourFields}
use Rattle.ucl_rows.specs.declared.bad_row.BadField.{BadField}
use Rattle.ucl_rows.specs.declared.bad_row.BadField.TheVariants.{Count, Reporter, Match, Expected, Event}

-- the name that an answer in JSON has for the first bad field
abbrev pub field_name : BadField → List ℕ
field_name Count = codes "fields"
field_name Reporter = codes "reporter"
field_name Match = codes "match"
field_name Expected = codes "expected"
field_name Event = codes "event"

-- the first of the four fields of a bad row that does not parse as a field of an event; the event word, if the first three parse
abbrev pub bad_field : FourFields → BadField
bad_field row =
    if is_some (reporter_in row.first) then (
    if is_some (match_in row.second) then (if is_some (expected_in row.third) then Event else Expected) else Match) else Reporter

-- the bytes of a text before the first that is not printable ASCII
unfoldable pub printed : List ℕ → List ℕ
printed [] = []
printed (b ∷ bytes) = if is_printed b then b ∷ printed bytes else []

-- what an answer shows of the text of a bad row: the bytes before the first that is not printable ASCII, and at most 64
abbrev pub shown_text : List ℕ → List ℕ
shown_text text = printed (take 64 text)

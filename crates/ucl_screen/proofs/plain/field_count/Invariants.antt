use Rattle.ucl_screen.proofs.Common.{false, length, ◌+◌, ◌≡◌, ◌≤◌}
use Rattle.ucl_screen.specs.PlainRows.{BeginsRow, commas, has_quote}
use Rattle.ucl_screen.specs.Rows.{Fields}
use Rattle.ucl_screen.proofs.plain.field_count.Given as goal

abbrev pub invariant-fields : goal.invariant-fields
invariant-fields l = record {
  begins : (fields : Fields) × BeginsRow l.text fields l.rest × (length fields + 1 ≡ l.count);
  few : l.count + length l.rest ≤ length l.text + 1;
  plain : has_quote l.text ≡ false → (has_quote l.rest ≡ false) × (commas l.rest + l.count ≡ commas l.text + 1);
}

abbrev pub decreases-fields : goal.decreases-fields
decreases-fields l = length l.rest

-- The fields of a text that has no quote, counted by the commas of its first line.
use Rattle.ucl_screen.proofs.Common.{List, Option, Some, [], and_parts, arith, drop, false, get_or, inl, inr, length, list_all, nat_tests, refl, suc, take, true}
use Rattle.ucl_screen.proofs.Common.{zero, ℕ, ◌+◌, ◌<◌, ◌==◌, ◌∙◌, ◌∷◌, ◌≡◌, ◌≤◌}
use Rattle.std.proofs.Common.{◌≢◌}
use Rattle.std.proofs.lemmas.Bool.{cases_lt, eqb-true, or_parts}
use Rattle.std.proofs.lemmas.List.{drop_all, drop_more}
use Rattle.ucl_screen.specs.PlainRows.{FollowsField, has_quote, is_joining, is_line_end}
unfoldable use Rattle.ucl_screen.specs.PlainRows.{commas}
use Rattle.ucl_screen.proofs.PlainRows.{joining}

-- a text that has no quote does not begin with one
pub no_first_quote : (text : List ℕ) → has_quote text ≡ false → (get_or text 0 0 == 34) ≡ true → ⊥
no_first_quote [] plain is = cc is
no_first_quote (b ∷ text) plain is = let first = (or_parts (b == 34) (has_quote text) plain).0 in cc

-- a text that has no quote has none from a place on
pub no_later_quote : (text : List ℕ) (at : ℕ) → has_quote text ≡ false → has_quote (drop at text) ≡ false
no_later_quote (b ∷ text) (suc at) plain = no_later_quote text at (or_parts (b == 34) (has_quote text) plain).1
no_later_quote [] (suc at) plain = plain
no_later_quote text zero plain = plain

-- behind bytes of which none ends a field a text has as many commas as with them
behind-field : (text : List ℕ) (at : ℕ) → list_all is_joining (take at text) ≡ true → commas (drop at text) ≡ commas text
unfolding commas
behind-field (b ∷ text) (suc at) h =
    let p = and_parts (is_joining b) (list_all is_joining (take at text)) h in
    let j = joining b p.0 in
    let same = behind-field text at p.1 in
    rw (j.end, j.comma) (omega arith)
behind-field [] (suc at) h = refl
behind-field text zero h = refl

-- what is left of a text without a quote, from the first byte on that ends a field, follows the first field
pub follows_field : (text : List ℕ) (at : ℕ) → has_quote text ≡ false → at ≤ length text → list_all is_joining (take at text) ≡ true
    → (at < length text → is_joining (get_or text at 0) ≡ false) → FollowsField text (drop at text)
follows_field text at plain within bare stops = record {
  plain = no_later_quote text at plain;
  ends = elim (cases_lt at (length text)) [
    | inl inside ↦ rw (drop_more text at 0 inside) (stops inside)
    | inr past ↦ rw (drop_all at text past) refl
  ];
  all = behind-field text at bare;
}

-- a text that begins with a comma has one comma more than what is behind it
pub first_comma : (text : List ℕ) → (get_or text 0 0 == 44) ≡ true → commas (drop 1 text) + 1 ≡ commas text
unfolding commas
first_comma [] is = cc is
first_comma (b ∷ text) is = rw (eqb-true b 44 is) (omega arith)

-- a text that is empty or begins with an end of a line has no comma in its first line
pub no_comma : (text : List ℕ) → is_line_end (get_or text 0 10) ≡ true → commas text ≡ 0
unfolding commas
no_comma [] h = refl
no_comma (b ∷ text) h = rw h refl

-- what follows a field begins with a comma, or its line ends there
pub line_ends : (rest : List ℕ) → is_joining (get_or rest 0 10) ≡ false → (get_or rest 0 0 == 44) ≡ false → commas rest ≡ 0
line_ends [] h n = no_comma [] refl
line_ends (b ∷ rest) h n = no_comma (b ∷ rest) (grind (arith, nat_tests, h, n))

-- what follows a field and begins with no end of a line has a comma
pub has_comma : (rest : List ℕ) → is_joining (get_or rest 0 10) ≡ false → is_line_end (get_or rest 0 10) ≡ false → 0 < commas rest
has_comma [] h n = cc n
has_comma (b ∷ rest) h n =
    let comma : (b == 44) ≡ true = grind (arith, nat_tests, h, n) in let more = first_comma (b ∷ rest) comma in omega arith

-- a text of which four fields are not taken, since it has not three commas, has no four fields by the count of its commas either
pub no_four_counted : (text : List ℕ) (count : Option ℕ) → commas text ≢ 3 → count ≡ Some (commas text + 1) → count ≡ Some 4 → ⊥
no_four_counted text count other counted four = let same : commas text + 1 ≡ 4 = cc in other (omega arith)

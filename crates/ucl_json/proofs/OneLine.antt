-- The text of a value has no line feed, nor any other byte below the space.
use Rattle.ucl_json.proofs.Common.{All, All-cons, All-nil, AreLinesOfValues, Data, IsOneLine, Items, List, Members, Num, [], and_from}
use Rattle.ucl_json.proofs.Common.{and_parts, arith, array, boolean, cases_Bool, cases_eq, cases_lt, comma_if, compact_text, digit_glyph}
use Rattle.ucl_json.proofs.Common.{digits, digits_onto, escape, escape_byte, escape_byte_plain, false, float, inl, inr, item, items_text}
use Rattle.ucl_json.proofs.Common.{json_line, le-leb, leb-true, list_all, member, members_text, nat_le, nat_lt, negative, negsuc, no_items}
use Rattle.ucl_json.proofs.Common.{no_members, null, number, number_text, object, pos, quoted, refl, string, subst, suc, sym, true}
use Rattle.ucl_json.proofs.Common.{unsigned, zero, ℕ, ◌%◌, ◌&&◌, ◌++◌, ◌/◌, ◌<◌, ◌==◌, ◌∷◌, ◌≡◌, ◌≢◌, ◌≤◌}
use Rattle.std.proofs.Common.{Bool, append-nil}
use Rattle.std.proofs.lemmas.Grind.{flat_map-append}

-- each byte is the space or above it
abbrev ArePrinted : List ℕ → Type 0
ArePrinted bytes = list_all (nat_le 32) bytes ≡ true

-- if two lists have no byte below the space, neither have the two, one after the other
both : (a b : List ℕ) → ArePrinted a → ArePrinted b → ArePrinted (a ++ b)
both [] b h k = k
both (x ∷ a) b h k = let p = and_parts (nat_le 32 x) (list_all (nat_le 32) a) h in and_from (nat_le 32 x) (list_all (nat_le 32) (a ++ b)) p.0 (both a b p.1 k)

-- the decimal digits of a number, put before bytes that are the space or above it, are such bytes too
onto : (k n : ℕ) (rest : List ℕ) → ArePrinted rest → ArePrinted (digits_onto k 10 false n rest)
onto zero n rest h = h
onto (suc k) n rest h =
    let first : ArePrinted (digit_glyph false (n % 10) ∷ rest) = and_from (nat_le 32 (digit_glyph false (n % 10))) (list_all (nat_le 32) rest) (le-leb 32 (digit_glyph false (n % 10)) glyph) h in
    elim (cases_Bool (n / 10 == 0)) [ inl y ↦ rw y first | inr further ↦ rw further (onto k (n / 10) (digit_glyph false (n % 10) ∷ rest) first) ]
  where
    glyph : 32 ≤ digit_glyph false (n % 10)
    glyph = elim (cases_Bool (nat_lt (n % 10) 10)) [ inl y ↦ rw y (omega arith) | inr more ↦ rw more (omega arith) ]

-- with room for 64 digits the decimal digits of a number, put before no bytes, are the digits of the number
digits-at : (k n : ℕ) → k ≡ 64 → digits_onto k 10 false n [] ≡ digits 10 false n
unfolding digits
digits-at k n e = rw e refl

-- no byte of the decimal digits of a number is below the space
counted : (k n : ℕ) → k ≡ 64 → ArePrinted (digits 10 false n)
counted k n e = subst ArePrinted (digits-at k n e) (onto k n [] refl)

-- the text of a number has no byte below the space
numeral : (n : Num) → ArePrinted (number_text n)
numeral (unsigned n) = counted 64 n refl
numeral (negative (pos n)) = counted 64 n refl
numeral (negative (negsuc n)) = counted 64 (suc n) refl
numeral (float x) = refl

-- whether each byte below n is written in a JSON text as bytes that are the space or above it
abbrev are_printed_below : ℕ → Bool
are_printed_below zero = true
are_printed_below (suc n) = list_all (nat_le 32) (escape_byte n) && are_printed_below n

-- if the test for all bytes below n holds, each of them is written as bytes that are the space or above it
below : (n : ℕ) → are_printed_below n ≡ true → (x : ℕ) → x < n → ArePrinted (escape_byte x)
below zero e x h = absurd (omega arith)
below (suc n) e x h =
    let p = and_parts (list_all (nat_le 32) (escape_byte n)) (are_printed_below n) e in
    elim (cases_eq x n) [ inl same ↦ rw same p.0 | inr other ↦ below n p.1 x (omega arith) ]

-- each byte up to the backslash is written in a JSON text as bytes of which none is below the space
up-to-backslash : are_printed_below 93 ≡ true
unfolding escape_byte
up-to-backslash = refl

-- no byte of a text, as it is written in JSON, is below the space
escaped : (s : List ℕ) → ArePrinted (escape s)
escaped [] = refl
escaped (x ∷ s) = both (escape_byte x) (escape s) byte (escaped s)
  where
    byte : ArePrinted (escape_byte x)
    byte = elim (cases_lt x 93) [
      | inl low ↦ below 93 up-to-backslash x low
      | inr high ↦ rw (escape_byte_plain x (λ e. omega arith) (λ e. omega arith) (omega arith), le-leb 32 x (omega arith)) refl
    ]

-- no byte of a text in quotes is below the space
in-quotes : (s : List ℕ) → ArePrinted (quoted s)
in-quotes s = both (escape s) (34 ∷ []) (escaped s) refl

-- no byte is below the space in the comma before an element of JSON, which is there if the element comes later
comma : (later : Bool) → ArePrinted (comma_if later)
comma true = refl
comma false = refl

-- no byte of the text of a value is below the space, nor any of those of its items and members
mutual
  printed : (d : Data) → ArePrinted (compact_text d)
  printed null = refl
  printed (boolean true) = refl
  printed (boolean false) = refl
  printed (number n) = numeral n
  printed (string s) = in-quotes s
  printed (array ds) = printed-items false ds
  printed (object ms) = printed-members false ms

  printed-items : (later : Bool) (ds : Items) → ArePrinted (items_text later ds)
  printed-items later no_items = refl
  printed-items later (item d ds) =
      both (comma_if later) (compact_text d ++ items_text true ds) (comma later) (both (compact_text d) (items_text true ds) (printed d) (printed-items true ds))

  printed-members : (later : Bool) (ms : Members) → ArePrinted (members_text later ms)
  printed-members later no_members = refl
  printed-members later (member k d ms) =
      both (comma_if later) (quoted k ++ 58 ∷ (compact_text d ++ members_text true ms)) (comma later)
      (both (quoted k) (58 ∷ (compact_text d ++ members_text true ms)) (in-quotes k) (both (compact_text d) (members_text true ms) (printed d) (printed-members true ms)))

-- bytes that are the space or above it have no line feed
no-feed : (bytes : List ℕ) → ArePrinted bytes → All (λ b. b ≢ 10) bytes
no-feed [] h = All-nil (λ b. b ≢ 10)
no-feed (b ∷ bytes) h =
    let p = and_parts (nat_le 32 b) (list_all (nat_le 32) bytes) h in
    let high = leb-true 32 b p.0 in All-cons (λ x. x ≢ 10) b bytes (λ e. omega arith) (no-feed bytes p.1)

-- the text of a value, and a line feed behind it, are one line
pub one_line : (value : Data) → IsOneLine (json_line value)
one_line value = record {
  body = compact_text value;
  ends = refl;
  unbroken = no-feed (compact_text value) (printed value);
}

-- a text that is equal to the JSON line of a value is one line
pub line_is_one : (value : Data) (line : List ℕ) → line ≡ json_line value → IsOneLine line
line_is_one value line e = subst IsOneLine (sym e) (one_line value)

-- of each value the line is one line
each : (values : List Data) → All (λ value. IsOneLine (json_line value)) values
each [] = All-nil (λ value. IsOneLine (json_line value))
each (value ∷ values) = All-cons (λ v. IsOneLine (json_line v)) value values (one_line value) (each values)

-- no bytes are a text of lines of values, of which there are none
pub no_lines : AreLinesOfValues []
no_lines = record { values = []; whole = refl; each = each [] }

-- the JSON line of one value is a text of lines of values
pub line_of_value : (value : Data) → AreLinesOfValues (json_line value)
line_of_value value = record { values = value ∷ []; whole = sym (append-nil (json_line value)); each = each (value ∷ []) }

-- two texts of lines of values, one after the other, are a text of lines of values
pub lines_then : (a b : List ℕ) → AreLinesOfValues a → AreLinesOfValues b → AreLinesOfValues (a ++ b)
lines_then a b p q = record {
  values = p.values ++ q.values;
  whole = rw (flat_map-append json_line p.values q.values, p.whole, q.whole) refl;
  each = each (p.values ++ q.values);
}

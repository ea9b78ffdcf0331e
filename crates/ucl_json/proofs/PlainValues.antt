-- The text of a plain value: it is read back as that value, is UTF-8, and is as long as its parts.
use Rattle.ucl_json.proofs.Common.{Data, IsAscii-decimal, IsAscii-signed, IsUtf8-append, IsUtf8-from_ascii, IsUtf8-nil, Items, List}
use Rattle.ucl_json.proofs.Common.{Members, Num, [], and_parts, ap, arith, array, cases_eq, comma_if, compact_text, decimal, escape}
use Rattle.ucl_json.proofs.Common.{escape_byte, escape_byte_plain, false, inl, inr, is_printed, item, items_outline, items_text, leb-true}
use Rattle.ucl_json.proofs.Common.{length, length-append, list_all, member, members_outline, members_text, nat_le, negative, negsuc}
use Rattle.ucl_json.proofs.Common.{no_items, no_members, number, number_of, number_text, object, of_items, of_json, of_members, option_map}
use Rattle.ucl_json.proofs.Common.{outline, parse_board_line, parse_board_state, printed_utf8, put, quoted, read, refl, string, suc, sym}
use Rattle.ucl_json.proofs.Common.{true, unsigned, ℕ, ⊤, ◌&&◌, ◌*◌, ◌++◌, ◌+◌, ◌<◌, ◌^◌, ◌∙◌, ◌∷◌, ◌≡◌, ◌≤◌}
use Rattle.std.proofs.Common.{Bool, Some, append-nil}
use Rattle.std.specs.Str.{IsUtf8}
use Rattle.json.proofs.Printed.Decimals.{IsNumber-decimal, IsNumber-signed_decimal}
use Rattle.json.proofs.Printed.Tokens.{tokens-print}
use Rattle.json.proofs.Printed.Trees.{ArePrintable-json_tokens, value-json_tokens}
use Rattle.json.proofs.Printed.Utf8.{IsUtf8-are_ascii, IsUtf8-quoted}
use Rattle.json.specs.Json as json
use Rattle.json.specs.Lex.{tokens}
use Rattle.json.specs.Tree as tree
use Rattle.serde_json.proofs.Numbers.{number_of-decimal, number_of-negative}
use Rattle.serde_json.proofs.Texts.{print-outline}
use Rattle.ucl_json.proofs.Members.{was-read}

-- all bytes of a text are printable ASCII: JSON writes it as it is, but for quotes and backslashes
abbrev pub IsText : List ℕ → Type 0
IsText s = list_all is_printed s ≡ true

-- a number that fits in 64 bits, and is no float
abbrev pub IsPlainNumber : Num → Type 0
IsPlainNumber (unsigned n) = n < 2 ^ 64
IsPlainNumber (negative (negsuc n)) = suc n < 2 ^ 63
IsPlainNumber _ = ⊥

-- the members `found`, with those of the first list put to them one after the other
abbrev put_all : Members → Members → Members
put_all no_members found = found
put_all (member k d ms) found = put_all ms (put k d found)

-- whether the names of all members have only printable bytes
abbrev have_texts : Members → Bool
have_texts no_members = true
have_texts (member k d ms) = list_all is_printed k && have_texts ms

-- members are in order, each key once, and each key is a text
abbrev pub AreInOrder : Members → Type 0
AreInOrder ms = (put_all ms no_members ≡ ms) × (have_texts ms ≡ true)

-- a value is plain: its numbers fit 64 bits, its texts are printed, its objects have members in order, and it nests `deep` at most
abbrev mutual
  pub IsPlain : ℕ → Data → Type 0
  IsPlain deep (number n) = IsPlainNumber n
  IsPlain deep (string s) = IsText s
  IsPlain (suc deep) (array ds) = ArePlain deep ds
  IsPlain (suc deep) (object ms) = AreInOrder ms × HavePlain deep ms
  IsPlain _ _ = ⊥

  pub ArePlain : ℕ → Items → Type 0
  ArePlain deep no_items = ⊤
  ArePlain deep (item d ds) = IsPlain deep d × ArePlain deep ds

  pub HavePlain : ℕ → Members → Type 0
  HavePlain deep no_members = ⊤
  HavePlain deep (member k d ms) = IsPlain deep d × HavePlain deep ms

-- the text of a plain number is read back as it, and has the form that JSON asks for
numeral : (n : Num) → IsPlainNumber n → (number_of (number_text n) ≡ Some n) × tree.HasNumbers (json.number (number_text n))
numeral (unsigned n) h = (number_of-decimal n h, IsNumber-decimal n h)
numeral (negative (negsuc n)) h = (number_of-negative n (omega arith), IsNumber-signed_decimal (negsuc n) (omega arith))
numeral _ h = absurd h

-- a plain value is read back from its outline, whose numbers are numerals, and which nests no deeper
mutual
  value-back : (deep : ℕ) (d : Data) → IsPlain deep d
      → (of_json (outline d) ≡ Some d) × tree.HasNumbers (outline d) × (tree.depth (outline d) ≤ deep)
  value-back deep (number n) h = let p = numeral n h in (ap (option_map number) p.0, p.1, omega arith)
  value-back deep (string s) h = (refl, tt, omega arith)
  value-back (suc deep) (array ds) h = let p = items-back deep ds h in (ap (option_map array) p.0, p.1, (let n = p.2 in omega arith))
  value-back (suc deep) (object ms) h =
      let p = members-back deep ms no_members h.1 in
      (ap (option_map object) (p.0 ∙ ap Some h.0.0), p.1, (let n = p.2 in omega arith))
  value-back _ _ h = absurd h

  items-back : (deep : ℕ) (ds : Items) → ArePlain deep ds
      → (of_items (items_outline ds) ≡ Some ds) × tree.ItemsHaveNumbers (items_outline ds) × (tree.items_depth (items_outline ds) ≤ deep)
  items-back deep no_items h = (refl, tt, omega arith)
  items-back deep (item d ds) h =
      let p = value-back deep d h.0 in
      let q = items-back deep ds h.1 in
      (rw (p.0, q.0) refl, (p.1, q.1), (let m = p.2 in let n = q.2 in omega arith))

  members-back : (deep : ℕ) (ms found : Members) → HavePlain deep ms
      → (of_members (members_outline ms) found ≡ Some (put_all ms found)) × tree.MembersHaveNumbers (members_outline ms)
      × (tree.members_depth (members_outline ms) ≤ deep)
  members-back deep no_members found h = (refl, tt, omega arith)
  members-back deep (member k d ms) found h =
      let p = value-back deep d h.0 in
      let q = members-back deep ms (put k d found) h.1 in
      (rw p.0 q.0, (p.1, q.1), (let m = p.2 in let n = q.2 in omega arith))

-- the text of a plain value is read back as that value
reads : (d : Data) → IsPlain 127 d → read (compact_text d) ≡ Some d
reads d h =
    let back = value-back 127 d h in
    let same : tokens (compact_text d) ≡ tree.json_tokens (outline d) =
    ap tokens (sym (print-outline d)) ∙ tokens-print (tree.json_tokens (outline d)) (ArePrintable-json_tokens (outline d) back.1) in
    let whole : json.value 127 (tokens (compact_text d)) ≡ Some (outline d, []) =
    ap (json.value 127) (same ∙ sym (append-nil (tree.json_tokens (outline d)))) ∙ value-json_tokens (outline d) 127 [] back.2 in
    rw whole back.0

-- the comma before an element of JSON, which is there if the element comes later, is UTF-8
comma : (later : Bool) → IsUtf8 (comma_if later)
comma true = IsUtf8-are_ascii (44 ∷ []) refl
comma false = IsUtf8-nil

-- the text of a plain value is UTF-8, and so are those of its items and members
mutual
  value-utf8 : (deep : ℕ) (d : Data) → IsPlain deep d → IsUtf8 (compact_text d)
  value-utf8 deep (number (unsigned n)) h = IsUtf8-from_ascii (decimal n) (IsAscii-decimal n h)
  value-utf8 deep (number (negative (negsuc n))) h = IsUtf8-from_ascii (number_text (negative (negsuc n))) (IsAscii-signed (negsuc n) (omega arith))
  value-utf8 deep (string s) h = IsUtf8-quoted s (printed_utf8 s h)
  value-utf8 (suc deep) (array ds) h = IsUtf8-append (91 ∷ []) (items_text false ds) (IsUtf8-are_ascii (91 ∷ []) refl) (items-utf8 deep false ds h)
  value-utf8 (suc deep) (object ms) h = IsUtf8-append (123 ∷ []) (members_text false ms) (IsUtf8-are_ascii (123 ∷ []) refl) (members-utf8 deep false ms h.0.1 h.1)
  value-utf8 _ _ h = absurd h

  items-utf8 : (deep : ℕ) (later : Bool) (ds : Items) → ArePlain deep ds → IsUtf8 (items_text later ds)
  items-utf8 deep later no_items h = IsUtf8-are_ascii (93 ∷ []) refl
  items-utf8 deep later (item d ds) h = IsUtf8-append (comma_if later) (compact_text d ++ items_text true ds) (comma later)
      (IsUtf8-append (compact_text d) (items_text true ds) (value-utf8 deep d h.0) (items-utf8 deep true ds h.1))

  members-utf8 : (deep : ℕ) (later : Bool) (ms : Members) → have_texts ms ≡ true → HavePlain deep ms → IsUtf8 (members_text later ms)
  members-utf8 deep later no_members keys h = IsUtf8-are_ascii (125 ∷ []) refl
  members-utf8 deep later (member k d ms) keys h =
      let p = and_parts (list_all is_printed k) (have_texts ms) keys in
      let rest = compact_text d ++ members_text true ms in
      IsUtf8-append (comma_if later) (quoted k ++ 58 ∷ rest) (comma later) (IsUtf8-append (quoted k) (58 ∷ rest) (IsUtf8-quoted k (printed_utf8 k p.0))
      (IsUtf8-append (58 ∷ []) rest (IsUtf8-are_ascii (58 ∷ []) refl)
      (IsUtf8-append (compact_text d) (members_text true ms) (value-utf8 deep d h.0) (members-utf8 deep true ms p.1 h.1))))

-- JSON writes a byte that is the space or above it as at most two bytes, since a quote and a backslash get a backslash before them
one-byte : (x : ℕ) → 32 ≤ x → length (escape_byte x) ≤ 2
unfolding escape_byte
one-byte x h = elim (cases_eq x 34) [
  | inl q ↦ rw q (omega arith)
  | inr a ↦ elim (cases_eq x 92) [ inl b ↦ rw b (omega arith) | inr c ↦ rw (escape_byte_plain x a c h) (omega arith) ]
]

-- a text, escaped for JSON, has at most two bytes for each of its own
escaped : (s : List ℕ) → IsText s → length (escape s) ≤ 2 * length s
escaped [] h = omega arith
escaped (x ∷ s) h =
    let p = and_parts (is_printed x) (list_all is_printed s) h in
    let high = leb-true 32 x (and_parts (nat_le 32 x) (nat_le x 126) p.0).0 in
    omega (arith, length-append (escape_byte x) (escape s), one-byte x high, escaped s p.1)

-- a text in quotes has at most two bytes for each of its own, and two more
pub quoted-length : (s : List ℕ) → IsText s → length (quoted s) ≤ 2 + 2 * length s
quoted-length s h = omega (arith, escaped s h, length-append (escape s) (34 ∷ []))

-- how many bytes the text of a value has, by those of its parts
abbrev mutual
  pub size : Data → ℕ
  size (number n) = length (number_text n)
  size (string s) = length (quoted s)
  size (array ds) = 1 + items_size false ds
  size (object ms) = 1 + members_size false ms
  size value = length (compact_text value)

  -- with the closing bracket, and the comma before it if it comes later
  pub items_size : Bool → Items → ℕ
  items_size later no_items = 1
  items_size later (item d ds) = length (comma_if later) + (size d + items_size true ds)

  pub members_size : Bool → Members → ℕ
  members_size later no_members = 1
  members_size later (member k d ms) = length (comma_if later) + (length (quoted k) + (1 + (size d + members_size true ms)))

-- the text of a value has as many bytes as its size says, and so have those of its items and members
mutual
  pub sized : (d : Data) → length (compact_text d) ≡ size d
  sized (array ds) = let k = items-sized false ds in omega arith
  sized (object ms) = let k = members-sized false ms in omega arith
  sized _ = refl

  items-sized : (later : Bool) (ds : Items) → length (items_text later ds) ≡ items_size later ds
  items-sized later no_items = refl
  items-sized later (item d ds) =
      omega (arith, length-append (comma_if later) (compact_text d ++ items_text true ds), length-append (compact_text d) (items_text true ds), sized d, items-sized true ds)

  members-sized : (later : Bool) (ms : Members) → length (members_text later ms) ≡ members_size later ms
  members-sized later no_members = refl
  members-sized later (member k d ms) =
      let rest = compact_text d ++ members_text true ms in
      let whole = length-append (comma_if later) (quoted k ++ 58 ∷ rest) in
      omega (arith, whole, length-append (quoted k) (58 ∷ rest), length-append (compact_text d) (members_text true ms), sized d, members-sized true ms)

-- a plain value whose text has at most 4,096 bytes, as a line that is read may have
pub record IsShortPlain (d : Data) : Type 0 where
  pub plain : IsPlain 127 d
  pub size : size d ≤ 4096

-- the text of a short plain value has at most 4,096 bytes, so that it can be read as a line
pub line-short : (d : Data) → IsShortPlain d → length (compact_text d) ≤ 4096
line-short d h = rw (sized d) h.size

-- the board state that is read from the text of a short plain value, as a line, is the one that is read from the value itself
pub parsed-line : (d : Data) → IsShortPlain d → parse_board_line (compact_text d) ≡ parse_board_state d
parsed-line d h = sym (was-read (compact_text d) d (line-short d h) (value-utf8 127 d h.plain) (reads d h.plain))

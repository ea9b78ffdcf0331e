-- Rows that are read where they lie.
use Rattle.ucl_screen.proofs.Common.{append-nil, Bool, Fields, List, None, Option, Read, Some, State, [], and_parts, ap, append_assoc, arith, cases_Bool}
use Rattle.ucl_screen.proofs.Common.{default_config, drop, ends_at_end, false, four_of, get_or, inl, inr, is_bom, length, list_all, nat_tests}
use Rattle.ucl_screen.proofs.Common.{next_record, refl, rows_from, rows_of, step, strip_bom, suc, sym, take, true, zero, ℕ, ◌++◌, ◌+◌, ◌<◌}
use Rattle.ucl_screen.proofs.Common.{◌==◌, ◌∙◌, ◌∷◌, ◌≡◌, ◌≤◌}
use Rattle.std.proofs.Common.{take-append-drop, ◌≢◌}
use Rattle.std.proofs.lemmas.Bool.{eqb-true}
use Rattle.std.proofs.lemmas.List.{drop_more, take_all}
use Rattle.csv.specs.Machine.{Runs, after_end, in_field}
use Rattle.csv.specs.Reading.{records}
use Rattle.csv.proofs.ReadFacts.{run-copies}
use Rattle.ucl_screen.proofs.RowFacts.{rows-next, rows-none}
use Rattle.ucl_screen.specs.PlainRows.{AtLineEnd, BeginsRow, BeginsWithField, BeginsWithRow, IsFieldBefore, IsLastField, is_joining, is_line_end, is_quotable}
use Rattle.csv.specs.declared.parser.Terminator.TheVariants as term
use Rattle.csv.specs.declared.parser.State.TheVariants as st
use Rattle.csv.specs.declared.parser.Action.TheVariants as act

-- a text and what follows it are the text up to a place and then the rest with what follows
cut : (text tail : List ℕ) (at : ℕ) → text ++ tail ≡ take at text ++ (drop at text ++ tail)
cut text tail at = ap (λ (l : List ℕ). l ++ tail) (sym (take-append-drop at text)) ∙ append_assoc (take at text) (drop at text) tail

-- ---- a field

-- a byte that can belong to a field that began with no quote is no comma, and ends no line
pub record Joining (b : ℕ) : Type 0 where
  pub comma : (b == 44) ≡ false
  pub end : is_line_end b ≡ false

-- a byte that passes the test for a byte of a bare (unquoted) field is no comma, and ends no line
pub joining : (b : ℕ) → is_joining b ≡ true → Joining b
joining b h = record { comma = grind (arith, nat_tests, h); end = grind (arith, nat_tests, h) }

-- the parser of `csv`, within a bare (unquoted) field, copies the bytes of such a field and stays within it
bare-run : (xs : List ℕ) → list_all is_joining xs ≡ true → Runs default_config st.InField xs
unfolding Runs
bare-run [] h = tt
bare-run (b ∷ xs) h =
    let p = and_parts (is_joining b) (list_all is_joining xs) h in
    let j = joining b p.0 in
    (rw (j.comma, j.end) refl, bare-run xs p.1)

-- the parser of `csv`, within a field in quotes, copies bytes that are no quotes and stays within the field
quoted-run : (xs : List ℕ) → list_all is_quotable xs ≡ true → Runs default_config st.InQuoted xs
unfolding Runs
quoted-run [] h = tt
quoted-run (b ∷ xs) h =
    let p = and_parts (is_quotable b) (list_all is_quotable xs) h in
    let bare : (b == 34) ≡ false = grind (arith, nat_tests) in
    (rw bare refl, quoted-run xs p.1)

-- a text that begins with no quote begins with the field of its bytes up to a place, if none of them ends the field
pub bare_field : (text : List ℕ) (at : ℕ) → (get_or text 0 0 == 34) ≡ false → list_all is_joining (take at text) ≡ true → BeginsWithField text (take at text) (drop at text)
unfolding next_record
bare_field (b ∷ text) (suc at) bare h =
    let p = and_parts (is_joining b) (list_all is_joining (take at text)) h in
    let j = joining b p.0 in
    record {
      state = st.InField;
      reads = λ tail fields.
          rw (bare, j.comma, j.end, cut text tail at)
          (run-copies default_config st.InField fields (b ∷ []) (take at text) (drop at text ++ tail) (bare-run (take at text) p.1));
      goes_on = λ c e. refl;
      may_end = refl;
    }
bare_field [] (suc at) bare h = record { state = st.StartField; reads = λ tail fields. refl; goes_on = λ c e. rw e refl; may_end = refl }
bare_field text zero bare h = record { state = st.StartField; reads = λ tail fields. refl; goes_on = λ c e. rw e refl; may_end = refl }

-- a text that begins with a quote begins with the field of its bytes up to the next quote
pub quoted_field : (text : List ℕ) (at : ℕ) → (get_or text 0 0 == 34) ≡ true → list_all is_quotable (take at (drop 1 text)) ≡ true → at < length (drop 1 text) → get_or (drop 1 text) at 0 ≡ 34
    → BeginsWithField text (take at (drop 1 text)) (drop (at + 1) (drop 1 text))
unfolding next_record
quoted_field (b ∷ text) at is h inside closed = record {
  state = st.AfterQuote;
  reads = λ tail fields.
      rw (eqb-true b 34 is, cut text tail at, drop_more text at 0 inside, closed)
      (run-copies default_config st.InQuoted fields [] (take at text) (34 ∷ (drop (at + 1) text ++ tail)) (quoted-run (take at text) h));
  goes_on = λ c e. rw e refl;
  may_end = refl;
}
quoted_field [] at is h inside closed = absurd (omega arith)

-- if a comma follows the field that a text begins with, the comma ends the field, and what is behind the comma follows
pub comma_behind : (text field rest : List ℕ) → BeginsWithField text field rest → (get_or rest 0 0 == 44) ≡ true → IsFieldBefore text field (drop 1 rest)
unfolding next_record
comma_behind text field (b ∷ rest) f is = record { reads = λ tail fields. f.reads tail fields ∙ rw (eqb-true b 44 is, f.goes_on 44 refl) refl }
comma_behind text field [] f is = cc is

-- ---- ends of lines

-- within a field a byte that ends a line ends the record
line-end : (b : ℕ) → is_line_end b ≡ true → in_field default_config b ≡ (after_end term.CRLF b, act.EndRecord)
line-end b h = elim (cases_Bool (b == 44)) [ inl y ↦ absurd (grind (arith, nat_tests)) | inr n ↦ rw (n, h) refl ]

-- after an end of a line the parser is between two records
between : (b : ℕ) → ends_at_end (after_end term.CRLF b) ≡ false
between b = elim (cases_Bool (b == 13)) [ inl y ↦ rw y refl | inr n ↦ rw n refl ]

-- two states between records that read the same next record, each from its own text, read the same rows
same-rows : (s z : State) (xs ys : List ℕ) → ends_at_end s ≡ false → ends_at_end z ≡ false → next_record default_config s [] [] xs ≡ next_record default_config z [] [] ys
    → rows_from s (Some xs) ≡ rows_from z (Some ys)
same-rows s z xs ys j k h = by (next_record default_config z [] [] ys) refl where
  by : (o : Option Read) → next_record default_config z [] [] ys ≡ o → rows_from s (Some xs) ≡ rows_from z (Some ys)
  by None e = rows-none s xs (h ∙ e) ∙ sym (rows-none z ys e)
  by (Some p) e = rows-next s xs p j (h ∙ e) ∙ sym (rows-next z ys p k e)

-- the records of a text are the rows that a parser reads of it from the start of a record
records_are_rows : (text : List ℕ) → records default_config text ≡ rows_from st.StartRecord (Some text)
unfolding rows_from
records_are_rows text = refl

-- an end of a line at the start of a record is passed over
skips : (b : ℕ) (text : List ℕ) → is_line_end b ≡ true → next_record default_config st.StartRecord [] [] (b ∷ text) ≡ next_record default_config st.StartRecord [] [] text
unfolding next_record
skips b text h = rw h refl

-- behind a carriage return rows are read as behind a line feed
after-return : (text : List ℕ) → next_record default_config st.AfterCr [] [] text ≡ next_record default_config st.StartRecord [] [] text
unfolding next_record
after-return [] = refl
after-return (b ∷ text) = elim (cases_Bool (b == 10)) [ inl y ↦ rw (eqb-true b 10 y) refl | inr n ↦ rw n refl ]

-- an end of a line before a text changes none of its rows
skip-end : (b : ℕ) (text : List ℕ) → is_line_end b ≡ true → records default_config (b ∷ text) ≡ records default_config text
skip-end b text h = records_are_rows (b ∷ text) ∙ same-rows st.StartRecord st.StartRecord (b ∷ text) text refl refl (skips b text h) ∙ sym (records_are_rows text)

-- the rows that a parser reads behind a line end are the records of the text with the line end still in front
behind-end : (b : ℕ) (text : List ℕ) → is_line_end b ≡ true → rows_from (after_end term.CRLF b) (Some text) ≡ records default_config (b ∷ text)
behind-end b text h = same-rows (after_end term.CRLF b) st.StartRecord text (b ∷ text) (between b) refl (by ∙ sym (skips b text h)) ∙ sym (records_are_rows (b ∷ text)) where
  by : next_record default_config (after_end term.CRLF b) [] [] text ≡ next_record default_config st.StartRecord [] [] text
  by = elim (cases_Bool (b == 13)) [ inl y ↦ rw y (after-return text) | inr n ↦ rw n refl ]

-- ends of lines before a text change nothing in its records
skip-ends : (ends text : List ℕ) → list_all is_line_end ends ≡ true → records default_config (ends ++ text) ≡ records default_config text
skip-ends [] text h = refl
skip-ends (b ∷ ends) text h = let p = and_parts (is_line_end b) (list_all is_line_end ends) h in skip-end b (ends ++ text) p.0 ∙ skip-ends ends text p.1

-- a text that has only ends of lines up to a place has the records of its rest from there
without-ends : (text tail : List ℕ) (at : ℕ) → list_all is_line_end (take at text) ≡ true → records default_config (text ++ tail) ≡ records default_config (drop at text ++ tail)
without-ends text tail at h = ap (records default_config) (cut text tail at) ∙ skip-ends (take at text) (drop at text ++ tail) h

-- ---- the last field

-- if a line end, or the end of the text, follows a field, the parser reads the row of `fields` and this field, then the rows of the rest
row-ends : (s : State) (fields : Fields) (field rest : List ℕ) → ((b : ℕ) → (b == 34) ≡ false → step default_config s b ≡ in_field default_config b) → ends_at_end s ≡ true → AtLineEnd rest
    → (p : Read) × (next_record default_config s fields field rest ≡ Some p) × (p.0 ≡ fields ++ field ∷ []) × (rows_from p.1 (Some p.2) ≡ records default_config rest)
unfolding next_record
row-ends s fields field [] goes_on may_end h = ((fields ++ field ∷ [], st.StartRecord, []), rw may_end refl, refl, sym (records_are_rows []))
row-ends s fields field (b ∷ rest) goes_on may_end h =
    let bare : (b == 34) ≡ false = grind (arith, nat_tests, h) in
    ((fields ++ field ∷ [], after_end term.CRLF b, rest), rw (goes_on b bare, line-end b h) refl, refl, behind-end b rest h)

-- if two texts are each empty or begin with a line end, so does the one followed by the other: it is empty or begins with one
line-end-of : (rest tail : List ℕ) → AtLineEnd rest → AtLineEnd tail → AtLineEnd (rest ++ tail)
line-end-of [] tail h k = k
line-end-of (b ∷ rest) tail h k = h

-- where an end of a line, or of the text, follows a field with which a text begins, the field is the last of its row
pub row_end : {text field rest : List ℕ} → BeginsWithField text field rest → AtLineEnd rest → IsLastField text field rest
row_end {rest} f h = record {
  at_end = h;
  reads = λ tail fields k.
      let p = row-ends f.state fields _ (rest ++ tail) f.goes_on f.may_end (line-end-of rest tail h k) in
      (p.0, f.reads tail fields ∙ p.1, p.2, p.3);
}

-- ---- a row

-- a text that is not empty and begins with no line end begins a row, of which no field is read yet
pub no_field : (text : List ℕ) → is_line_end (get_or text 0 10) ≡ false → BeginsRow text [] text
unfolding next_record
no_field [] h = cc h
no_field (b ∷ text) h = record { reads = λ tail. rw h refl }

-- if a text begins a row with some fields, and a field and a comma follow, it begins a row with these fields and that field
pub one_more : {text rest field behind : List ℕ} {fields : Fields} → BeginsRow text fields rest → IsFieldBefore rest field behind → BeginsRow text (fields ++ field ∷ []) behind
one_more {fields} b f = record { reads = λ tail. b.reads tail ∙ f.reads tail fields }

-- if a text begins a row with some fields, and its last field follows, the text begins with the row of all these fields
pub with_last : {text rest field behind : List ℕ} {fields : Fields} → BeginsRow text fields rest → IsLastField rest field behind → BeginsWithRow text (fields ++ field ∷ []) behind
with_last {text} {fields} b f = record {
  at_end = f.at_end;
  rows = λ tail h.
      let p = f.reads tail fields h in
      records_are_rows (text ++ tail) ∙ rows-next st.StartRecord (text ++ tail) p.0 refl (b.reads tail ∙ p.1) ∙ rw (p.2, p.3) refl;
}

-- `four_of`, the four fields of a row, is None for a row that has not four fields
pub no_four : (row : Fields) → length row ≢ 4 → four_of row ≡ None
no_four (a ∷ b ∷ c ∷ d ∷ []) h = absurd (h refl)
no_four _ h = refl

-- ---- ends of lines before a row

-- a text of ends of lines alone changes nothing in the records of what follows it
pub all_ends : (text : List ℕ) (at : ℕ) → at ≡ length text → list_all is_line_end (take at text) ≡ true → (tail : List ℕ) → records default_config (text ++ tail) ≡ records default_config tail
all_ends text at is h tail = skip-ends text tail (rw (take_all at text (omega arith)) at h)

-- where the byte at a place of a text ends no line, the rest from there begins with no end of a line
pub starts_row : (text : List ℕ) (at : ℕ) → at < length text → is_line_end (get_or text at 0) ≡ false → is_line_end (get_or (drop at text) 0 10) ≡ false
starts_row text at inside h = rw (drop_more text at 0 inside) h

-- a text with ends of lines before a row begins with this row
pub behind_ends : {text rest : List ℕ} {row : Fields} (at : ℕ) → list_all is_line_end (take at text) ≡ true → BeginsWithRow (drop at text) row rest → BeginsWithRow text row rest
behind_ends {text} at h b = record { at_end = b.at_end; rows = λ tail k. without-ends text tail at h ∙ b.rows tail k }

-- ---- a byte order mark

-- a text that begins with a byte order mark is read without its first three bytes
pub marked : (text tail : List ℕ) → 3 ≤ length text → get_or text 0 0 ≡ 0xEF → get_or text 1 0 ≡ 0xBB → get_or text 2 0 ≡ 0xBF → strip_bom (text ++ tail) ≡ drop 3 text ++ tail
unfolding strip_bom
marked (a ∷ b ∷ c ∷ text) tail h p q r = rw (p, q, r) refl
marked text tail h p q r = absurd (omega arith)

-- a text that has no byte order mark has none either with a tail appended that is empty or begins with a line end
pub unmarked : (text tail : List ℕ) → AtLineEnd tail → (3 ≤ length text → get_or text 0 0 ≡ 0xEF → get_or text 1 0 ≡ 0xBB → get_or text 2 0 ≡ 0xBF → ⊥) → strip_bom (text ++ tail) ≡ text ++ tail
unfolding strip_bom
unmarked (a ∷ b ∷ c ∷ text) tail t h = elim (cases_Bool (is_bom a b c)) [
  | inl y ↦ absurd (h (omega arith) (grind (arith, nat_tests, y)) (grind (arith, nat_tests, y)) (grind (arith, nat_tests, y)))
  | inr n ↦ rw n refl
]
unmarked (a ∷ b ∷ []) (x ∷ tail) t h = elim (cases_Bool (is_bom a b x)) [ inl y ↦ absurd (grind (arith, nat_tests)) | inr n ↦ rw n refl ]
unmarked (a ∷ []) (x ∷ y ∷ tail) t h = elim (cases_Bool (is_bom a x y)) [ inl y ↦ absurd (grind (arith, nat_tests)) | inr n ↦ rw n refl ]
unmarked [] (x ∷ y ∷ z ∷ tail) t h = elim (cases_Bool (is_bom x y z)) [ inl y ↦ absurd (grind (arith, nat_tests)) | inr n ↦ rw n refl ]
unmarked _ _ t h = refl

-- ---- the rows of a text without its mark

-- an empty text has no records
no-rows : records default_config [] ≡ []
unfolding next_record
no-rows = records_are_rows [] ∙ rows-none st.StartRecord [] refl

-- a line feed alone is no row
pub no_rows_fed : records default_config (10 ∷ []) ≡ []
no_rows_fed = skip-end 10 [] refl ∙ no-rows

-- a line feed before a text leaves as its rows the records of the text
pub rows_after_feed : (text : List ℕ) → rows_of (10 ∷ text) ≡ records default_config text
rows_after_feed text = ap (records default_config) (unmarked [] (10 ∷ text) refl (λ few. absurd (omega arith))) ∙ skip-end 10 text refl

-- if a text is, but for its byte order mark, `bare`, and `bare` adds no row to any text that follows it, the text has no rows
pub none_ahead : (text bare : List ℕ) → ((tail : List ℕ) → AtLineEnd tail → strip_bom (text ++ tail) ≡ bare ++ tail)
    → ((tail : List ℕ) → records default_config (bare ++ tail) ≡ records default_config tail) → rows_of text ≡ []
none_ahead text bare mark none = ap (records default_config) (rw (append-nil text) at (mark [] refl)) ∙ none [] ∙ no-rows

-- if `bare`, which is a text without its byte order mark, begins with a row, the rows of the text are this row and the rows of the rest
pub row_ahead : (text bare rest : List ℕ) (row : Fields) → ((tail : List ℕ) → AtLineEnd tail → strip_bom (text ++ tail) ≡ bare ++ tail) → BeginsWithRow bare row rest
    → rows_of text ≡ row ∷ rows_of rest
row_ahead text bare rest row mark b =
    let keeps : strip_bom rest ≡ rest = unmarked [] rest b.at_end (λ few. absurd (omega arith)) in
    ap (records default_config) (rw (append-nil text) at (mark [] refl)) ∙ rw keeps (rw (append-nil rest) at (b.rows [] refl))

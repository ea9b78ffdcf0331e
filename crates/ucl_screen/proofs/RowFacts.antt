-- The records of a text, one after the other.
use Rattle.ucl_screen.proofs.Common.{Action, BadRow, Bool, Bor, Err, Fields, FourFields, InputFault, IsReading, List, NightEvent, None, Ok}
use Rattle.ucl_screen.proofs.Common.{Option, Reached, Read, ReadRecord, Reader, Result, Some, State, [], add-one, ap, append_assoc, arith}
use Rattle.ucl_screen.proofs.Common.{bytes_left, cases_Bool, default_config, ends_at_end, event_of, events_from, false, field_after}
use Rattle.ucl_screen.proofs.Common.{field_at, fields_after, four_of, has_failed, if◌then◌else◌, inl, inr, is_bom, is_end, length}
use Rattle.ucl_screen.proofs.Common.{next_record, records_from, refl, rows-end, rows-more, rows_from, rows_left, rows_of, said_by, step}
use Rattle.ucl_screen.proofs.Common.{strip_bom, suc, took_first, true, word_of_row, words_from, zero, ℕ, ◌++◌, ◌+◌, ◌-◌, ◌<◌, ◌>>=◌, ◌∙◌}
use Rattle.ucl_screen.proofs.Common.{◌∷◌, ◌≡◌, ◌≤◌, ◌⊎◌}
use Rattle.std.proofs.lemmas.List.{append-nil}
use Rattle.ucl_screen.specs.RowsAhead.{ReadsNext}
use Rattle.ucl_screen.specs.declared.rows.RowFields.{RowFields}
use Rattle.ucl_screen.specs.declared.rows.RowFields.TheVariants as row
use Rattle.csv.specs.declared.parser.State.TheVariants as st
use Rattle.csv.specs.declared.parser.Action.TheVariants as act

-- if a step of the parser of `csv` ends a record, the parser is between two records after it
abbrev Closes : State × Action → Type 0
Closes p = is_end p.1 ≡ true → ends_at_end p.0 ≡ false

-- whatever byte the parser of `csv` reads, if the byte ends a record, the parser is between two records after it
any-step : (s : State) (c : ℕ) → Closes (step default_config s c)
any-step s c h = search arith

-- what is behind a record that was read: the state is between two records, and the text is shorter, or was empty
pub record Behind (xs : List ℕ) (p : Read) : Type 0 where
  pub between : ends_at_end p.1 ≡ false
  pub shorter : length p.2 ≤ length xs - 1

-- where the text ends, a record that is read leaves an empty text and a state between two records
the-end : (b : Bool) (fields : List (List ℕ)) (p : Read) → ◌≡◌ {A = Option Read} (if b then Some (fields, st.StartRecord, []) else None) (Some p) → Behind [] p
the-end true fields p e =
    let q : ◌≡◌ {A = Read} (fields, st.StartRecord, []) p = cc in
    rw (← q) (record { between = refl; shorter = omega arith })
the-end false fields p e = cc e

-- where a byte ends a record, the text behind it is left, and the state is between two records
at-once : (s : State) (c : ℕ) (fields : List (List ℕ)) (xs : List ℕ) (p : Read) → is_end (step default_config s c).1 ≡ true
    → ◌≡◌ {A = Option Read} (Some (fields, (step default_config s c).0, xs)) (Some p) → Behind (c ∷ xs) p
at-once s c fields xs p h e =
    let q : ◌≡◌ {A = Read} (fields, (step default_config s c).0, xs) p = cc in
    rw (← q) (record { between = any-step s c h; shorter = omega arith })

-- a record that is read leaves a state between two records, and a shorter text or an empty one
pub behind : (s : State) (fields : List (List ℕ)) (field xs : List ℕ) (p : Read) → next_record default_config s fields field xs ≡ Some p → Behind xs p
unfolding next_record
behind s fields field [] p e = the-end (ends_at_end s) (fields ++ (field ∷ [])) p e
behind s fields field (c ∷ xs) p e = elim (cases_Bool (is_end (step default_config s c).1)) [
  | inl ends ↦ at-once s c (fields_after (step default_config s c).1 fields field) xs p ends (rw ends at e)
  | inr goes ↦
      let h = behind (step default_config s c).0 (fields_after (step default_config s c).1 fields field) (field_after (step default_config s c).1 c field) xs p (rw goes at e) in
      record { between = h.between; shorter = let k = h.shorter in omega arith }
]

-- where the text ends between two records, no record is read
nothing-left : (s : State) → ends_at_end s ≡ false → next_record default_config s [] [] [] ≡ None
unfolding next_record
nothing-left s h = rw h refl

-- a record is read or not
read-cases : (o : Option Read) → (o ≡ None) ⊎ ((p : Read) × (o ≡ Some p))
read-cases None = inl refl
read-cases (Some p) = inr (p, refl)

-- to read at most n records gives all that a text has if n is above its number of bytes: any two such bounds give the same records
pub enough : (n m : ℕ) (s : State) (xs : List ℕ) → ends_at_end s ≡ false → length xs < n → length xs < m
    → records_from default_config n s xs ≡ records_from default_config m s xs
unfolding records_from
enough zero m s xs b p q = absurd (omega arith)
enough (suc n) zero s xs b p q = absurd (omega arith)
enough (suc n) (suc m) s [] b p q = rw (nothing-left s b) refl
enough (suc n) (suc m) s (c ∷ xs) b p q = elim (read-cases (next_record default_config s [] [] (c ∷ xs))) [
  | inl none ↦ rw none refl
  | inr some ↦
      let h = behind s [] [] (c ∷ xs) some.0 some.1 in
      let k = h.shorter in
      let e : records_from default_config n some.0.1 some.0.2 ≡ records_from default_config m some.0.1 some.0.2 = enough n m some.0.1 some.0.2 h.between (omega arith) (omega arith) in
      rw some.1 (ap (λ (t : List Fields). some.0.0 ∷ t) e)
]

-- a text has no more records than bytes
pub few : (n : ℕ) (s : State) (xs : List ℕ) → ends_at_end s ≡ false → length (records_from default_config n s xs) ≤ length xs
unfolding records_from
few zero s xs b = omega arith
few (suc n) s [] b = rw (nothing-left s b) (omega arith)
few (suc n) s (c ∷ xs) b = elim (read-cases (next_record default_config s [] [] (c ∷ xs))) [
  | inl none ↦ rw none (omega arith)
  | inr some ↦
      let h = behind s [] [] (c ∷ xs) some.0 some.1 in
      let k = h.shorter in
      let rest = few n some.0.1 some.0.2 h.between in
      rw some.1 (omega arith)
]

-- where a record is read, the rows are this record and those of what is left
pub rows-next : (s : State) (xs : List ℕ) (p : Read) → ends_at_end s ≡ false → next_record default_config s [] [] xs ≡ Some p
    → rows_from s (Some xs) ≡ p.0 ∷ rows_from p.1 (Some p.2)
unfolding rows_from records_from
rows-next s [] p b e = let no = nothing-left s b in cc
rows-next s (c ∷ xs) p b e =
    let h = behind s [] [] (c ∷ xs) p e in
    let k = h.shorter in
    let same : records_from default_config (length (c ∷ xs)) p.1 p.2 ≡ records_from default_config (length p.2 + 1) p.1 p.2 =
    enough (length (c ∷ xs)) (length p.2 + 1) p.1 p.2 h.between (omega arith) (omega arith) in
    rw (add-one (length (c ∷ xs)), e) (ap (λ (t : List Fields). p.0 ∷ t) same)

-- where no record is read, there are no rows
pub rows-none : (s : State) (xs : List ℕ) → next_record default_config s [] [] xs ≡ None → rows_from s (Some xs) ≡ []
unfolding rows_from records_from
rows-none s xs e = rw (add-one (length xs), e) refl

-- a text without its byte order mark is not longer
short-strip : (xs : List ℕ) → length (strip_bom xs) ≤ length xs
unfolding strip_bom
short-strip (a ∷ b ∷ c ∷ rest) = elim (cases_Bool (is_bom a b c)) [ inl y ↦ rw y (omega arith) | inr n ↦ rw n (omega arith) ]
short-strip xs = omega arith

-- a text has at most as many rows as bytes
pub few_rows : (xs : List ℕ) → length (rows_of xs) ≤ length xs
few_rows xs = let a = few (length (strip_bom xs) + 1) st.StartRecord (strip_bom xs) refl in let b = short-strip xs in omega arith

-- a reader of `csv` on borrowed bytes
abbrev Source : Type 0
Source = Reader (Bor (List ℕ))

-- if a reader reaches the end of a record, its rows left are this record and those left after it, between two records
one-more : (a b : Source) (xs zs : List ℕ) (fields : Fields) → IsReading a → bytes_left a ≡ Some xs → bytes_left b ≡ Some zs
    → Reached default_config a.state xs (fields ∷ []) b.state zs → (rows_left a ≡ fields ∷ rows_left b) × (ends_at_end b.state ≡ false)
unfolding Reached
one-more a b xs zs fields h at-a at-b reached =
    let p = reached.0 in
    let h2 = behind a.state [] [] xs p reached.1 in
    let next = rows-next a.state xs p h.between reached.1 in
    let e : rows_left a ≡ p.0 ∷ rows_from p.1 (Some p.2) = rw at-a next in
    let same : rows_from p.1 (Some p.2) ≡ rows_left b = rw (reached.3.0, reached.3.1, at-b) refl in
    (e ∙ rw (← reached.2, same) refl, rw (← reached.3.0) h2.between)

-- a read that found a row leaves a reader that can read on, with the rows after this one
pub read-found : (a b : Source) (xs : List ℕ) (fields : Fields) → IsReading a → bytes_left a ≡ Some xs → ReadRecord (λ (s : Bor (List ℕ)). Some s.now) a b true fields
    → took_first b ≡ true → has_failed b ≡ has_failed a → IsReading b × (rows_left a ≡ fields ∷ rows_left b)
unfolding Reached
read-found a b xs fields h at-a r first failed =
    let more = rows-more (λ (s : Bor (List ℕ)). Some s.now) a b fields default_config a.state xs xs [] h.config at-a (refl, refl) r in
    let one = one-more a b xs more.0 fields h at-a more.1 more.2 in
    (record { config = r.2 ∙ h.config; untrimmed = r.3 ∙ h.untrimmed; ready = inl first; sound = failed ∙ h.sound; between = one.1 }, one.0)

-- if a read by a reader finds no row, the reader had no rows left
pub read-none : (a b : Source) (xs : List ℕ) (fields : Fields) → IsReading a → bytes_left a ≡ Some xs → ReadRecord (λ (s : Bor (List ℕ)). Some s.now) a b false fields
    → rows_left a ≡ []
read-none a b xs fields h at-a r =
    let none = rows-end (λ (s : Bor (List ℕ)). Some s.now) a b fields default_config xs h.config at-a r in
    rw at-a (rows-none a.state xs none)

-- whichever of two known lists of bytes a test picks, the bytes are known
either-known : (x : Bool) (xs ys : List ℕ) → (zs : List ℕ) × (◌≡◌ {A = Option (List ℕ)} (if x then Some xs else Some ys) (Some zs))
either-known true xs ys = (xs, refl)
either-known false xs ys = (ys, refl)

-- of a reader that has not failed, the bytes left are known
pub known-left : (a : Source) → has_failed a ≡ false → (xs : List ℕ) × (bytes_left a ≡ Some xs)
known-left a h = rw h (either-known _ _ _)

-- ---- the fields of a row, read one at a time

-- the fields of a row from its first four and a fifth: four fields, if the first four are there and the fifth is not
abbrev pub four_from : Option (List ℕ) → Option (List ℕ) → Option (List ℕ) → Option (List ℕ) → Option (List ℕ) → Option FourFields
four_from (Some a) (Some b) (Some c) (Some d) None = Some (record { first = a; second = b; third = c; fourth = d })
four_from a b c d e = None

-- the four fields of a row are worked out from the fields at its first five places
pub four_by : (fs : List (List ℕ)) → four_of fs ≡ four_from (field_at fs 0) (field_at fs 1) (field_at fs 2) (field_at fs 3) (field_at fs 4)
unfolding field_at
four_by [] = refl
four_by (a ∷ []) = refl
four_by (a ∷ b ∷ []) = refl
four_by (a ∷ b ∷ c ∷ []) = refl
four_by (a ∷ b ∷ c ∷ d ∷ []) = refl
four_by (a ∷ b ∷ c ∷ d ∷ e ∷ fs) = refl

-- ---- events and words read one row at a time

-- `front`, the values read so far, and then those of `read`, which are still to be read; or the fault of `read`
abbrev pub with_front : {A : Type 0} → List A → Result (List A) InputFault → Result (List A) InputFault
with_front front read = read >>= λ xs. Ok (front ++ xs)

-- a value counts alike as the last of those read so far and as the first of those still to be read
pub joins : {A : Type 0} (front : List A) (x : A) (read : Result (List A) InputFault)
    → with_front (front ++ (x ∷ [])) read ≡ with_front front (read >>= λ xs. Ok (x ∷ xs))
joins {A} front x (Ok xs) = ap (λ (t : List A). Ok t) (append_assoc front (x ∷ []) xs)
joins front x (Err fault) = refl

-- if a row gives an event, the events in all are the same whether it counts as read so far or as still to be read; so is their fault
pub goes-on : (front : List NightEvent) (row : ℕ) (fields : Fields) (rows : List Fields) (e : NightEvent) → said_by event_of fields ≡ Some e
    → with_front (front ++ (e ∷ [])) (events_from (row + 1) rows) ≡ with_front front (events_from row (fields ∷ rows))
unfolding events_from
goes-on front row fields rows e h = joins front e (events_from (row + 1) rows) ∙ rw h refl

-- if a row gives no event, the result is the fault BadRow with the number of the row, whatever was read before it
pub stops : (front : List NightEvent) (row : ℕ) (fields : Fields) (rows : List Fields) → said_by event_of fields ≡ None
    → with_front front (events_from row (fields ∷ rows)) ≡ Err (BadRow row)
unfolding events_from
stops front row fields rows h = rw h refl

-- if no rows are left, the events in all are those read so far
pub is-done : (front : List NightEvent) (row : ℕ) → with_front front (events_from row []) ≡ Ok front
unfolding events_from
is-done front row = ap (λ (t : List NightEvent). Ok t) (append-nil front)

-- if a row gives a word, the words in all are the same whether it counts as read so far or as still to be read; so is their fault
pub word-more : (front : List ℕ) (n more game : ℕ) (fields : Fields) (rows : List Fields) (w : ℕ) → n ≡ suc more → said_by (word_of_row game) fields ≡ Some w
    → with_front (front ++ (w ∷ [])) (words_from more (game + 1) rows) ≡ with_front front (words_from n game (fields ∷ rows))
unfolding words_from
word-more front n more game fields rows w e h = joins front w (words_from more (game + 1) rows) ∙ rw (e, h) refl

-- if the row of match `game` gives no word of this match, the result is the fault BadRow with the number of the row, `game` + 4
pub word-bad : (front : List ℕ) (n more game : ℕ) (fields : Fields) (rows : List Fields) → n ≡ suc more → said_by (word_of_row game) fields ≡ None
    → with_front front (words_from n game (fields ∷ rows)) ≡ Err (BadRow (game + 4))
unfolding words_from
word-bad front n more game fields rows e h = rw (e, h) refl

-- if the row of match `game` is missing, the result is the fault BadRow with the number of the row, `game` + 4
pub word-missing : (front : List ℕ) (n more game : ℕ) → n ≡ suc more → with_front front (words_from n game []) ≡ Err (BadRow (game + 4))
unfolding words_from
word-missing front n more game e = rw e refl

-- if a row follows the last word, the result is the fault BadRow with its number, `game` + 4, as if it were the row of match `game`
pub word-over : (front : List ℕ) (n game : ℕ) (fields : RowFields) (old new : List Fields) → n ≡ zero → ReadsNext (Some fields) old new
    → with_front front (words_from n game old) ≡ Err (BadRow (game + 4))
unfolding words_from
word-over front n game (row.Four four) old new e reads = rw (reads, e) refl
word-over front n game row.Other old new e reads = rw (reads.1, e) refl

-- if no word and no row are left to be read, the words in all are those read so far
pub words-done : (front : List ℕ) (n game : ℕ) → n ≡ zero → with_front front (words_from n game []) ≡ Ok front
unfolding words_from
words-done front n game e = rw e (ap (λ (t : List ℕ). Ok t) (append-nil front))

-- Words of the first layout: each is read back, no word is of both layouts, and what words are read as.
use Rattle.ucl_word.proofs.Common.{BadWord, Err, HasLayoutTag, IsValid, IsWord, MatchRecord, None, Ok, Result, Some, State, ap, arith, eq-eqb}
use Rattle.ucl_word.proofs.Common.{false, inl, inr, nat_le, record_at, refl, subst, sym, true, word_of, ℕ, ◌<◌, ◌==◌, ◌^◌, ◌∙◌, ◌≡◌, ◌≤◌}
use Rattle.std.proofs.Common.{eqb-true, true≢false, ◌&&◌}
use Rattle.std.proofs.lemmas.Bool.{and_parts, cases_Bool, false_from_ne_true, le-leb, leb-true}
use Rattle.ucl_word.specs.Layout.{first_layout}
use Rattle.std.specs.Prelude.{IfErr, IfOk, is_ok, ◌↔◌}
use Rattle.ucl_word.specs.Record.{is_valid}
use Rattle.ucl_word.specs.Migration.{moved_up, max_number_in_first_layout, first_word_of, IsFirstValid, IsFirstWord, is_word, is_first_word}
unfoldable use Rattle.ucl_word.specs.Migration.{first_record_at, read_word}
use Rattle.ucl_word.specs.Theorems.{LayoutsDiffer}
use Rattle.ucl_word.proofs.Words.{Tells, bounds, record_told, told_back, word_high, word_packed, word_valid}

-- an event number that the first layout has room for fits its field there
most_numbers : (s : State) (n : ℕ) → n ≤ max_number_in_first_layout s → n < 2 ^ first_layout.number.width
most_numbers s n h = search arith

-- what the word of a record in the first layout tells is this record
module _ (m : MatchRecord) (is : IsFirstValid m) where
  pub first_told : Tells first_layout.number.width 0 (first_word_of m) m
  unfolding first_word_of
  first_told = let n = most_numbers m.state m.number is.number in let b = bounds m is.valid in search arith

  pub first_back : record_told first_layout.number.width (first_word_of m) ≡ m
  first_back = told_back first_layout.number.width 0 (first_word_of m) m first_told

-- the word of a record in the first layout, with its fields moved to the present layout, is the word of the same record there
pub first_moves : (m : MatchRecord) → IsFirstValid m → moved_up (first_word_of m) ≡ word_of m
unfolding first_word_of word_of
first_moves m is = let below = most_numbers m.state m.number is.number in omega arith

-- let the first layout have room for the event number of a record; a word that is, with its fields moved from the first to the present
-- layout, the record's word there, is the record's word in the first layout
pub moved_from : (word : ℕ) (m : MatchRecord) → m.number ≤ max_number_in_first_layout m.state → word_of m ≡ moved_up word → first_word_of m ≡ word
unfolding first_word_of word_of
moved_from word m room is = let below = most_numbers m.state m.number room in omega arith

-- a word of the first layout, with its fields moved to the present one, is the word there of the record that it was packed from
pub word_moves : (word : ℕ) → (first : IsFirstWord word) → word_of first.of ≡ moved_up word
word_moves word first = sym (first_moves first.of first.valid) ∙ ap (λ (w : ℕ). moved_up w) first.packed

-- a word of the first layout, with its fields moved to the present one, is a word of a valid record there
pub moves_to_word : (word : ℕ) → IsFirstWord word → IsWord (moved_up word)
moves_to_word word first = record { of = first.of; valid = first.valid.valid; packed = word_moves word first }

-- above its fields a word of the first layout has its tag, which is 0
pub first_high : (word : ℕ) → IsFirstWord word → HasLayoutTag first_layout word
first_high word is = rw (← is.packed) (first_told is.of is.valid).high_is

-- two records that pack to the same word in the first layout are the same record
pub first_apart : (m n : MatchRecord) → IsFirstValid m → IsFirstValid n → first_word_of m ≡ first_word_of n → m ≡ n
first_apart m n v w e = sym (first_back m v) ∙ (ap (record_told first_layout.number.width) e ∙ first_back n w)

-- no word is that of a valid record in both layouts
pub layouts_apart : LayoutsDiffer
layouts_apart word is first = let a = word_high word is in let b = first_high word first in omega arith

-- let r be the result of unpacking a word: if it is Ok, the word is that of a valid record
pub word_unpacked : (r : Result MatchRecord BadWord) (word : ℕ) → IfOk r IsValid → IfOk r (λ m. word_of m ≡ word) → is_ok r ≡ true → IsWord word
word_unpacked (Ok m) word valid packed is = record { of = m; valid = valid; packed = packed }
word_unpacked (Err bad) word valid packed is = absurd (true≢false (sym is))

-- let r be the result of unpacking a word, whose error means that the word is of no valid record: if it is not Ok, the word is of none
pub word_refused : (r : Result MatchRecord BadWord) (word : ℕ) → IfErr r (λ _. IsWord word → ⊥) → is_ok r ≡ false → IsWord word → ⊥
word_refused (Ok m) word refused is = absurd (true≢false is)
word_refused (Err bad) word refused is = refused

-- the test of the present layout is true of exactly the words of valid records in it
pub word_tested : (word : ℕ) → (is_word word ≡ true) ↔ IsWord word
word_tested word = (
  λ h. let p = and_parts (is_valid (record_at word)) (word_of (record_at word) == word) h in
      record { of = record_at word; valid = p.0; packed = eqb-true (word_of (record_at word)) word p.1 },
  λ is. rw (word_valid word is, eq-eqb (word_of (record_at word)) word (word_packed word is)) refl,
)

-- a word of the first layout is unpacked to the record that it was packed from
pub record_of_first : (word : ℕ) (is : IsFirstWord word) → first_record_at word ≡ is.of
unfolding first_record_at
record_of_first word is = ap (record_told first_layout.number.width) (sym is.packed) ∙ first_back is.of is.valid

-- the test of the first layout holds of just the words of the first layout
pub first_tested : (word : ℕ) → (is_first_word word ≡ true) ↔ IsFirstWord word
first_tested word = (
  λ h. let m = first_record_at word in
      let most = max_number_in_first_layout m.state in
      let p = and_parts (is_valid m && nat_le m.number most) (first_word_of m == word) h in
      let q = and_parts (is_valid m) (nat_le m.number most) p.0 in
      record { of = m; valid = record { valid = q.0; number = leb-true m.number most q.1 }; packed = eqb-true (first_word_of m) word p.1 },
  λ is. let m = is.of in
      let room = le-leb m.number (max_number_in_first_layout m.state) is.valid.number in
      rw (record_of_first word is, is.valid.valid, room, eq-eqb (first_word_of m) word is.packed) refl,
)

-- a word of the present layout is read as itself
pub reads_word : (word : ℕ) → IsWord word → read_word word ≡ Some word
unfolding read_word
reads_word word is = rw ((word_tested word).1 is) refl

-- a word of the first layout is read as the word, in the present layout, of the same record
pub reads_first : (word : ℕ) (is : IsFirstWord word) → read_word word ≡ Some (word_of is.of)
unfolding read_word
reads_first word is =
    let none = false_from_ne_true (is_word word) (λ h. layouts_apart word ((word_tested word).0 h) is) in
    rw (none, (first_tested word).1 is, record_of_first word is) refl

-- a word of neither layout is not read
pub reads_none : (word : ℕ) → (IsWord word → ⊥) × (IsFirstWord word → ⊥) → read_word word ≡ None
unfolding read_word
reads_none word not = rw (
  false_from_ne_true (is_word word) (λ h. not.0 ((word_tested word).0 h)),
  false_from_ne_true (is_first_word word) (λ h. not.1 ((first_tested word).0 h)),
) refl

-- what a word is read as is a word of a valid record in the present layout
pub read_valid : (word new : ℕ) → read_word word ≡ Some new → IsWord new
unfolding read_word
read_valid word new read = elim (cases_Bool (is_word word)) [
  | inl here ↦ let told = rw here at read in let same : word ≡ new = cc in subst IsWord same ((word_tested word).0 here)
  | inr not ↦ elim (cases_Bool (is_first_word word)) [
    | inl first ↦
        let is = (first_tested word).0 first in
        let told = rw (not, first) at read in
        let same : word_of (first_record_at word) ≡ new = cc in
        record { of = is.of; valid = is.valid.valid; packed = ap word_of (sym (record_of_first word is)) ∙ same }
    | inr other ↦ absurd (let told = rw (not, other) at read in cc)
  ]
]

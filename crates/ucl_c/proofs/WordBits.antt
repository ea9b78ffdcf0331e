-- Which words are those of valid records, by what they hold.
use Rattle.std.proofs.Common.{◌≡◌, ℕ, zero, suc, ◌<◌, ◌≤◌, ◌==◌, ◌||◌, ◌⊎◌, Bool, true, false, refl, sym, ap, ◌∙◌, inl, inr, arith, eq-eqb, eqb-true}
use Rattle.std.proofs.lemmas.Bool.{cases_Bool}
use Rattle.std.proofs.lemmas.Bool.Decides.{nat_tests}
use Rattle.ucl_word.specs.Record.{is_within_limits, scheduled, suits_state, IsValid}
use Rattle.ucl_word.specs.Layout.{IsWord, layout, held_at, record_at, state_at, word_of, HoldsRecord}
use Rattle.ucl_word.proofs.ValidRecords.{parts, scheduled_valid, untouched as untouched_is, valid_by_parts}
use Rattle.ucl_word.proofs.Words.{held_word, word_holds}
use Rattle.ucl_word.specs.Migration.{is_word}
use Rattle.ucl_word.proofs.FirstWords.{word_tested}
use Rattle.ucl_c.specs.Inputs.{IsOfBegunMatch}

-- the word of a match before its kick-off
abbrev pub untouched : ℕ
untouched = 2305843009213693952

-- no field of a word is wide enough for a number beyond the limits of a record
fields_within : (word : ℕ) → is_within_limits (record_at word) ≡ true
unfolding record_at
fields_within word = grind (arith, nat_tests)

-- the reporter in any word is at most 255
byte_low : (word : ℕ) → (record_at word).reporter ≤ 255
unfolding record_at
byte_low word = grind arith

-- if a word has the fields of a begun match, in play or finished, the record that it holds suits the state that it holds
suited : (word code : ℕ) → held_at word layout.state ≡ code → IsOfBegunMatch word → suits_state (state_at code) (record_at word) ≡ true
unfolding record_at
suited word zero is h = absurd (let c = h.not_scheduled in omega arith)
suited word (suc zero) is h = let l = h.low in let u = h.high in let r = h.reporter in let b = byte_low word in grind (arith, nat_tests)
suited word (suc (suc zero)) is h = let l = h.low in let u = h.high in let r = h.reporter in let b = byte_low word in grind (arith, nat_tests)
suited word (suc (suc (suc n))) is h = absurd (let k = h.known in omega arith)

-- a word with the fields of a begun match, in play or finished, holds a valid record
begun_valid : (word : ℕ) → IsOfBegunMatch word → IsValid (record_at word)
unfolding record_at
begun_valid word h = valid_by_parts (record_at word) (fields_within word) (suited word (held_at word layout.state) refl h)

-- a word with the fields of a begun match, in play or finished, is the packing of a valid record
begun_word : (word : ℕ) → IsOfBegunMatch word → IsWord word
begun_word word h =
    let valid = begun_valid word h in
    let known : held_at word layout.state < 3 = let k = h.known in omega arith in
    record { of = record_at word; valid = valid; packed = held_word word (record { tag = h.tag; state = known; valid = valid }) }

-- the record of a match before its kick-off is packed into the word `untouched`
scheduled_packed : word_of scheduled ≡ untouched
unfolding word_of
scheduled_packed = refl

-- the word `untouched`, of a match before its kick-off, is the packing of a valid record
untouched_word : (word : ℕ) → word ≡ untouched → IsWord word
untouched_word word is = record { of = scheduled; valid = scheduled_valid; packed = scheduled_packed ∙ sym is }

-- a word that holds a valid record has the fields of a begun match, in play or finished, or is `untouched`, of a match before its kick-off
told_by : (word code : ℕ) → held_at word layout.state ≡ code → HoldsRecord word → suits_state (state_at code) (record_at word) ≡ true → IsOfBegunMatch word ⊎ (word ≡ untouched)
unfolding record_at
told_by word zero is holds s = inr (sym (held_word word holds) ∙ (ap word_of (untouched_is (record_at word) (ap state_at is) holds.valid) ∙ scheduled_packed))
told_by word (suc zero) is holds s =
    inl (record { tag = holds.tag; reporter = grind (arith, nat_tests); not_scheduled = omega arith; known = omega arith; low = grind (arith, nat_tests); high = grind (arith, nat_tests) })
told_by word (suc (suc zero)) is holds s =
    inl (record { tag = holds.tag; reporter = grind (arith, nat_tests); not_scheduled = omega arith; known = omega arith; low = grind (arith, nat_tests); high = grind (arith, nat_tests) })
told_by word (suc (suc (suc n))) is holds s = absurd (let k = holds.state in omega arith)

-- the packing of a valid record has the fields of a begun match, in play or finished, or is `untouched`, of a match before its kick-off
word_begun : (word : ℕ) → IsWord word → IsOfBegunMatch word ⊎ (word ≡ untouched)
unfolding record_at
word_begun word is =
    let holds = word_holds word is in
    told_by word (held_at word layout.state) refl holds (parts (record_at word) holds.valid).1

-- if `begun` holds only of a word with the fields of a begun match, a word of which it holds, or which is `untouched`, of a match before
-- its kick-off, is the packing of a valid record
pub tests_word : (word : ℕ) (begun : Bool) → (begun ≡ true → IsOfBegunMatch word) → (begun || (word == untouched)) ≡ true → IsWord word
tests_word word true is t = begun_word word (is refl)
tests_word word false is t = untouched_word word (eqb-true word untouched t)

-- if `begun` holds of each word with the fields of a begun match, it holds of the packing of a valid record, or this is `untouched`, of a
-- match before its kick-off
pub word_tests : (word : ℕ) (begun : Bool) → (IsOfBegunMatch word → begun ≡ true) → IsWord word → (begun || (word == untouched)) ≡ true
word_tests word true is w = refl
word_tests word false is w = elim (word_begun word w) [ inl b ↦ absurd (let e = is b in cc) | inr e ↦ eq-eqb word untouched e ]

-- a test that holds of a word exactly if this is the packing of a valid record is equal to `is_word`
pub same_as_test : (word : ℕ) (found : Bool) → (found ≡ true → IsWord word) → (IsWord word → found ≡ true) → found ≡ is_word word
same_as_test word true a b = sym ((word_tested word).1 (a refl))
same_as_test word false a b = elim (cases_Bool (is_word word)) [ inl y ↦ absurd (let e = b ((word_tested word).0 y) in cc) | inr n ↦ sym n ]

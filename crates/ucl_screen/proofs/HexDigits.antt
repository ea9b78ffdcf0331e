-- A word in sixteen hexadecimal digits, made from its last digit on, and read back.
use Rattle.std.proofs.Common.{List, Some, [], ap, append-nil, append_assoc, arith, drop, eq-eqb, false, inl, inr, length, length-append, refl, replicate}
use Rattle.std.proofs.Common.{set, subst, suc, sym, true, zero, ℕ, ◌%◌, ◌*◌, ◌++◌, ◌+◌, ◌-◌, ◌/◌, ◌<◌, ◌==◌, ◌^◌, ◌∙◌, ◌∷◌, ◌≡◌, ◌≤◌}
use Rattle.std.proofs.Math.Nat.{pow-suc}
use Rattle.std.proofs.lemmas.Bool.{cases_Bool}
use Rattle.std.proofs.lemmas.Bool.Decides.{nat_tests}
use Rattle.std.proofs.lemmas.List.{drop-set}
use Rattle.std.specs.Fmt.{char_count, digit_glyph, digits, digits_onto, padded_integral}
use Rattle.ucl_screen.specs.Numbers.{hex_digit, hex_digits, hex_word}
unfoldable use Rattle.ucl_screen.specs.Numbers.{hex_after}

-- the last k hexadecimal digits of the number, in front of the bytes `rest`
abbrev pub low : ℕ → ℕ → List ℕ → List ℕ
low zero n rest = rest
low (suc k) n rest = low k (n / 16) (digit_glyph false (n % 16) ∷ rest)

-- the last k hexadecimal digits of n before `rest` are the last k - 1 of n / 16 before the last digit of n and `rest`
pub low-step : (k n : ℕ) (rest : List ℕ) → 0 < k → low k n rest ≡ low (k - 1) (n / 16) (digit_glyph false (n % 16) ∷ rest)
low-step zero n rest h = absurd (omega arith)
low-step (suc k) n rest h = let e : suc k - 1 ≡ k = omega arith in rw e refl

-- one zero after k zeros is one zero before k zeros
zeros-then : (k : ℕ) (rest : List ℕ) → replicate k 48 ++ 48 ∷ rest ≡ 48 ∷ (replicate k 48 ++ rest)
zeros-then zero rest = refl
zeros-then (suc k) rest = ap (λ (l : List ℕ). 48 ∷ l) (zeros-then k rest)

-- the last k digits of 0 are zeros
low-zero : (k : ℕ) (rest : List ℕ) → low k 0 rest ≡ replicate k 48 ++ rest
low-zero zero rest = refl
low-zero (suc k) rest = low-zero k (48 ∷ rest) ∙ zeros-then k rest

-- the text is the hexadecimal digits of n and then `rest`; with zeros before them they are the last k + 1 digits of n
record Spelled (k n : ℕ) (rest text : List ℕ) : Type 0 where
  spelt : List ℕ
  same : text ≡ spelt ++ rest
  short : length spelt ≤ suc k
  filled : replicate (suc k - length spelt) 48 ++ (spelt ++ rest) ≡ low (suc k) n rest

-- a number below 16 is spelled by one digit
alone : (k j n : ℕ) (rest : List ℕ) → (n / 16 == 0) ≡ true → Spelled k n rest (digits_onto (suc j) 16 false n rest)
alone k j n rest y =
    let none : n / 16 ≡ 0 = grind (arith, nat_tests) in
    let count : suc k - 1 ≡ k = omega arith in
    record {
      spelt = digit_glyph false (n % 16) ∷ [];
      same = rw y refl;
      short = omega arith;
      filled = rw (count, none) (sym (low-zero k (digit_glyph false (n % 16) ∷ rest)));
    }

-- a number below a power of 16 is spelled by at most as many digits as the exponent says
spelled : (k j n : ℕ) (rest : List ℕ) → k ≤ j → n < 16 ^ suc k → Spelled k n rest (digits_onto (suc j) 16 false n rest)
spelled zero j n rest h small = alone zero j n rest (let none : n / 16 ≡ 0 = omega arith in rw none refl)
spelled (suc k) zero n rest h small = absurd (omega arith)
spelled (suc k) (suc j) n rest h small = elim (cases_Bool (n / 16 == 0)) [
  | inl y ↦ alone (suc k) (suc j) n rest y
  | inr further ↦
      let few : n / 16 < 16 ^ suc k = omega (arith, pow-suc 16 (suc k)) in
      let last = digit_glyph false (n % 16) in
      let s = spelled k j (n / 16) (last ∷ rest) (omega arith) few in
      let long = length-append s.spelt (last ∷ []) in
      let count : suc (suc k) - length (s.spelt ++ last ∷ []) ≡ suc k - length s.spelt = omega arith in
      record {
        spelt = s.spelt ++ last ∷ [];
        same = rw further (s.same ∙ sym (append_assoc s.spelt (last ∷ []) rest));
        short = let k = s.short in omega arith;
        filled = rw (count, append_assoc s.spelt (last ∷ []) rest) s.filled;
      }
]

-- hexadecimal digits with room for 64 of them are those that the standard library defines
digits-at : (k n : ℕ) → k ≡ 64 → digits_onto k 16 false n [] ≡ digits 16 false n
unfolding digits
digits-at k n e = rw e refl

-- a 64-bit word is spelled by at most sixteen hexadecimal digits
spelled-word : (j n : ℕ) → suc j ≡ 64 → n < 2 ^ 64 → Spelled 15 n [] (digits 16 false n)
spelled-word j n e small = subst (Spelled 15 n []) (digits-at (suc j) n e) (spelled 15 j n [] (omega arith) (omega arith))

-- a 64-bit word written in sixteen hexadecimal digits, with leading zeros, is its last sixteen digits
pub word-digits : (n : ℕ) → n < 2 ^ 64 → hex_digits n ≡ low 16 n []
unfolding padded_integral char_count
word-digits n small =
    let s = spelled-word 63 n refl small in
    let e : digits 16 false n ≡ s.spelt = s.same ∙ append-nil s.spelt in
    let count : 16 - length s.spelt - 0 - 0 ≡ 16 - length s.spelt = omega arith in
    rw (e, count) s.filled

-- if the last digit of `rest` is put into the buffer at place - 1, the digits of rest / 16 and those put so far are still the word's
pub digits-step : (word place rest : ℕ) (old new : List ℕ) (digit : ℕ) → 0 < place → place ≤ length old → digit ≡ digit_glyph false (rest % 16)
    → new ≡ set old (place - 1) digit → low place rest (drop place old) ≡ low 16 word [] → low (place - 1) (rest / 16) (drop (place - 1) new) ≡ low 16 word []
digits-step word place rest old new digit some short is e so_far =
    let within : place - 1 < length old = omega arith in
    let back : place - 1 + 1 ≡ place = omega arith in
    let tail : drop (place - 1) new ≡ digit_glyph false (rest % 16) ∷ drop place old =
    ap (drop (place - 1)) e ∙ drop-set old (place - 1) digit within ∙ ap (λ (n : ℕ). digit ∷ drop n old) back ∙ ap (λ (d : ℕ). d ∷ drop place old) is in
    ap (low (place - 1) (rest / 16)) tail ∙ sym (low-step place rest (drop place old) some) ∙ so_far

-- once no place is left to fill, the digits in the buffer are the sixteen hexadecimal digits of the word
pub digits-end : (word place rest : ℕ) (digits : List ℕ) → place ≡ 0 → word < 2 ^ 64 → low place rest (drop place digits) ≡ low 16 word [] → digits ≡ hex_digits word
digits-end word place rest digits none small so_far = (rw none at so_far) ∙ sym (word-digits word small)

-- the byte of a hexadecimal digit is read back as the digit
glyph-back : (d : ℕ) → d < 16 → hex_digit (digit_glyph false d) ≡ Some d
glyph-back (suc (suc (suc (suc (suc (suc (suc (suc (suc (suc (suc (suc (suc (suc (suc (suc d)))))))))))))))) h = absurd (omega arith)
glyph-back _ _ = refl

-- a step of reading digits: if n is 16 * before + last, and next is 16 * power, a * power + before with `last` read on is a * next + n
spell : (before last power next n : ℕ) → next ≡ 16 * power → n ≡ 16 * before + last → (a : ℕ) → 16 * (a * power + before) + last ≡ a * next + n
spell before last power next n e f a = rw (e, f) (omega arith)

-- to read the last k hexadecimal digits of n, below 16^k, with a so far is to read on with a * 16^k + n so far
low-back : (k n a : ℕ) (rest : List ℕ) → n < 16 ^ k → hex_after a (low k n rest) ≡ hex_after (a * 16 ^ k + n) rest
unfolding hex_after
low-back zero n a rest h = ap (λ (m : ℕ). hex_after m rest) (omega arith)
low-back (suc k) n a rest h =
    let p : 16 ^ suc k ≡ 16 * 16 ^ k = omega (arith, pow-suc 16 k) in
    let parts : n ≡ 16 * (n / 16) + n % 16 = omega arith in
    let whole = spell (n / 16) (n % 16) (16 ^ k) (16 ^ suc k) n p parts a in
    low-back k (n / 16) a (digit_glyph false (n % 16) ∷ rest) (omega arith) ∙ rw (glyph-back (n % 16) (omega arith), whole) refl

-- the last k digits of a number, put before `rest`, add k bytes to its length
pub low-length : (k n : ℕ) (rest : List ℕ) → length (low k n rest) ≡ k + length rest
low-length zero n rest = omega arith
low-length (suc k) n rest = low-length k (n / 16) (digit_glyph false (n % 16) ∷ rest) ∙ omega arith

-- a text of sixteen bytes whose hexadecimal digits give n is read as the word n
of-sixteen : (text : List ℕ) (n : ℕ) → length text ≡ 16 → hex_after 0 text ≡ Some n → hex_word text ≡ Some n
of-sixteen text n e h = rw (eq-eqb (length text) 16 e) h

-- the sixteen digits of a word are read back as it
pub word-back : (word : ℕ) → word < 2 ^ 64 → hex_word (hex_digits word) ≡ Some word
unfolding hex_after
word-back word h =
    let back = low-back 16 word 0 [] (omega arith) ∙ ap Some (omega arith) in
    ap hex_word (word-digits word h) ∙ of-sixteen (low 16 word []) word (low-length 16 word []) back

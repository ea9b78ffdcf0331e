-- Numbers read one digit at a time.
use Rattle.ucl_screen.proofs.Common.{Bool, List, None, Some, add-one, arith, digits_after, drop, drop-cons, drop_all, false, get_or}
use Rattle.ucl_screen.proofs.Common.{hex_after, hex_digit, hex_word, inl, inr, is_digit, length, nat_tests, number, pow-le-pow_right}
use Rattle.ucl_screen.proofs.Common.{pow-suc, refl, true, zero, ℕ, ◌*◌, ◌+◌, ◌-◌, ◌<◌, ◌==◌, ◌^◌, ◌≡◌, ◌≤◌, ◌⊎◌}

-- a text of 1 to `most` bytes is read as a number digit by digit, from its first byte on
pub number-is : (most : ℕ) (text : List ℕ) → 1 ≤ length text → length text ≤ most → number most text ≡ digits_after 0 text
number-is most text a b = grind (arith, nat_tests)

-- a byte from 48 to 57 is a digit
digit-true : (b : ℕ) → 48 ≤ b → b ≤ 57 → is_digit b ≡ true
digit-true b p q = grind (arith, nat_tests)

-- if byte i of a text is a digit, to read on from i with n so far is to read on from i + 1 with 10 n plus the digit so far
pub more-digits : (n i : ℕ) (text : List ℕ) → i < length text → 48 ≤ get_or text i 0 → get_or text i 0 ≤ 57
    → digits_after n (drop i text) ≡ digits_after (10 * n + (get_or text i 0 - 48)) (drop (i + 1) text)
unfolding digits_after
more-digits n i text h p q = rw (drop-cons text i 0, add-one i, digit-true _ p q) refl

-- a byte below 48 or above 57 is no digit
other-byte : (b : ℕ) → (b < 48) ⊎ (57 < b) → is_digit b ≡ false
other-byte b (inl low) = grind (arith, nat_tests)
other-byte b (inr high) = grind (arith, nat_tests)

-- if byte i of a text is no digit, reading on from i gives no number
pub no-digit : (n i : ℕ) (text : List ℕ) → i < length text → (get_or text i 0 < 48) ⊎ (57 < get_or text i 0) → digits_after n (drop i text) ≡ None
unfolding digits_after
no-digit n i text h other = rw (drop-cons text i 0, other-byte _ other) refl

-- where no byte is left from place i on, the number is n, that of the digits before
pub no-more : (n i : ℕ) (text : List ℕ) → length text ≤ i → digits_after n (drop i text) ≡ Some n
unfolding digits_after
no-more n i text h = rw (drop_all i text h) refl

-- a text that the test for length 0 finds not empty has at least one byte
pub nonempty : (text : List ℕ) (r : Bool) → r ≡ (length text == 0) → r ≡ false → 1 ≤ length text
nonempty text r e f = grind (arith, nat_tests)

-- a number of i digits with one digit more is a number of i + 1 digits
pub one-more-digit : (n i d : ℕ) → n < 10 ^ i → d ≤ 9 → 10 * n + d < 10 ^ (i + 1)
one-more-digit n i d h k = rw (add-one i, pow-suc 10 i) (omega arith)

-- a text of sixteen bytes is read as the word of its hexadecimal digits
pub word-is : (text : List ℕ) → length text ≡ 16 → hex_word text ≡ hex_after 0 text
word-is text e = rw e refl

-- if byte i of a text is a hexadecimal digit, to read on from i with n so far is to read on from i + 1 with 16 n plus the digit so far
pub more-hex : (n i d : ℕ) (text : List ℕ) → i < length text → hex_digit (get_or text i 0) ≡ Some d
    → hex_after n (drop i text) ≡ hex_after (16 * n + d) (drop (i + 1) text)
unfolding hex_after
more-hex n i d text h e = rw (drop-cons text i 0, add-one i, e) refl

-- if byte i of a text is no hexadecimal digit, reading on from i gives no number
pub no-hex : (n i : ℕ) (text : List ℕ) → i < length text → hex_digit (get_or text i 0) ≡ None → hex_after n (drop i text) ≡ None
unfolding hex_after
no-hex n i text h e = rw (drop-cons text i 0, e) refl

-- where no byte is left from place i on, the number is n, that of the hexadecimal digits before
pub no-more-hex : (n i : ℕ) (text : List ℕ) → length text ≤ i → hex_after n (drop i text) ≡ Some n
unfolding hex_after
no-more-hex n i text h = rw (drop_all i text h) refl

-- a number of i hexadecimal digits with one digit more is a number of i + 1 of them
pub one-more-hex : (n i d : ℕ) → n < 16 ^ i → d < 16 → 16 * n + d < 16 ^ (i + 1)
one-more-hex n i d h k = rw (add-one i, pow-suc 16 i) (omega arith)

-- a number of at most sixteen hexadecimal digits fits 64 bits
pub hex-fits : (n i : ℕ) → n < 16 ^ (i + 1) → i < 16 → n < 2 ^ 64
hex-fits n i h k =
    let positive : zero < 16 = omega arith in
    let few : i + 1 ≤ 16 = omega arith in
    let most : 16 ^ (i + 1) ≤ 16 ^ 16 = pow-le-pow_right positive few in
    omega arith

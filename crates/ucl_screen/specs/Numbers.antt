-- Numbers in decimal and in hexadecimal digits, read from lists of bytes.
use Rattle.std.specs.Fmt.{digits, padded_integral, format_spec}
use Rattle.std.specs.Prelude.{ℕ, ◌+◌, ◌-◌, ◌*◌, ◌^◌, ◌==◌, ◌&&◌, nat_le, Bool, false, if◌then◌else◌, List, [], ◌∷◌, length, Option, Some, None, option_and_then}

-- the byte is a decimal digit
abbrev pub is_digit : ℕ → Bool
is_digit b = nat_le 48 b && nat_le b 57

-- the number whose decimal digits are those of n and then these; None if one of them is no digit
unfoldable pub digits_after : ℕ → List ℕ → Option ℕ
digits_after n [] = Some n
digits_after n (b ∷ bs) = if is_digit b then digits_after (10 * n + (b - 48)) bs else None

-- the number of a text of decimal digits, at least one and at most `most`; None if the text is anything else
abbrev pub number : ℕ → List ℕ → Option ℕ
number most text = if nat_le 1 (length text) && nat_le (length text) most then digits_after 0 text else None

-- the number, if there is one and it is from `low` to `high`; else None
abbrev pub in_range : ℕ → ℕ → Option ℕ → Option ℕ
in_range low high None = None
in_range low high (Some n) = if nat_le low n && nat_le n high then Some n else None

-- there is a number, and it is n
abbrev pub is_number : Option ℕ → ℕ → Bool
is_number None n = false
is_number (Some m) n = m == n

-- the value of a hexadecimal digit of either case; None if the byte is no such digit
abbrev pub hex_digit : ℕ → Option ℕ
hex_digit b =
    if nat_le 48 b && nat_le b 57 then Some (b - 48)
    else (if nat_le 97 b && nat_le b 102 then Some (b - 87)
    else (if nat_le 65 b && nat_le b 70 then Some (b - 55)
    else None))

-- the number whose hexadecimal digits are those of n and then these; None if one of them is no such digit
unfoldable pub hex_after : ℕ → List ℕ → Option ℕ
hex_after n [] = Some n
hex_after n (b ∷ bs) = option_and_then (λ d. hex_after (16 * n + d) bs) (hex_digit b)

-- the number of a text of 16 hexadecimal digits of either case; None if the text is anything else
abbrev pub hex_word : List ℕ → Option ℕ
hex_word text = if length text == 16 then hex_after 0 text else None

-- a number in sixteen hexadecimal digits of lower case, with leading zeros: what `{:016x}` writes
abbrev pub hex_digits : ℕ → List ℕ
hex_digits word = padded_integral (format_spec 32 0 4 16 (2 ^ 64 - 1)) false [] (digits 16 false word)

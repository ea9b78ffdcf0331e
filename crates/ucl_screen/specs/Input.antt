-- What reading an input to its end gives.
-- Contracts know of a source the bytes that it has left, or nothing (None), whether it has failed, and how many calls were made of it.
use Rattle.std.specs.Prelude.{◌≡◌, ℕ, ◌+◌, ◌≤◌, nat_le, Bool, true, false, if◌then◌else◌, List, length, Option, IfSome, Result, Ok, Err}
use Rattle.ucl_screen.specs.declared.fault.InputFault.{InputFault}
use Rattle.ucl_screen.specs.declared.fault.InputFault.TheVariants.{ReadFailed, OutOfMemory, TooLong}
use Rattle.ucl_io.specs.Stream.{MovesCount}

-- the most bytes that an input may have
abbrev pub max_bytes : ℕ
max_bytes = 4194304

-- the bytes of an input, or the fault TooLong if they are more than 4,194,304
abbrev pub whole_input : List ℕ → Result (List ℕ) InputFault
whole_input bytes = if nat_le (length bytes) max_bytes then Ok bytes else Err TooLong

-- a read of a source to its end has this result: what the source's bytes mean by `Means`, if they are known (`view` maps the code's value
-- to the definition's); or the failure of the source after so many bytes; or memory ran out. `old` and `new` are the bytes left before and
-- after, and `failed` whether the source has failed
abbrev pub Reads : {V E : Type 0} → (List ℕ → Result E InputFault → Type 0) → (V → E) → Option (List ℕ) → Option (List ℕ) → Bool → Result V InputFault → Type 0
Reads Means view old new failed (Ok v) = (failed ≡ false) × IfSome old (λ bytes. Means bytes (Ok (view v)))
Reads Means view old new failed (Err (ReadFailed n)) = (failed ≡ true) × MovesCount old new n
Reads Means view old new failed (Err OutOfMemory) = failed ≡ false
Reads Means view old new failed (Err fault) = (failed ≡ false) × IfSome old (λ bytes. Means bytes (Err fault))

-- a read with this result called the source at most once for each byte that was left, if those are known, or for each byte before a
-- failure, and once more. `old` and `new` are the numbers of calls before and after
abbrev pub CallsRead : {V : Type 0} → Option (List ℕ) → ℕ → ℕ → Result V InputFault → Type 0
CallsRead left old new (Err (ReadFailed n)) = new ≤ old + n + 1
CallsRead left old new _ = IfSome left (λ bytes. new ≤ old + length bytes + 1)

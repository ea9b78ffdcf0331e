-- What calls do to the bytes that a source has left and that a sink has taken: `old` before and `new` after, None if they are not known.
use Rattle.std.specs.Prelude.{◌≡◌, ℕ, ◌+◌, ◌<◌, ◌≤◌, List, length, take, Option, Some, None, Result, Ok, Err}
use Rattle.std.specs.Io.KnownBytes.{Keeps, Appends, Consumes}

-- what a source has left, by the answer of a call: `Some(n)` moved its first n bytes to the front of the buffer, and `None` moved nothing
abbrev pub TakesBytes : Option (List ℕ) → Option (List ℕ) → Option ℕ → List ℕ → Type 0
TakesBytes old new None buf = Keeps old new
TakesBytes old new (Some n) buf = Consumes old new (take n buf)

-- what a sink has taken, by the answer of a call: `Some(n)` moved the first n bytes of the text to the sink, and `None` moved nothing
abbrev pub GivesBytes : Option (List ℕ) → Option (List ℕ) → Option ℕ → List ℕ → Type 0
GivesBytes old new None text = Keeps old new
GivesBytes old new (Some n) text = Appends old new (take n text)

-- a sink took the first n bytes of the text, and the text has more
pub record WroteFirst (old new : Option (List ℕ)) (n : ℕ) (text : List ℕ) : Type 0 where
  pub cut : n < length text
  pub out : Appends old new (take n text)

-- n bytes were taken from a source: the first of those that it had left
abbrev pub MovesCount : Option (List ℕ) → Option (List ℕ) → ℕ → Type 0
MovesCount old new n = (bytes : List ℕ) × (length bytes ≡ n) × Consumes old new bytes

-- a text of `all` bytes took a sink's number of calls from `old` to `new`: at most one for each byte that went out, and one if it failed
abbrev pub CallsGive : {V : Type 0} → ℕ → ℕ → ℕ → Result V ℕ → Type 0
CallsGive old new all (Ok v) = new ≤ old + all
CallsGive old new all (Err out) = new ≤ old + out + 1

-- When a source was called for bytes; and a source and a sink as contracts see them.
-- A time is a state just before such a call. `left` is what a source has left and `taken` what a sink has taken, None if not known.
use Rattle.std.specs.Prelude.{◌≡◌, ◌≤◌, ℕ, ◌+◌, suc, Bool, List, [], ◌∷◌, ◌++◌, length, Option, Some, IfSome}

-- the listed moments are those just before each call of a source, in order; `count` says how many calls were made by a moment, `calls` before
-- the first. P holds of each moment and the bytes that had come by then. More had come than by the moment before, so no call follows one
-- that gave no byte; by a next call at least `least` bytes have to have come
pub data InTurn {T : Type 0} (count : T → ℕ) (calls : ℕ) (P : T → List ℕ → Type 0) : List T → ℕ → Type 0 where
  none : InTurn count calls P [] 0
  call : {times : List T} {least : ℕ} (time : T) (bytes : List ℕ) → InTurn count calls P times least → count time ≡ calls + length times → least ≤ length bytes
      → P time bytes → InTurn count calls P (times ++ time ∷ []) (suc (length bytes))

-- a log grew from `old` to `new` by `times`, one just before each call of a source, whose number of calls went from `calls` to `calls2`;
-- P holds of each time and the bytes that had come by then
pub record LogsCalls {T : Type 0} (count : T → ℕ) (old new : List T) (calls calls2 : ℕ) (P : T → List ℕ → Type 0) : Type 0 where
  pub times : List T
  pub more : new ≡ old ++ times
  pub each : calls2 ≡ calls + length times
  pub least : ℕ
  pub in_turn : InTurn count calls P times least

-- if the bytes that a source had left at first are known, no byte of it is left in the end
abbrev pub HasEnded : Option (List ℕ) → Option (List ℕ) → Type 0
HasEnded left left2 = IfSome left (λ _. left2 ≡ Some [])

-- a source and a sink at one time: what the source has left and the sink has taken, where these are known, and whether the sink has failed
pub record Device : Type 0 where
  pub left : Option (List ℕ)
  pub taken : Option (List ℕ)
  pub failed : Bool

-- the `Device` of a source and a sink, by the functions for what the one has left, what the other has taken, and whether it has failed
abbrev pub device : {S W : Type 0} → (S → Option (List ℕ)) → (W → Option (List ℕ)) → (W → Bool) → S → W → Device
device left taken failed source sink = record { left = left source; taken = taken sink; failed = failed sink }

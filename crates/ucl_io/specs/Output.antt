-- Outlets: a sink; the text that waits to be given to it; and how many bytes went out before, counted up to 2^64 - 1.
-- `before` and `after` are an outlet before and after a call; what a sink has taken is None if it is not known.
-- A text is put if it has gone out or waits in the outlet, behind what was put before it.
use Rattle.std.specs.Prelude.{◌≡◌, ℕ, ◌+◌, ◌-◌, ◌^◌, min, Bool, true, List, ◌++◌, length, Option, Result, Ok, Err}
use Rattle.std.specs.Io.KnownBytes.{Appends}
use Rattle.ucl_io.specs.declared.fault.ServeFault.{ServeFault}
use Rattle.ucl_io.specs.declared.fault.ServeFault.TheVariants.{WriteFailed}
use Rattle.ucl_io.specs.Stream.{WroteFirst}

-- the text that waits to be given to a sink, and how many bytes the sink was given before
pub record Waiting : Type 0 where
  pub held : List ℕ
  pub out : ℕ

-- a sink: the text that waits for it, how many bytes went out before, what it has taken, where that is known, and whether it has failed
pub record Outlet : Type 0 where
  pub held : List ℕ
  pub out : ℕ
  pub taken : Option (List ℕ)
  pub failed : Bool

-- the outlet of a sink and of what waits for it, by the functions that give what the sink has taken and whether it has failed
abbrev pub outlet : {W : Type 0} → (W → Option (List ℕ)) → (W → Bool) → Waiting → W → Outlet
outlet taken failed waiting sink = record { held = waiting.held; out = waiting.out; taken = taken sink; failed = failed sink }

-- a text was put behind the text that waited for a sink: a first part of the two, maybe none, went out, and the rest waits; no failure
pub record HasPut (before after : Outlet) (text : List ℕ) : Type 0 where
  pub given : List ℕ
  pub went : Appends before.taken after.taken given
  pub rest : given ++ after.held ≡ before.held ++ text
  pub told : after.out ≡ min (before.out + length given) (2 ^ 64 - 1)
  pub sound : after.failed ≡ before.failed

-- the sink has failed in a text, of which only a first part went out; `written` bytes are out in all, with the `before` bytes before it
pub record StoppedShort (before : ℕ) (failed : Bool) (old new : Option (List ℕ)) (text : List ℕ) (written : ℕ) : Type 0 where
  pub failed_is : failed ≡ true
  pub count : ℕ
  pub first : WroteFirst old new count text
  pub told : written ≡ min (before + count) (2 ^ 64 - 1)

-- a text was given to a sink at once: the result is how many bytes are out in all, or `WriteFailed` if the sink failed, and no other fault
abbrev pub WritesOn : {F : Type 0} → Outlet → Outlet → List ℕ → Result ℕ (ServeFault F) → Type 0
WritesOn before after text (Ok out) =
    Appends before.taken after.taken text × (out ≡ min (before.out + length text) (2 ^ 64 - 1)) × (after.failed ≡ before.failed)
WritesOn before after text (Err (WriteFailed written)) = StoppedShort before.out after.failed before.taken after.taken text written
WritesOn before after text (Err _) = ⊥

-- the sink has failed in the text that waited and this text after it, and `written` bytes are out in all
abbrev pub StopsIn : Outlet → Outlet → List ℕ → ℕ → Type 0
StopsIn before after text written = StoppedShort before.out after.failed before.taken after.taken (before.held ++ text) written

-- a text was put after the text that waited, or the sink failed in the two; no other fault comes
abbrev pub PutsOrStops : {V F : Type 0} → Outlet → Outlet → List ℕ → Result V (ServeFault F) → Type 0
PutsOrStops before after text (Ok done) = HasPut before after text
PutsOrStops before after text (Err (WriteFailed written)) = StopsIn before after text written
PutsOrStops before after text (Err _) = ⊥

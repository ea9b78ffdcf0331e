-- What a run of a program does to its input and its output, and which faults it ends with. `CallsFor bytes text`: an input of these bytes
-- calls for this text; `known` are the bytes of the input, None if not known; `old` and `new` are those of the output, before and after.
use Rattle.std.specs.Prelude.{◌≡◌, ℕ, ◌+◌, ◌≤◌, Bool, true, false, ⊤, List, Option, IfSome, Result, Err, IfErr, IsErrOf, OnOk}
use Rattle.std.specs.Io.KnownBytes.{Appends}
use Rattle.ucl_screen.specs.declared.fault.InputFault.{InputFault}
use Rattle.ucl_screen.specs.declared.fault.InputFault.TheVariants as input
use Rattle.ucl_screen.specs.Input.{max_bytes}
use Rattle.ucl_io.specs.declared.fault.ServeFault.{ServeFault}
use Rattle.ucl_io.specs.declared.fault.ServeFault.TheVariants as driver
use Rattle.ucl_io.specs.Output.{StoppedShort}
use Rattle.ucl_rows.specs.declared.fault.RunFault.{RunFault}
use Rattle.ucl_rows.specs.declared.fault.RunFault.TheVariants.{Input, WriteFailed, NotOnDuty}

-- if the bytes of the input are known, P holds of an output that they call for by `CallsFor`
abbrev pub TextHas : (List ℕ → List ℕ → Type 0) → Option (List ℕ) → (List ℕ → Type 0) → Type 0
TextHas CallsFor known P = IfSome known (λ bytes. (text : List ℕ) × CallsFor bytes text × P text)

-- if the run failed for its input, P holds of the fault of the input
abbrev pub IfInput : RunFault → (InputFault → Type 0) → Type 0
IfInput (Input e) P = P e
IfInput _ P = ⊤

-- if the run failed for its output, P holds of the number of bytes written
abbrev pub IfWriteFailed : RunFault → (ℕ → Type 0) → Type 0
IfWriteFailed (WriteFailed written) P = P written
IfWriteFailed _ P = ⊤

-- if the run did not fail for its output, P holds
abbrev pub UnlessWriteFailed : RunFault → Type 0 → Type 0
UnlessWriteFailed (WriteFailed written) P = ⊤
UnlessWriteFailed _ P = P

-- whether the run failed because the input could not be read
abbrev pub is_read_failed : {U : Type 0} → Result U RunFault → Bool
is_read_failed (Err (Input (input.ReadFailed bytes))) = true
is_read_failed _ = false

-- What a run that reads an input and writes a text promises. --

-- a run that ended well wrote exactly the text that its input calls for
abbrev pub WritesAll : {U : Type 0} → (List ℕ → List ℕ → Type 0) → Option (List ℕ) → Option (List ℕ) → Option (List ℕ) → Result U RunFault → Type 0
WritesAll CallsFor known old new result = OnOk result (TextHas CallsFor known (Appends old new))

-- a run that failed for anything but its output wrote nothing
abbrev pub WritesNothing : {U A : Type 0} → A → A → Result U RunFault → Type 0
WritesNothing old new result = IfErr result (λ f. UnlessWriteFailed f (new ≡ old))

-- a run fails for its output only if that has failed
abbrev pub BlamesOutput : {U : Type 0} → Bool → Result U RunFault → Type 0
BlamesOutput failed result = IfErr result (λ f. IfWriteFailed f (λ written. failed ≡ true))

-- a run does not report lack of memory as a fault of the input
abbrev pub DistinguishesMemory : {U : Type 0} → Result U RunFault → Type 0
DistinguishesMemory result = IsErrOf result (Input input.OutOfMemory) → ⊥

-- a run calls its source at most as often as the longest input has bytes, and two times more; `old` and `new` count the calls
abbrev pub CallsWithin : ℕ → ℕ → Type 0
CallsWithin old new = new ≤ old + max_bytes + 2

-- Rows and parts of a night. --

-- if the run failed for a row of a reporter other than 1 and 2 (not on duty), P holds of the row's number, and else Q holds
abbrev pub MatchDuty : RunFault → (ℕ → Type 0) → Type 0 → Type 0
MatchDuty (NotOnDuty row) P Q = P row
MatchDuty _ P Q = Q

-- the output failed within `text`, after `before` earlier bytes; the fault is `WriteFailed` with the count of all bytes that went out
abbrev pub IsStopped : ℕ → Bool → Option (List ℕ) → Option (List ℕ) → List ℕ → RunFault → Type 0
IsStopped before failed old new text (WriteFailed written) = StoppedShort before failed old new text written
IsStopped before failed old new text _ = ⊥

-- Runs whose lines a driver hands to a handler. --

-- `fault`, of the handler's type F, stands for a fault of the driver that hands it lines: the handler's own fault is kept, and any other
-- is taken as a `RunFault` and converted to F by `Gives`, the relation of the conversion
abbrev pub IsOfDriver : {F : Type 0} → (RunFault → F → Type 0) → ServeFault F → F → Type 0
IsOfDriver Gives (driver.ReadFailed bytes) fault = Gives (Input (input.ReadFailed bytes)) fault
IsOfDriver Gives driver.TooLong fault = Gives (Input input.TooLong) fault
IsOfDriver Gives (driver.WriteFailed written) fault = Gives (WriteFailed written) fault
IsOfDriver Gives (driver.Handler own) fault = fault ≡ own

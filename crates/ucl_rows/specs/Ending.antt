-- How a program ends: what it wrote, and its exit status. `old` and `new` are the bytes that its error sink has taken before and after,
-- None if not known.
use Rattle.std.specs.Prelude.{◌≡◌, ℕ, ⊤, Bool, List, Option, Result, Ok, Err, IfErr, OnOk, string_bytes}
use Rattle.std.specs.Io.KnownBytes.{Appends}
use Rattle.ucl_io.specs.declared.logged_io.LoggedIo.{LoggedIo}
use Rattle.ucl_io.specs.declared.stream.Sink as writes
use Rattle.ucl_rows.specs.declared.fault.RunFault.{RunFault}
use Rattle.ucl_rows.specs.declared.fault.RunFault.TheVariants.{OutOfMemory}
use Rattle.ucl_rows.specs.Faults.{status}
use Rattle.ucl_rows.specs.Run.{IsStopped}
use Rattle.ucl_rows.specs.Printing.{Prints, fault_line}
use Rattle.ucl_command.specs.declared.fault.LineFault.{LineFault}
use Rattle.ucl_command.specs.declared.fault.LineFault.TheVariants as words

-- how a program ended: its exit status, and the sink on which it prints faults, before and after
pub record Ended : Type 0 where
  pub code : ℕ
  pub failed : Bool
  pub old : Option (List ℕ)
  pub new : Option (List ℕ)

-- how a program ended with status `code`, if its error sink was `old` before and `new` after; `failed` and `taken` tell a sink's state
abbrev pub ended_with : {E : Type 0} → (E → Bool) → (E → Option (List ℕ)) → ℕ → E → E → Ended
ended_with failed taken code old new = record { code = code; failed = failed new; old = taken old; new = taken new }

-- if its run succeeded, a program ended with status 0 and printed nothing; if it failed, with the fault's status and its line printed
abbrev pub Ends : Result ⊤ RunFault → Ended → Type 0
Ends (Ok done) e = (e.code ≡ 0) × (e.new ≡ e.old)
Ends (Err fault) e = (e.code ≡ status fault) × Prints e.failed e.old e.new (fault_line fault)

-- if the result is `Ok` a text was written whole; if it is a fault, the sink failed in the text, and the fault counts the bytes written
pub record WritesText (text : List ℕ) (failed : Bool) (old new : Option (List ℕ)) (r : Result ⊤ RunFault) : Type 0 where
  pub all : OnOk r (Appends old new text)
  pub part : IfErr r (IsStopped 0 failed old new text)

-- what a program does if its arguments ask for no command: it writes help on its output, or prints a refusal or the line of lack of memory
module _ {W : Type 0} (failed_of : W → Bool) (taken_of : W → Option (List ℕ)) where
  abbrev pub ExitsWithoutCommand : LineFault → W → W → Ended → Type 0
  ExitsWithoutCommand (words.Help text) before after e =
      (r : Result ⊤ RunFault) × WritesText (string_bytes text) (failed_of after) (taken_of before) (taken_of after) r × Ends r e
  ExitsWithoutCommand (words.Refused text) before after e = (after ≡ before) × (e.code ≡ 2) × Prints e.failed e.old e.new (string_bytes text)
  ExitsWithoutCommand words.OutOfMemory before after e = (after ≡ before) × Ends (Err OutOfMemory) e

-- arguments that name no command (`fault`: help, a refusal, or no memory) were answered, and nothing was read: only the sink may differ
abbrev pub AnsweredAlone : {S W M : Type 0} → writes.Ghosts W → LineFault → LoggedIo S W M → LoggedIo S W M → Ended → Type 0
AnsweredAlone sink fault before after e =
    (after ≡ record before { sink = after.sink }) × ExitsWithoutCommand sink.failed sink.taken fault before.sink after.sink e

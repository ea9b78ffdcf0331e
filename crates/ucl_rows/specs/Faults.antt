-- Faults of a run, which are why a run of a program failed: their lines for standard error, and exit statuses.
use Rattle.std.specs.Prelude.{◌≡◌, ℕ, ⊤, List, ◌++◌, codes, decimal}
use Rattle.ucl_screen.specs.declared.fault.InputFault.{InputFault}
use Rattle.ucl_screen.specs.declared.fault.InputFault.TheVariants as input
use Rattle.ucl_screen.specs.Texts.{input_fault_text}
use Rattle.ucl_rows.specs.declared.fault.RunFault.{RunFault}
use Rattle.ucl_rows.specs.declared.fault.RunFault.TheVariants.{Input, OutOfMemory, WriteFailed, NotOnDuty, NoThread, TooManyReporters, Strangers}
use Rattle.ucl_live_board.specs.declared.live_board.LiveBoard as boards

-- the fault of a run whose input has this fault: lack of memory is the run's `OutOfMemory`, and any other fault is `Input`
abbrev pub handed_on : InputFault → RunFault
handed_on input.OutOfMemory = OutOfMemory
handed_on fault = Input fault

-- a fault is one that a run of one thread can have: of the input, lack of memory, or a failed write
abbrev pub IsOfOneThread : RunFault → Type 0
IsOfOneThread (Input e) = ⊤
IsOfOneThread OutOfMemory = ⊤
IsOfOneThread (WriteFailed written) = ⊤
IsOfOneThread _ = ⊥

-- a live board, which threads share, has given all 255 numbers of reporters: a pass, a thread's permission on it, has seen 255 given
pub record HasNoNumberLeft {B R P : Type 0} (live : boards.Ghosts B R P) (board : B) : Type 0 where
  pub pass : R
  pub own : live.is_reader board pass
  pub listed : (live.reader pass).listed ≡ 255

-- the line of a fault, without its line feed
abbrev pub fault_text : RunFault → List ℕ
fault_text (Input e) = input_fault_text e
fault_text OutOfMemory = codes "out of memory 23"
fault_text (WriteFailed written) = codes "writing failed 26: after " ++ decimal written ++ codes " bytes"
fault_text (NotOnDuty row) = codes "input refused 25: row " ++ decimal row
fault_text NoThread = codes "no thread 27"
fault_text TooManyReporters = codes "board refused 30"
fault_text (Strangers version) = codes "board refused 31: version " ++ decimal version

-- the exit status of a program whose run failed with this fault
abbrev pub status : RunFault → ℕ
status (Input (input.ReadFailed bytes)) = 4
status (Input input.OutOfMemory) = 5
status (Input fault) = 3
status OutOfMemory = 5
status (WriteFailed written) = 4
status (NotOnDuty row) = 3
status NoThread = 5
status TooManyReporters = 6
status (Strangers version) = 6

use Rattle.std.proofs.Common.{refl}
use Rattle.std.specs.Fmt.{digits}
use Rattle.std.specs.Prelude.{◌++◌, codes, decimal}
use Rattle.ucl_screen.specs.declared.fault.InputFault.{InputFault}
use Rattle.ucl_screen.specs.declared.fault.InputFault.TheVariants as input
use Rattle.ucl_c.specs.Theorems.{IsWrittenAsTold}
use Rattle.ucl_c.proofs.theorems.faults_are_written_by_number.Goals as goal

-- the line that the programs write for each fault of an input but `ReadFailed`, which C does not have, has the number that C has for it
by_number : (fault : InputFault) → IsWrittenAsTold fault
unfolding digits
by_number (input.BadWordAt index) = record { place = codes "word " ++ decimal index; written = refl }
by_number (input.BadRow row) = record { place = codes "row " ++ decimal row; written = refl }
by_number (input.BadRoster slot) = record { place = codes "slot " ++ decimal slot; written = refl }
by_number input.TooLong = record { place = codes "too long"; written = refl }
by_number input.OutOfMemory = refl
by_number (input.ReadFailed bytes) = tt

pub returns : goal.returns
unfolding digits
returns c = record {
  inputs = by_number;
  rows = λ row. record { name = codes "bad-row"; named = refl; answered = λ field text. refl };
}

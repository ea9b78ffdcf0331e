-- What is printed on an error sink, which stands for standard error. `old` and `new` are the bytes that it took before and after, None if
-- they are not known.
use Rattle.std.specs.Prelude.{◌⊎◌, ℕ, Bool, List, ◌++◌, Option, codes}
use Rattle.std.specs.Io.KnownBytes.{Appends}
use Rattle.ucl_io.specs.Output.{StoppedShort}
use Rattle.ucl_rows.specs.declared.fault.RunFault.{RunFault}
use Rattle.ucl_rows.specs.Faults.{fault_text}

-- a text was printed on an error sink, whole or as far as the sink took it
abbrev pub Prints : Bool → Option (List ℕ) → Option (List ℕ) → List ℕ → Type 0
Prints failed old new text = Appends old new text ⊎ ((written : ℕ) × StoppedShort 0 failed old new text written)

-- the line of a fault, with its line feed
abbrev pub fault_line : RunFault → List ℕ
fault_line fault = fault_text fault ++ codes "\n"

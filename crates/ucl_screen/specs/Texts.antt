-- What a fault of an input is written as.
-- A fault line has three parts: a text, a number if there is one, and a text after it.
use Rattle.std.specs.Prelude.{List, ℕ, ◌++◌, [], Option, Some, None, codes, decimal}
use Rattle.ucl_screen.specs.declared.fault.InputFault.{InputFault}
use Rattle.ucl_screen.specs.declared.fault.InputFault.TheVariants.{BadWordAt, BadRow, BadRoster, ReadFailed, OutOfMemory, TooLong}
use Rattle.ucl_screen.specs.declared.fault_line.FaultLine.{FaultLine}

-- a number in decimal digits, or nothing
abbrev pub number_text : Option ℕ → List ℕ
number_text None = []
number_text (Some number) = decimal number

-- the text of a fault line: its three parts, one after the other
abbrev pub line_text : FaultLine → List ℕ
line_text line = line.before.now ++ number_text line.number ++ line.after.now

-- the text of the line that a program prints of a fault, without its line feed
abbrev pub input_fault_text : InputFault → List ℕ
input_fault_text (BadWordAt index) = codes "input refused 10: word " ++ decimal index
input_fault_text (BadRow row) = codes "input refused 20: row " ++ decimal row
input_fault_text (BadRoster slot) = codes "input refused 21: slot " ++ decimal slot
input_fault_text (ReadFailed bytes) = codes "reading failed 22: after " ++ decimal bytes ++ codes " bytes"
input_fault_text OutOfMemory = codes "out of memory 23"
input_fault_text TooLong = codes "input refused 24: too long"

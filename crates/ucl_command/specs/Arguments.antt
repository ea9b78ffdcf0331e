-- What holds of parsed arguments, whatever the words of the command line were. A `Line` is what `ucl_night` is to do.
use Rattle.std.specs.Prelude.{◌≡◌, ◌≤◌, ⊤, Option, Some, None, Result, Ok, Err}
use Rattle.ucl_screen.specs.Screen.{IsGroup}
use Rattle.ucl_command.specs.declared.fault.LineFault.{LineFault}
use Rattle.ucl_command.specs.declared.night.Line.{Line}
use Rattle.ucl_command.specs.declared.night.Line.TheVariants.{Feed, Show, Night}

-- a group that is asked for is A to H, and at most 1,000 readings (snapshots of the board) are asked for
abbrev pub IsInRange : Line → Type 0
IsInRange Feed = ⊤
IsInRange (Show group profile) = IsGroup group
IsInRange (Night group readings profile) = IsGroup group × (readings ≤ 1000)

-- a function returns `Ok` with what was found in the parsed arguments, or a fault if nothing was found
abbrev pub ReadsJust : {T : Type 0} → Option T → Result T LineFault → Type 0
ReadsJust (Some read) (Ok answer) = answer ≡ read
ReadsJust (Some read) (Err fault) = ⊥
ReadsJust None (Ok answer) = ⊥
ReadsJust None (Err fault) = ⊤

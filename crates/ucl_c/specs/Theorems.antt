-- What holds of the numbers of faults, and of how long screens are.
use Rattle.std.specs.Prelude.{◌≡◌, ◌<◌, ◌≤◌, ◌^◌, ℕ, ◌++◌, List, length, Some, codes, decimal}
use Rattle.ucl_board.specs.Words.{AreWords}
use Rattle.ucl_order.specs.declared.profile.Profile.{Profile}
use Rattle.ucl_order.specs.Roster.{IsRoster, NamedClub}
use Rattle.ucl_screen.specs.declared.fault.InputFault.{InputFault}
use Rattle.ucl_screen.specs.declared.fault.InputFault.TheVariants as input
use Rattle.ucl_screen.specs.Screen.{IsGroup, screen_text}
use Rattle.ucl_screen.specs.Texts.{input_fault_text}
use Rattle.ucl_json.specs.Lines.{json_line}
use Rattle.ucl_json.specs.Values.{bad_row_value, bad_value, screen_value}
use Rattle.ucl_c.specs.declared.fault.Fault.TheVariants.{BadRow, OutOfMemory}
use Rattle.ucl_c.specs.Faults.{fault_code, name_of_status, of_input}

-- the line that the programs write for this fault of their input has the number that calls of C return for it
pub record IsWrittenByNumber (fault : InputFault) : Type 0 where
  pub place : List ℕ
  pub written : input_fault_text fault ≡ codes "input refused " ++ decimal (fault_code (of_input fault)) ++ codes ": " ++ place

-- the line for this fault of an input, or for lack of memory, has the number that C has for it; no call of C reads from a source that fails
abbrev pub IsWrittenAsTold : InputFault → Type 0
IsWrittenAsTold (input.ReadFailed bytes) = Unit {0}
IsWrittenAsTold input.OutOfMemory = input_fault_text input.OutOfMemory ≡ codes "out of memory " ++ decimal (fault_code OutOfMemory)
IsWrittenAsTold fault = IsWrittenByNumber fault

-- the answer of `ucl_live` to a bad row of its input has the number and the name that this fault has for C
pub record IsAnsweredByName (row : ℕ) : Type 0 where
  pub name : List ℕ
  pub named : name_of_status (fault_code (BadRow row)) ≡ Some name
  pub answered : (field text : List ℕ) → bad_row_value row field text ≡ bad_value row (fault_code (BadRow row)) name field text

-- the programs write each fault of an input under the number that it has for C, and answer each bad row by that number and its name
pub record FaultsAreWrittenByNumber : Type 0 where
  pub inputs : (fault : InputFault) → IsWrittenAsTold fault
  pub rows : (row : ℕ) → IsAnsweredByName row

-- the screen of any board has at most 296 bytes, and the line of JSON that answers a row with it at most 1,423
pub record ScreensAreShort : Type 0 where
  pub text : (profile : Profile) (board : List ℕ) (roster : List NamedClub) (group : ℕ) → AreWords board → IsRoster roster → length (screen_text profile board roster group) ≤ 296
  pub line : (row : ℕ) (profile : Profile) (board : List ℕ) (roster : List NamedClub) (group : ℕ) → row < 2 ^ 64 → AreWords board → IsRoster roster → IsGroup group
      → length (json_line (screen_value row profile board roster group)) ≤ 1423

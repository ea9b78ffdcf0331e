-- What an input means, a script or a sheet, and how results of the code compare with that.
use Rattle.std.specs.Prelude.{◌≡◌, ⊤, ℕ, List, Result, Ok, Err}
use Rattle.ucl_board.specs.Words.{read_words}
use Rattle.ucl_screen.specs.declared.fault.InputFault.{InputFault}
use Rattle.ucl_screen.specs.declared.fault.InputFault.TheVariants.{BadWordAt, OutOfMemory}
use Rattle.ucl_screen.specs.declared.night.Night.{Night}
use Rattle.ucl_screen.specs.declared.sheet.Sheet.{Sheet}
use Rattle.ucl_screen.specs.Script.{Script, WrittenSheet, night_of, sheet_of}

-- what contracts see of a script as the code holds it: its clubs and its events
abbrev pub night_seen : Night → Script
night_seen night = record { clubs = night.roster; events = night.events.items }

-- what contracts see of a sheet as the code holds it: its clubs and the words of its board
abbrev pub sheet_seen : Sheet → WrittenSheet
sheet_seen sheet = record { clubs = sheet.roster; words = sheet.board }

-- the bytes of an input mean this script, or have this as their first fault
abbrev pub MeansNight : List ℕ → Result Script InputFault → Type 0
MeansNight bytes night = night_of bytes ≡ night

-- the sheet as it was written, `said`, is this sheet once its words are tested: each is read as a word of the present layout; or the fault
-- is BadWordAt with the index of the first word of neither layout; or `said` is a fault already
abbrev pub Tested : Result WrittenSheet InputFault → Result WrittenSheet InputFault → Type 0
Tested said (Ok sheet) = (written : WrittenSheet) × (said ≡ Ok written) × (sheet.clubs ≡ written.clubs) × (read_words 1 written.words ≡ Ok sheet.words)
Tested said (Err (BadWordAt index)) = (sheet : WrittenSheet) × (said ≡ Ok sheet) × (read_words 1 sheet.words ≡ Err index)
Tested said (Err fault) = said ≡ Err fault

-- the bytes of an input mean this sheet once its words are tested, or have this as their first fault
abbrev pub MeansSheet : List ℕ → Result WrittenSheet InputFault → Type 0
MeansSheet bytes sheet = Tested (sheet_of bytes) sheet

-- `fault`, which the code returns, is the fault that the definition gives, `said`; or memory ran out, which can come in place of any answer
abbrev pub Refuses : {Y : Type 0} → InputFault → Result Y InputFault → Type 0
Refuses OutOfMemory said = ⊤
Refuses fault said = said ≡ Err fault

-- the code returns what the definition gives, `said`, or memory ran out; `view` maps a value of the code to one of the definition
abbrev pub AnswersAsSaid : {X Y : Type 0} → (X → Y) → Result X InputFault → Result Y InputFault → Type 0
AnswersAsSaid view (Ok x) said = said ≡ Ok (view x)
AnswersAsSaid view (Err fault) said = Refuses fault said

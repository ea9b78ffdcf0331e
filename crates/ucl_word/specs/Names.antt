-- Numbers, names and texts of refusals; codes and names of kinds of events. Texts are lists of the codes of their characters.
use Rattle.std.specs.Prelude.{ℕ, ◌==◌, List, [], ◌∷◌, ◌++◌, codes, decimal, find, slice_get, Option, None, Some}
use Rattle.std.specs.Str.{bytes_eq}
use Rattle.ucl_word.specs.declared.event.Side.TheVariants.{Home, Away}
use Rattle.ucl_word.specs.declared.event.Kind.{Kind}
use Rattle.ucl_word.specs.declared.event.Kind.TheVariants.{KickOff, Goal, Disallow, Yellow, SecondYellow, Red, FullTime, Reopen}
use Rattle.ucl_word.specs.declared.refusal.Refusal.{Refusal}
use Rattle.ucl_word.specs.declared.refusal.Refusal.TheVariants.{Stale, Finished, NotFinished, NotStarted, AlreadyStarted, NumberFull, NoGoal, NoCaution}
use Rattle.ucl_word.specs.declared.refusal.Refusal.TheVariants.{LimitReached}

-- the number that stands for a refusal of an event, 1 to 9
abbrev pub refusal_code : Refusal → ℕ
refusal_code (Stale found) = 1
refusal_code Finished = 2
refusal_code NotStarted = 3
refusal_code AlreadyStarted = 4
refusal_code NumberFull = 5
refusal_code NoGoal = 6
refusal_code NoCaution = 7
refusal_code LimitReached = 8
refusal_code NotFinished = 9

-- the name of a refusal of an event, as it is written in texts
abbrev pub refusal_name : Refusal → List ℕ
refusal_name (Stale found) = codes "stale"
refusal_name Finished = codes "finished"
refusal_name NotStarted = codes "not-started"
refusal_name AlreadyStarted = codes "already-started"
refusal_name NumberFull = codes "number-full"
refusal_name NoGoal = codes "no-goal"
refusal_name NoCaution = codes "no-caution"
refusal_name LimitReached = codes "limit-reached"
refusal_name NotFinished = codes "not-finished"

-- each refusal of an event once; that of a stale event holds the event number `found`
abbrev pub refusals : ℕ → List Refusal
refusals found = Stale found ∷ Finished ∷ NotStarted ∷ AlreadyStarted ∷ NumberFull ∷ NoGoal ∷ NoCaution ∷ LimitReached ∷ NotFinished ∷ []

-- the refusal whose number is `code`, or none if there is none; that of a stale event holds the event number `found`
abbrev pub refusal_with : ℕ → ℕ → Option Refusal
refusal_with code found = find (λ refusal. refusal_code refusal == code) (refusals found)

-- the event number that the match was found to have, if this is the refusal of a stale event; else none
abbrev pub found_of : Refusal → Option ℕ
found_of (Stale found) = Some found
found_of _ = None

-- the end of a refusal's text: a space and the event number that was found, if one was
abbrev pub found_text : Option ℕ → List ℕ
found_text None = []
found_text (Some found) = codes " " ++ decimal found

-- what a refusal is written as: its number, its name, and the event number found if it is stale, as in `1 stale 6`
abbrev pub refusal_text : Refusal → List ℕ
refusal_text refusal = decimal (refusal_code refusal) ++ codes " " ++ refusal_name refusal ++ found_text (found_of refusal)

-- the name of a kind of event, as it is written in an event file
abbrev pub kind_name : Kind → List ℕ
kind_name KickOff = codes "kickoff"
kind_name (Goal Home) = codes "goal-home"
kind_name (Goal Away) = codes "goal-away"
kind_name (Disallow Home) = codes "disallow-home"
kind_name (Disallow Away) = codes "disallow-away"
kind_name (Yellow Home) = codes "yellow-home"
kind_name (Yellow Away) = codes "yellow-away"
kind_name (SecondYellow Home) = codes "second-yellow-home"
kind_name (SecondYellow Away) = codes "second-yellow-away"
kind_name (Red Home) = codes "red-home"
kind_name (Red Away) = codes "red-away"
kind_name FullTime = codes "fulltime"
kind_name Reopen = codes "reopen"

-- each kind of event, in the order of their codes 0 to 12
abbrev pub kinds : List Kind
kinds =
    KickOff ∷ Goal Home ∷ Goal Away ∷ Disallow Home ∷ Disallow Away ∷ Yellow Home ∷ Yellow Away
    ∷ SecondYellow Home ∷ SecondYellow Away ∷ Red Home ∷ Red Away ∷ FullTime ∷ Reopen ∷ []

-- the kind of event with this code, or none if the code is over 12
abbrev pub kind_with : ℕ → Option Kind
kind_with code = slice_get kinds code

-- the kind of event with this name, or none if no kind has it
unfoldable pub kind_named : List ℕ → Option Kind
kind_named name = find (λ kind. bytes_eq name (kind_name kind)) kinds

-- Names and codes of the profiles. A code is the number that stands for a profile in C.
use Rattle.std.specs.Prelude.{ℕ, List, [], ◌∷◌, codes, find, slice_get, Option}
use Rattle.std.specs.Str.{bytes_eq}
use Rattle.ucl_order.specs.declared.profile.Profile.{Profile}
use Rattle.ucl_order.specs.declared.profile.Profile.TheVariants.{Uefa, AwayInTie}

-- the name of a profile, by which a command line or a row of input gives it
abbrev pub profile_name : Profile → List ℕ
profile_name Uefa = codes "uefa"
profile_name AwayInTie = codes "away-in-tie"

-- the profiles, by their codes 0 and 1
abbrev pub profiles : List Profile
profiles = Uefa ∷ AwayInTie ∷ []

-- the profile with this code, 0 or 1; None for any other code
abbrev pub profile_with : ℕ → Option Profile
profile_with code = slice_get profiles code

-- the profile with this name; None if no profile has it
abbrev pub profile_named : List ℕ → Option Profile
profile_named name = find (λ profile. bytes_eq name (profile_name profile)) profiles

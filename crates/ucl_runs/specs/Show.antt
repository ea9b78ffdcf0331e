-- The text of `show`, which is the screen of a sheet; and the style in which a night shows its boards.
use Rattle.std.specs.Prelude.{◌≡◌, ℕ, List, Ok}
use Rattle.ucl_order.specs.declared.profile.Profile.{Profile}
use Rattle.ucl_order.specs.Roster.{NamedClub}
use Rattle.ucl_screen.specs.Script.{WrittenSheet}
use Rattle.ucl_screen.specs.Parsing.{MeansSheet}
use Rattle.ucl_screen.specs.Screen.{screen_text}

-- the bytes of an input are a sheet, and this text is its screen, for a group, by the rules of the profile
pub record IsShown (profile : Profile) (group : ℕ) (bytes text : List ℕ) : Type 0 where
  pub sheet : WrittenSheet
  pub means : MeansSheet bytes (Ok sheet)
  pub text_is : text ≡ screen_text profile sheet.words sheet.clubs group

-- how the boards of a night are shown: the tie-break rules, the clubs, and the letter of their group
pub record Style : Type 0 where
  pub profile : Profile
  pub roster : List NamedClub
  pub group : ℕ

-- the style that shows boards with this profile, these clubs and this letter of a group
abbrev pub styled : Profile → List NamedClub → ℕ → Style
styled profile roster group = record { profile = profile; roster = roster; group = group }

-- the text of the screen of a board, by the tie-break rules of this style and with its clubs and group
abbrev pub styled_screen : Style → List ℕ → List ℕ
styled_screen style board = screen_text style.profile board style.roster style.group

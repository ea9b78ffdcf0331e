-- The letter of a group that is asked for.
use Rattle.std.proofs.Common.{◌≡◌, ℕ, true, refl, Some, le-leb, leb-true}
use Rattle.std.proofs.lemmas.Bool.{and_parts}
use Rattle.std.specs.Prelude.{nat_le}
use Rattle.ucl_screen.specs.Screen.{IsGroup}
use Rattle.ucl_command.specs.Groups.{may_be_asked}

-- a letter of a group, A to H, may be asked for
pub letter_asked : (group : ℕ) → IsGroup group → may_be_asked (Some group) ≡ true
letter_asked group is = rw (le-leb 65 group is.0, le-leb group 72 is.1) refl

-- a byte that may be asked for as a group is a letter from A to H
pub asked_letter : (group : ℕ) → may_be_asked (Some group) ≡ true → IsGroup group
asked_letter group asked = let p = and_parts (nat_le 65 group) (nat_le group 72) asked in (leb-true 65 group p.0, leb-true group 72 p.1)

-- The group that the arguments of a program may ask for, as the ASCII code of its letter.
use Rattle.std.specs.Prelude.{ℕ, ◌&&◌, nat_le, Bool, true, Option, None, Some}

-- whether arguments ask for no group, or for one of the letters A (65) to H (72)
abbrev pub may_be_asked : Option ℕ → Bool
may_be_asked None = true
may_be_asked (Some group) = nat_le 65 group && nat_le group 72

-- The clubs of a group, and which clubs a roster takes in.
use Rattle.std.specs.Prelude.{◌≡◌, ℕ, ◌+◌, ◌-◌, ◌&&◌, nat_le, Bool, true, if◌then◌else◌, List, [], ◌∷◌, All, length, map, slice_index_or, Option, Some, None}
use Rattle.std.specs.List.{list_all}
use Rattle.ucl_order.specs.declared.roster.Club.{Club}
use Rattle.ucl_order.specs.declared.roster.LentClub.{LentClub}
use Rattle.ucl_order.specs.declared.roster.Member.{Member}

-- a club: the bytes of its name, and its coefficient
pub record NamedClub : Type 0 where
  pub name : List ℕ
  pub coefficient : ℕ

-- the club with this name and coefficient
abbrev pub named : List ℕ → ℕ → NamedClub
named name coefficient = record { name = name; coefficient = coefficient }

-- the name and the coefficient of a `Club` of the code, which owns its name
abbrev pub club_seen : Club → NamedClub
club_seen club = named club.name.items club.coefficient

-- the name and the coefficient of a `LentClub` of the code, which borrows its name
abbrev pub club_lent : LentClub → NamedClub
club_lent club = named club.name.now club.coefficient

-- the byte is printed ASCII, 0x20 to 0x7e
abbrev pub is_printed : ℕ → Bool
is_printed b = nat_le 0x20 b && nat_le b 0x7e

-- the name has 1 to 20 bytes of printed ASCII
abbrev pub is_name : List ℕ → Bool
is_name name = nat_le 1 (length name) && nat_le (length name) 20 && list_all is_printed name

-- the club is valid as one of a roster: its name has 1 to 20 bytes of printed ASCII, and its coefficient is at most 999,999
unfoldable pub is_club : NamedClub → Bool
is_club club = is_name club.name && nat_le club.coefficient 999999

-- the slot of the first club of the list that is not valid, or None if all are valid; the slots of the list count up from the one given
unfoldable pub bad_slot_from : ℕ → List NamedClub → Option ℕ
bad_slot_from slot [] = None
bad_slot_from slot (club ∷ clubs) = if is_club club then bad_slot_from (slot + 1) clubs else Some slot

-- the slot, counted from 1, of the first club of the list that is not valid, by its name or its coefficient; None if all are valid
abbrev pub bad_slot : List NamedClub → Option ℕ
bad_slot clubs = bad_slot_from 1 clubs

-- the club is valid, as a proposition: its name has 1 to 20 bytes of printed ASCII, and its coefficient is at most 999,999
abbrev pub IsClub : NamedClub → Type 0
IsClub club = is_club club ≡ true

-- the list is that of a roster: four clubs, by slot, each with a valid name and a valid coefficient
pub record IsRoster (clubs : List NamedClub) : Type 0 where
  pub four : length clubs ≡ 4
  pub each : All IsClub clubs

-- the club in a slot of the list, 1 to 4
abbrev pub club_in : List NamedClub → ℕ → NamedClub
club_in clubs slot = slice_index_or clubs (slot - 1) (record { name = []; coefficient = 0 })

-- the name of the club in a slot of the list, 1 to 4
abbrev pub name_of : List NamedClub → ℕ → List ℕ
name_of clubs slot = (club_in clubs slot).name

-- the coefficient of the club in a slot of the list, 1 to 4
abbrev pub coefficient_of : List NamedClub → ℕ → ℕ
coefficient_of clubs slot = (club_in clubs slot).coefficient

-- the coefficients of clubs, in the order of their slots
abbrev pub coefficients_in : List NamedClub → List ℕ
coefficients_in clubs = map (λ club. club.coefficient) clubs

-- the name and the coefficient of a member, which is a club as a roster of the code keeps it, with a copy of its name
abbrev pub member_seen : Member → NamedClub
member_seen member = record { name = member.name.items; coefficient = member.coefficient }

-- the names and the coefficients of members, which are clubs as a roster of the code keeps them, by slot
abbrev pub members_seen : List Member → List NamedClub
members_seen members = map member_seen members

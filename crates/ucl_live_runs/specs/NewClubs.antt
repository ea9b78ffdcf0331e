-- A club for a slot of a roster, which a row on an open board names.
use Rattle.std.specs.Prelude.{ℕ}
use Rattle.ucl_order.specs.Roster.{NamedClub}

-- a club, and the slot that it is to have
pub record ClubInSlot : Type 0 where
  pub slot : ℕ
  pub club : NamedClub

-- this club in this slot
abbrev pub club_for : ℕ → NamedClub → ClubInSlot
club_for slot club = record { slot = slot; club = club }

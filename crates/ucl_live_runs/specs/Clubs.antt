-- The clubs that the first rows of a session, a run of `ucl_live`, name by slots 1 to 4, until they are four and its board is open.
use Rattle.std.specs.Prelude.{List, [], ◌∷◌}
use Rattle.ucl_order.specs.Roster.{NamedClub, club_seen}
use Rattle.ucl_live_runs.specs.declared.phase.NamedSoFar.{NamedSoFar}
use Rattle.ucl_live_runs.specs.declared.phase.NamedSoFar.TheVariants.{NoClub, One, Three, Two}

-- the list of the clubs that are named so far, none to three, in the order of their slots from 1 on
abbrev pub clubs_in : NamedSoFar → List NamedClub
clubs_in NoClub = []
clubs_in (One first) = club_seen first ∷ []
clubs_in (Two first second) = club_seen first ∷ club_seen second ∷ []
clubs_in (Three first second third) = club_seen first ∷ club_seen second ∷ club_seen third ∷ []

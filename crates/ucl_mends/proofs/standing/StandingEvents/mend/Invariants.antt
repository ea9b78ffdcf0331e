use Rattle.ucl_mends.proofs.Common.{length, true, ◌≡◌, ◌≤◌}
use Rattle.std.specs.Vec.{vec_capacity}
use Rattle.ucl_mends.proofs.Mends.{IsInPlace}
use Rattle.ucl_mends.proofs.standing.StandingEvents.mend.Given as goal

abbrev pub invariant-loop-at : goal.invariant-loop-at
invariant-loop-at l = record {
  in_place : IsInPlace l.row l.listed l.fn.self l.self-inside.events.items l.kept l.at l.board l.left.items;
  enough : 49140 ≤ vec_capacity l.self-inside.events;
  room : l.listed ≡ true → length l.fn.self ≤ vec_capacity l.left;
}

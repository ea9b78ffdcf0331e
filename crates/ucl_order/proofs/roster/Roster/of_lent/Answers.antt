use Rattle.ucl_order.proofs.Clubs.{four_taken}
use Rattle.ucl_order.proofs.Common.{club_lent}
use Rattle.ucl_order.proofs.roster.Roster.of_lent.Goals as goal

pub returns-clause-taken : goal.returns-clause-taken
returns-clause-taken c =
    four_taken club_lent c.args.clubs.now _ _ _ _ _ _ _ _ c.told-clubs
    c.in_ok-member_lent.ensures.taken c.in_ok-member_lent-2.ensures.taken c.in_ok-member_lent-3.ensures.taken c.in_ok-member_lent-4.ensures.taken

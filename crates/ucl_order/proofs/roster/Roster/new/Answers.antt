use Rattle.ucl_order.proofs.Clubs.{four_taken}
use Rattle.ucl_order.proofs.Common.{arith, club_seen}
use Rattle.ucl_order.proofs.roster.Roster.new.Goals as goal

pub returns-clause-taken : goal.returns-clause-taken
returns-clause-taken c =
    four_taken club_seen c.args.clubs _ _ _ _ _ _ _ _ (omega arith)
    c.in_ok-member_of.ensures.taken c.in_ok-member_of-2.ensures.taken c.in_ok-member_of-3.ensures.taken c.in_ok-member_of-4.ensures.taken

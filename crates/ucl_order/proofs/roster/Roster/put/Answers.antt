use Rattle.ucl_order.proofs.Common.{All-set, IsClub, IsRoster, length-set, map-set, member_seen, members_seen, subst, sym, ◌∙◌}
use Rattle.ucl_order.proofs.roster.Roster.put.Goals as goal

pub invariant_of-self : goal.invariant_of-self
invariant_of-self c =
    let member = c.in_ok-self-inside.field-0 in
    let taken = c.in_ok-self-inside.ensures.taken in
    let old = members_seen c.self.inside.members in
    let good : IsClub (member_seen member) = subst IsClub (sym taken.1) taken.0 in
    subst IsRoster (sym (map-set member_seen c.self.inside.members c.from.result member)) (record {
      four = length-set old c.from.result (member_seen member) ∙ c.self.invariant.four;
      each = All-set IsClub old c.from.result (member_seen member) good c.self.invariant.each;
    })

use Rattle.ucl_mends.proofs.Common.{arith}
use Rattle.ucl_mends.proofs.Mends.{few}
use Rattle.ucl_mends.proofs.standing.StandingEvents.version.Goals as goal

pub overflow_cast-result : goal.overflow_cast-result
overflow_cast-result c = let most = few c.self.inside.events.items c.self.invariant.legal in omega arith

pub returns-clause-version : goal.returns-clause-version
returns-clause-version c = let most = few c.self.inside.events.items c.self.invariant.legal in rw (← c.self.view_is) (omega arith)

pub returns-clause-few : goal.returns-clause-few
returns-clause-few c = let most = few c.self.inside.events.items c.self.invariant.legal in omega arith

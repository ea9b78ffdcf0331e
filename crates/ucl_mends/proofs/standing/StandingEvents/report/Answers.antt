use Rattle.ucl_mends.proofs.Common.{arith, history_in}
use Rattle.ucl_board.specs.History.{entry_of}
use Rattle.ucl_mends.proofs.Mends.{has-room}
use Rattle.ucl_mends.proofs.standing.StandingEvents.report.Goals as goal

pub push_reserved-requires : goal.push_reserved-requires
push_reserved-requires c =
    let inside = c.self.inside in
    let legal = (c.in_ok-accepted.ensures.counted (history_in inside.events.items) c.self.invariant.legal c.self.invariant.board_is).1 in
    let room = has-room inside.events.items (entry_of c.args.event.now.reporter c.args.event.now.call) legal in
    omega arith

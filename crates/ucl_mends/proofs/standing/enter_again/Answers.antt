use Rattle.ucl_mends.proofs.Common.{IsMatch, MatchRecord, ap}
use Rattle.ucl_mends.proofs.Mends.{goes-kept, goes-refused}
use Rattle.ucl_mends.proofs.standing.enter_again.Goals as goal

pub returns-in-Ok : goal.returns-in-Ok
returns-in-Ok c =
    let event = c.args.event.now in
    let within : IsMatch event.entry.game = rw (← c.get-game.ensures.value) c.get-game.ensures.within in
    goes-kept c.args.row event c.args.board.now c.report.new.self c.if-event-row.false within _
    (ap (λ (m : MatchRecord). record { game = event.entry.game; expected = m.number; kind = event.entry.kind }) c.game.ensures.value)
    c.in-Ok.field-0 c.in-Ok.ensures.sequential c.in-Ok.ensures.counted

pub returns-in-Err : goal.returns-in-Err
returns-in-Err c =
    let event = c.args.event.now in
    let within : IsMatch event.entry.game = rw (← c.get-game.ensures.value) c.get-game.ensures.within in
    goes-refused c.args.row event c.args.board.now c.report.new.self c.if-event-row.false within _
    (ap (λ (m : MatchRecord). record { game = event.entry.game; expected = m.number; kind = event.entry.kind }) c.game.ensures.value)
    c.in-Err.refusal c.in-Err.ensures.sequential c.in-Err.ensures.unchanged

use Rattle.std.proofs.lemmas.Result.{err_from_is_err_and}
use Rattle.ucl_io.specs.Output.{outlet}
use Rattle.ucl_io.specs.Turns.{progress, rules}
use Rattle.ucl_io.proofs.Turns.{closed_by, closed_cut}
use Rattle.ucl_io.proofs.lines.LineBuffer.end.Goals as goal

pub returns-in_err-put-in-Ok-clause-closed : goal.returns-in_err-put-in-Ok-clause-closed
returns-in_err-put-in-Ok-clause-closed g c =
    let p = err_from_is_err_and c.from_residual.result c.from_residual.ensures.1 in
    let R = rules g.M.LineHandler.ends g.M.LineHandler.stops_at_end in
    let at = progress g.W.Sink.taken g.W.Sink.failed in
    let row = c.args.self.now.row in
    let answered = rw c.as_slice.ensures.value at c.in-Ok.ensures.answers in
    rw (p.1, p.2) (closed_cut _ _ R (at row c.args.handler.now c.args.self.now.output c.args.sink.now) (at row c.end.new.self c.put.new.self c.put.new.sink) c.args.self.now.begun.items
    c.text.result.now _ (rw c.text.ensures answered) c.in_err-put-in-Ok.ensures)

pub returns-in_ok-put-in-Ok-clause-closed : goal.returns-in_ok-put-in-Ok-clause-closed
returns-in_ok-put-in-Ok-clause-closed g c =
    let R = rules g.M.LineHandler.ends g.M.LineHandler.stops_at_end in
    let at = progress g.W.Sink.taken g.W.Sink.failed in
    let row = c.args.self.now.row in
    let answered = rw c.as_slice.ensures.value at c.in-Ok.ensures.answers in
    let mid = outlet g.W.Sink.taken g.W.Sink.failed c.put.new.self c.put.new.sink in
    closed_by _ _ R (at row c.args.handler.now c.args.self.now.output c.args.sink.now) (at row c.end.new.self c.flush.new.self c.flush.new.sink) mid c.args.self.now.begun.items
    c.text.result.now c.flush.result (rw c.text.ensures answered) c.in_ok-put-in-Ok.ensures c.flush.ensures.put c.flush.ensures.empty

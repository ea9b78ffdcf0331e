use Rattle.std.proofs.Common.{[], ap, ◌∙◌}
use Rattle.std.proofs.lemmas.Result.{err_from_is_err_and}
use Rattle.ucl_io.specs.Output.{Waiting, outlet}
use Rattle.ucl_io.proofs.Puts.{given_after, put_then, short_within}
use Rattle.ucl_io.proofs.output.Output.put.Goals as goal

pub returns-in_err-self-inside : goal.returns-in_err-self-inside
returns-in_err-self-inside g c =
    let p = err_from_is_err_and c.from_residual-in_err-self-inside.result c.from_residual-in_err-self-inside.ensures.1 in
    let at = outlet g.W.Sink.taken g.W.Sink.failed in
    let flushed = rw (c.hold.ensures.not c.if-hold.false) at c.in_ok-flush.ensures.put in
    rw (p.1, p.2) (short_within _ (at c.args.self.now c.args.sink.now) (at c.flush.new.self c.flush.new.sink) (at c.flush.new.self c.write_on.new.sink) c.args.text.now _ flushed
    c.in_ok-flush.ensures.empty c.in_err-self-inside.ensures)

pub returns : goal.returns
returns g c =
    let at = outlet g.W.Sink.taken g.W.Sink.failed in
    let held = ap (λ (x : Waiting). x.held) c.self.view_is in
    let flushed = rw (c.hold.ensures.not c.if-hold.false) at c.in_ok-flush.ensures.put in
    let given = c.in_ok-self-inside.ensures in
    put_then (at c.args.self.now c.args.sink.now) (at c.flush.new.self c.flush.new.sink) _ [] c.args.text.now flushed
    (given_after (at c.flush.new.self c.flush.new.sink) _ c.args.text.now c.in_ok-flush.ensures.empty (held ∙ c.in_ok-flush.ensures.empty) given.0 given.1 given.2)

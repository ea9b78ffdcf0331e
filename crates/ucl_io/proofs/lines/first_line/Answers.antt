use Rattle.std.proofs.Common.{arith}
use Rattle.ucl_io.proofs.Cuts.{first_line, no_feed_all}
use Rattle.ucl_io.proofs.lines.first_line.Goals as goal

pub returns-then-text-at-eq10-clause-line : goal.returns-then-text-at-eq10-clause-line
returns-then-text-at-eq10-clause-line c = first_line c.args.text.now c.loop-at.at c.loop-at-test.true c.loop-at.invariant.none c.if-text-at-eq10.true

pub returns-clause-none : goal.returns-clause-none
returns-clause-none c =
    let ended = c.loop-at-test.false in
    λ e. no_feed_all c.args.text.now (λ k below is. c.loop-at.invariant.none k (omega arith) is)

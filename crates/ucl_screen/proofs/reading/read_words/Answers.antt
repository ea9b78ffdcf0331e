use Rattle.ucl_screen.proofs.Common.{MeansSheet, err_from_is_err_and, sheet_seen}
use Rattle.ucl_screen.proofs.RowFaults.{calls-read, sheet-refused, sheet-taken, sheet-tested}
use Rattle.ucl_screen.proofs.reading.read_words.Goals as goal

pub returns-in_err-roster-clause-reads : goal.returns-in_err-roster-clause-reads
returns-in_err-roster-clause-reads g c =
    let p = err_from_is_err_and c.from_residual-in_err-roster.result c.from_residual-in_err-roster.ensures.1 in
    let r = c.in_ok-bytes.ensures.reads in
    rw (p.1, p.2) (sheet-refused c.in_err-roster.field-0.0 _ _ _ c.in_ok-bytes.bytes.items r.0 r.1 c.in_err-roster.ensures.kinds (rw c.deref.ensures.value at c.in_err-roster.ensures.gives))

pub returns-in_err-roster-clause-each : goal.returns-in_err-roster-clause-each
returns-in_err-roster-clause-each g c =
    calls-read MeansSheet sheet_seen _ (g.S.Source.left c.read_all.new.source) (g.S.Source.failed c.read_all.new.source) _ _ _
    c.in_ok-bytes.ensures.reads.0 (returns-in_err-roster-clause-reads g c) c.in_ok-bytes.ensures.each

pub returns-clause-reads : goal.returns-clause-reads
returns-clause-reads g c =
    let r = c.in_ok-bytes.ensures.reads in
    let said = rw c.deref.ensures.value at c.in_ok-roster.ensures.gives in
    sheet-tested (record { clubs = c.in_ok-roster.roster; words = c.in_ok-roster.words }) c.in-Err.bad.index
    (g.S.Source.left c.args.source.now) (g.S.Source.left c.read_all.new.source) (g.S.Source.failed c.read_all.new.source) c.in_ok-bytes.bytes.items r.0 r.1 said c.in-Err.ensures.refused

pub returns-in-Ok-clause-reads : goal.returns-in-Ok-clause-reads
returns-in-Ok-clause-reads g c =
    let r = c.in_ok-bytes.ensures.reads in
    let said = rw c.deref.ensures.value at c.in_ok-roster.ensures.gives in
    sheet-taken _ c.in_ok-roster.words
    (g.S.Source.left c.args.source.now) (g.S.Source.left c.read_all.new.source) (g.S.Source.failed c.read_all.new.source) c.in_ok-bytes.bytes.items r.0 r.1 said c.in-Ok.ensures.board

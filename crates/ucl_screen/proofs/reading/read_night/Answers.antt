use Rattle.ucl_screen.proofs.Common.{MeansNight, night_seen}
use Rattle.ucl_screen.proofs.RowFaults.{calls-read, night-reads}
use Rattle.ucl_screen.proofs.reading.read_night.Goals as goal

pub returns-clause-reads : goal.returns-clause-reads
returns-clause-reads g c =
    let r = c.in_ok-bytes.ensures.reads in
    night-reads c.night_of.result _ _ _ c.in_ok-bytes.bytes.items r.0 r.1 c.night_of.ensures.kinds (rw c.deref.ensures.value at c.night_of.ensures.gives)

pub returns-clause-each : goal.returns-clause-each
returns-clause-each g c =
    calls-read MeansNight night_seen _ (g.S.Source.left c.read_all.new.source) (g.S.Source.failed c.read_all.new.source) _ _ c.night_of.result
    c.in_ok-bytes.ensures.reads.0 (returns-clause-reads g c) c.in_ok-bytes.ensures.each

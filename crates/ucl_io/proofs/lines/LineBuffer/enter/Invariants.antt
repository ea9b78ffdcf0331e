use Rattle.std.proofs.Common.{◌≡◌, ◌≤◌, ◌-◌, length}
use Rattle.ucl_io.specs.Turns.{progress, rules}
use Rattle.ucl_io.proofs.Turns.{Entered}
use Rattle.ucl_io.proofs.lines.LineBuffer.enter.Given as goal

abbrev pub invariant-lines : goal.invariant-lines
invariant-lines g l =
    let at = progress g.W.Sink.taken g.W.Sink.failed in
    record {
      ready : g.M.LineHandler.ready l.handler;
      cap : l.self.cap ≡ l.initial.self.cap;
      short : length l.self.begun.items ≤ l.self.cap;
      so_far : Entered (rules g.M.LineHandler.answers g.M.LineHandler.stops) l.initial.self.cap l.initial.self.begun.items l.bytes
          (at l.initial.self.row l.initial.handler l.initial.self.output l.initial.sink) (at l.self.row l.handler l.self.output l.sink) l.self.begun.items l.start;
    }

abbrev pub decreases-lines : goal.decreases-lines
decreases-lines g l = length l.bytes - l.start

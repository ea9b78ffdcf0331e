use Rattle.std.proofs.Common.{◌≡◌, ◌⊎◌, ◌-◌, ◌+◌, ◌^◌, ◌≤◌, length, false}
use Rattle.ucl_io.specs.Serving.{rules_of, seen}
use Rattle.ucl_io.proofs.Turns.{Standing}
use Rattle.ucl_io.proofs.driver.serve_lines.Given as goal

abbrev pub invariant-pieces : goal.invariant-pieces
invariant-pieces g l =
    let m = g.M.LineHandler in
    record {
      room : length l.piece ≡ 16384;
      ready : m.ready l.handler;
      cap : l.lines.cap ≡ l.fn.cap;
      short : length l.lines.begun.items ≤ l.fn.cap;
      so_far : Standing (rules_of m.answers m.stops m.ends m.stops_at_end) l.fn.cap (seen g.S.Source g.W.Sink) (λ time. g.S.Source.calls time.0)
          (l.initial.logged_io.source, l.initial.logged_io.sink, l.initial.handler) (l.logged_io.source, l.logged_io.sink, l.handler) l.initial.logged_io.log.times l.logged_io.log.times
          l.lines.row l.lines.begun.items l.lines.output.held l.lines.output.out;
      read : l.read ≡ length so_far.bytes;
      source_sound : (l.read ≡ 0) ⊎ (g.S.Source.failed l.logged_io.source ≡ false);
    }

abbrev pub decreases-pieces : goal.decreases-pieces
decreases-pieces g l = 2 ^ 62 + 1 - l.read

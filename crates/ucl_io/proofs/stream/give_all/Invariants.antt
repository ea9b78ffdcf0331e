use Rattle.std.proofs.Common.{◌≡◌, ◌+◌, length, ◌-◌, ◌≤◌, take}
use Rattle.std.specs.Io.KnownBytes.{Appends}
use Rattle.ucl_io.proofs.stream.give_all.Given as goal

abbrev pub invariant-loop-at : goal.invariant-loop-at
invariant-loop-at g l = record {
  within : l.at ≤ length l.text;
  moved : Appends (g.W.Sink.taken l.initial.sink) (g.W.Sink.taken l.sink) (take l.at l.text);
  sound : g.W.Sink.failed l.sink ≡ g.W.Sink.failed l.initial.sink;
  each_call : g.W.Sink.calls l.sink ≤ g.W.Sink.calls l.initial.sink + l.at;
}

abbrev pub decreases-loop-at : goal.decreases-loop-at
decreases-loop-at g l = length l.text - l.at

use Rattle.ucl_screen.proofs.Common.{Consumes, length, ◌+◌, ◌-◌, ◌≤◌}
use Rattle.ucl_screen.proofs.transfer.read_all.Given as goal

abbrev pub invariant-pieces : goal.invariant-pieces
invariant-pieces g l = record {
  within : length l.bytes.items ≤ 4194304;
  moved : Consumes (g.S.Source.left l.initial.source) (g.S.Source.left l.source) l.bytes.items;
  each_call : g.S.Source.calls l.source ≤ g.S.Source.calls l.initial.source + length l.bytes.items;
}

abbrev pub decreases-pieces : goal.decreases-pieces
decreases-pieces g l = 4194304 - length l.bytes.items

use Rattle.ucl_screen.proofs.Common.{digits_after, drop, ◌<◌, ◌^◌, ◌≡◌}
use Rattle.std.specs.Prelude.{◌≤◌, length}
use Rattle.ucl_live_runs.proofs.request.number.Given as goal

abbrev pub invariant-loop-b : goal.invariant-loop-b
invariant-loop-b l = (l.n < 10 ^ l.b-index) × (digits_after l.n (drop l.b-index l.text) ≡ digits_after 0 l.text) × (length l.text ≤ 10)

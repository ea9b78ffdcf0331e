use Rattle.ucl_live_runs.proofs.Common.{left_out_lines, take, ◌≡◌}
use Rattle.std.specs.Prelude.{string_bytes}
use Rattle.ucl_live_runs.proofs.mend_answer.left_out_lines.Given as goal

abbrev pub invariant-loop-out : goal.invariant-loop-out
invariant-loop-out l = string_bytes l.text ≡ left_out_lines (take l.out-index l.left)

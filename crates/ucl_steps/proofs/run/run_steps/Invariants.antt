use Rattle.ucl_steps.proofs.Common.{◌≡◌, ◌≤◌, length, take, Some, initial_state, after_steps, state_of}
use Rattle.ucl_steps.proofs.run.run_steps.Given as goal

abbrev pub invariant-loop-at : goal.invariant-loop-at
invariant-loop-at l = record { within : l.at ≤ length l.fn.steps; reached : after_steps (take l.at l.fn.steps) (initial_state l.fn.cast) ≡ Some (state_of l.machine) }

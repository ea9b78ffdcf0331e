use Rattle.ucl_steps.proofs.Common.{◌≡◌, List, Some, take, arith, sym, ap, ◌∙◌, add-one, take_all, slice_get-get_or, Step, initial_state, after_steps, state_of}
use Rattle.ucl_steps.proofs.Reachable.{taken_step, steps_more}
use Rattle.ucl_steps.proofs.RunLinear.{linearizable_trace}
use Rattle.ucl_steps.proofs.Runs.{words_of_trace}
use Rattle.ucl_steps.proofs.run.run_steps.Goals as goal

pub take-requires : goal.take-requires
take-requires c = (c.args.cast.now, take c.loop-at.at c.args.steps.now, c.loop-at.invariant.reached)

pub loop-at-preserved : goal.loop-at-preserved
loop-at-preserved c = search (arith, add-one, steps_more, slice_get-get_or, taken_step)

-- once the loop has ended, all steps of the list have been taken
all_taken : (c : goal.After-into_trace) → after_steps c.args.steps.now (initial_state c.args.cast.now) ≡ Some (state_of c.loop-at.machine)
all_taken c =
    ap (λ (z : List Step). after_steps z (initial_state c.args.cast.now)) (sym (take_all c.loop-at.at c.args.steps.now c.loop-at-test.false)) ∙ c.loop-at.invariant.reached

pub returns-clause-trace : goal.returns-clause-trace
returns-clause-trace c = rw (all_taken c) c.into_trace.ensures

pub returns-clause-linearizable : goal.returns-clause-linearizable
returns-clause-linearizable c = linearizable_trace c.args.cast.now c.args.steps.now (state_of c.loop-at.machine) c.into_trace.result (all_taken c) c.into_trace.ensures

pub returns-clause-words : goal.returns-clause-words
returns-clause-words c = words_of_trace c.args.cast.now c.args.steps.now (state_of c.loop-at.machine) c.into_trace.result (all_taken c) c.into_trace.ensures

pub returns-then-not-branch-clause-not_enabled : goal.returns-then-not-branch-clause-not_enabled
returns-then-not-branch-clause-not_enabled c at is = search (arith, slice_get-get_or)

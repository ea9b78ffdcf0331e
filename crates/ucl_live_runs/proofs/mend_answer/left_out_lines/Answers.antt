use Rattle.ucl_live_runs.proofs.Common.{◌∙◌}
use Rattle.ucl_live_runs.proofs.AnswerLines.{left-more}
use Rattle.ucl_live_runs.proofs.mend_answer.left_out_lines.Goals as goal

pub loop-out-preserved : goal.loop-out-preserved
loop-out-preserved c =
    left-more c.args.left.now c.loop-out.out-index c.out-item.result _ _ _ c.loop-out-test.true c.out-item.is c.in_ok-push_str.ensures.bytes c.loop-out.invariant
    (c.as_str.ensures.value ∙ c.in_ok-line.ensures.text)

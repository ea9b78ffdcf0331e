use Rattle.ucl_runs.proofs.Common.{arith}
use Rattle.ucl_runs.proofs.RunFacts.{duty_more, duty_all, first_off_duty}
use Rattle.ucl_runs.proofs.night.check_duty.Goals as goal

pub loop-index-preserved : goal.loop-index-preserved
loop-index-preserved c =
    let within = c.get.ensures.within in
    let value = c.get.ensures.value in
    let small = c.if-get-gt-LAST_ON_DUTY.false in
    duty_more c.loop-index.index c.args.rows.now c.index-rows-index.result c.loop-index-test.true c.index-rows-index.is (let low = within.0 in omega arith) (omega arith) c.loop-index.invariant

pub returns-then-get-gt-LAST_ON_DUTY : goal.returns-then-get-gt-LAST_ON_DUTY
returns-then-get-gt-LAST_ON_DUTY c =
    let value = c.get.ensures.value in
    let high = c.if-get-gt-LAST_ON_DUTY.true in
    rw c.from.ensures (first_off_duty c.loop-index.index c.args.rows.now c.index-rows-index.result c.loop-index-test.true c.index-rows-index.is c.loop-index.invariant (omega arith))

pub returns : goal.returns
returns c = duty_all c.loop-index.index c.args.rows.now c.loop-index-test.false c.loop-index.invariant

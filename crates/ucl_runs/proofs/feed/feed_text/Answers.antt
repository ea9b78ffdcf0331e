use Rattle.ucl_runs.proofs.Common.{arith, entered-all, entered-one, line_of_event, version-bound}
use Rattle.ucl_runs.proofs.feed.feed_text.Goals as goal

pub push_reply-requires : goal.push_reply-requires
push_reply-requires c = let so_far = c.loop-event.invariant.so_far in version-bound so_far.history _ _ so_far.board_is

pub loop-event-preserved : goal.loop-event-preserved
loop-event-preserved c =
    let so_far = c.loop-event.invariant.so_far in
    let entered = c.in_ok-version.ensures in
    let k = c.loop-event.invariant.row_is in record {
      row_is = omega arith;
      so_far = entered-one line_of_event c.args.events.now c.loop-event.event-index c.loop-event.row _ _ _ so_far c.event-item.result _ _ _ c.loop-event-test.true c.event-item.is
          (entered.after so_far.history so_far.board_is) (entered.line so_far.history so_far.board_is);
    }

pub returns : goal.returns
returns c =
    let whole = entered-all line_of_event c.args.events.now c.loop-event.event-index c.loop-event.row _ _ _ c.loop-event.invariant.so_far c.loop-event-test.false in
    grind (arith, whole.0, whole.1)

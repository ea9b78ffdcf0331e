use Rattle.ucl_runs.proofs.Common.{AreEntered, line_of_event, ◌+◌, ◌≡◌}
use Rattle.ucl_runs.proofs.feed.feed_text.Given as goal

abbrev pub invariant-loop-event : goal.invariant-loop-event
invariant-loop-event l = record {
  row_is : l.row ≡ 5 + l.event-index;
  so_far : AreEntered line_of_event l.events l.event-index l.row l.board l.version l.text.items;
}

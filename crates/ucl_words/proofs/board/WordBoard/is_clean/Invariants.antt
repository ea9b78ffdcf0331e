use Rattle.ucl_words.proofs.Common.{◌≡◌, ◌<◌, length, Occurs, Second, FindsAgain, Completes, history_of, reading_of}
use Rattle.ucl_words.proofs.LocalStates.{Seconds}
use Rattle.ucl_words.proofs.Readings.{Collected}
use Rattle.ucl_live_board.specs.Steps.{no_call}
use Rattle.ucl_steps.specs.declared.step.Call.TheVariants as calls
use Rattle.ucl_steps.specs.declared.trace.Reply.TheVariants as replies
use Rattle.ucl_words.proofs.board.WordBoard.is_clean.Given as goal

abbrev pub invariant-loop-checked : goal.invariant-loop-checked
invariant-loop-checked l = record {
  same : l.seat.table_id ≡ l.fn.seat.table_id;
  place : l.seat.id ≡ l.fn.seat.id;
  so_far : l.checked < 12 → Collected Second l.fn.seat.me.0 l.words l.checked l.seat.me.0
      × Seconds l.fn.seat.me.0 l.words (length (history_of l.fn.seat.me.0.log)) l.checked l.seat.me.0;
  all : l.checked ≡ 12 → FindsAgain l.fn.seat.me.0 l.words l.seat.me.0
      × Completes l.fn.seat.me.0 calls.Reading (replies.Copied (reading_of l.words)) l.seat.me.0;
  occurs : l.checked ≡ 12 → Occurs l.seat.id l.seat.me.0;
}

abbrev pub ghosts-load_again : goal.ghosts-load_again
ghosts-load_again a = record { call = no_call; seat = a.seat.now.id }

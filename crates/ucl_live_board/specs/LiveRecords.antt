-- What each call on any shared board says of its passes, in one record for each call. `old` is what contracts know of the pass before the
-- call, and `new` after it; `Continues` says what holds of a pass after each call.
use Rattle.std.specs.Prelude.{◌≡◌, Result, IfOk, IfErr}
use Rattle.ucl_word.specs.declared.event.EventCall.{EventCall}
use Rattle.ucl_word.specs.declared.event.Accepted.{Accepted}
use Rattle.ucl_word.specs.declared.refusal.Refusal.{Refusal}
use Rattle.ucl_board.specs.declared.reading.Reading.{Reading}
use Rattle.ucl_live_board.specs.Passes.{PassView, IsSound, Continues, AcceptedReport, RefusedReport, SharedReading, FullBoard, Meeting}
use Rattle.ucl_live_board.specs.Passes.{kept_pass, split_pass}

-- what `report` says of the pass that made the report, by its reply: the event was accepted, or refused with this refusal
pub record LiveReported (old : PassView) (call : EventCall) (reply : Result Accepted Refusal) (new : PassView) : Type 0 where
  pub always : Continues old new
  pub accepted : IfOk reply (λ accepted. AcceptedReport old call accepted new)
  pub refused : IfErr reply (λ refusal. RefusedReport old call refusal new)

-- what `read` and `read_own` say of the pass that read the board, and of this reading: it is a snapshot of what the pass has then seen
pub record LiveRead (old : PassView) (read : Reading) (new : PassView) : Type 0 where
  pub always : Continues old new
  pub reading : SharedReading old read new

-- what `split` says: a second pass was split off the pass `old`, which is then `new`; each has half of its share (part of the board)
pub record LiveSplit (old new second : PassView) : Type 0 where
  pub sound : IsSound old
  pub kept : new ≡ kept_pass old
  pub given : second ≡ split_pass old

-- what `enlist` says if all 255 numbers of reporters are given: the reader's pass was not made a reporter's, and came back as `new`
pub record LiveFull (old new : PassView) : Type 0 where
  pub always : Continues old new
  pub full : FullBoard old new

-- what `meet` says: the pass `old` was told all that another had seen, and is then `new`; the other is unchanged, from `first` to `then`
pub record LiveMet (first then old new : PassView) : Type 0 where
  pub sound : IsSound first
  pub always : Continues old new
  pub unchanged : then ≡ first
  pub meeting : Meeting first old new

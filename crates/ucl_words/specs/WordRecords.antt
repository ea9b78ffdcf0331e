-- What each public call of a word board promises: one record for each call, of which most begin with what every shared board says (`says`).
-- `old` is what contracts know of its pass before the call, `new` afterwards. By `occurs` some state that satisfies the invariant has the
-- pass as it is then.
use Rattle.std.specs.Prelude.{◌≡◌, ◌+◌, ◌≤◌, None, Some, Result}
use Rattle.atomic_table.specs.Seated.{TableId}
use Rattle.ucl_word.specs.declared.event.EventCall.{EventCall}
use Rattle.ucl_word.specs.declared.event.Accepted.{Accepted}
use Rattle.ucl_word.specs.declared.refusal.Refusal.{Refusal}
use Rattle.ucl_board.specs.declared.reading.Reading.{Reading}
use Rattle.ucl_steps.specs.declared.step.Call.TheVariants as calls
use Rattle.ucl_steps.specs.declared.trace.Reply.TheVariants as replies
use Rattle.ucl_steps.specs.Protocol.{report_reply}
use Rattle.ucl_steps.specs.Trails.{max_loads}
use Rattle.ucl_live_board.specs.LiveRecords.{LiveReported, LiveRead, LiveSplit, LiveFull, LiveMet}
use Rattle.ucl_live_board.specs.Passes.{Enlistment}
use Rattle.ucl_log.specs.Log.{number_of}
use Rattle.ucl_live_board.specs.Views.{count_of, first_pass, left_pass, second_pass}
use Rattle.ucl_live_board.specs.CallSteps.{MeetingSteps}
use Rattle.ucl_words.specs.WordCalls.{CompletesCall, DoneAsBefore, EnlistTries, KeepsTrail, ReportSteps, ReadingSteps}
use Rattle.ucl_live_board.specs.PossibleViews.{OccursSomewhere}
use Rattle.ucl_steps.specs.LocalState.{IsNextOfProtocol}
use Rattle.ucl_words.specs.TableInvariants.{Occurs, OccurAfterSplit, words_after}
use Rattle.ucl_words.specs.WordViews.{WordPass, pass_view_of}

-- A pass is of this board, and some state that satisfies the invariant has it.
abbrev pub IsWordPassOf : TableId → WordPass → Type 0
IsWordPassOf board pass = (pass.board ≡ board) × OccursSomewhere words_after IsNextOfProtocol pass.pass

-- What `open` promises of the first pass of a new board: it has seen and done nothing, and has the whole board to itself.
pub record WordOpened (new : WordPass) : Type 0 where
  pub fresh : new.pass ≡ first_pass
  pub occurs : Occurs new.seat new.pass

-- What a report promises: the event `call` was entered or refused, by one load and at most one compare-and-exchange of its match word. It
-- is the last call that its pass has completed, with this reply (`answers`).
pub record WordReported (old : WordPass) (call : EventCall) (reply : Result Accepted Refusal) (new : WordPass) : Type 0 where
  pub own : new.board ≡ old.board
  pub seat : new.seat ≡ old.seat
  pub says : LiveReported (pass_view_of old.pass) call reply (pass_view_of new.pass)
  pub steps : ReportSteps old.pass call reply new.pass
  pub answers : CompletesCall old.pass (calls.Event call) (report_reply reply) new.pass
  pub most : count_of new.pass ≤ count_of old.pass + 2
  pub occurs : Occurs new.seat new.pass

-- What a reading promises: `read` is a snapshot of the board, taken in a bounded number of tries, each of at most 24 loads of match words.
pub record WordRead (old : WordPass) (read : Reading) (new : WordPass) : Type 0 where
  pub own : new.board ≡ old.board
  pub seat : new.seat ≡ old.seat
  pub says : LiveRead (pass_view_of old.pass) read (pass_view_of new.pass)
  pub steps : ReadingSteps old.pass read new.pass
  pub answers : CompletesCall old.pass calls.Reading (replies.Copied read) new.pass
  pub least : count_of old.pass + 24 ≤ count_of new.pass
  pub most : count_of new.pass ≤ count_of old.pass + max_loads
  pub occurs : Occurs new.seat new.pass

-- What a split promises of the pass that it splits, `old` and then `new`, and of the `second` pass that it returns: it takes no step of the
-- log, the first keeps half of its share of the board, and the second knows as much and has the other half.
pub record WordSplit (old new second : WordPass) : Type 0 where
  pub own : (new.board ≡ old.board) × (second.board ≡ old.board)
  pub seat : new.seat ≡ old.seat
  pub says : LiveSplit (pass_view_of old.pass) (pass_view_of new.pass) (pass_view_of second.pass)
  pub kept : new.pass ≡ left_pass old.pass
  pub given : second.pass ≡ second_pass old.pass
  pub occurs : OccurAfterSplit old.pass new.pass second.pass

-- What an enlistment promises: a reader's pass became a reporter's, with a number of its own, by at most 255 compare-and-exchanges.
pub record WordEnlisted (old new : WordPass) : Type 0 where
  pub own : new.board ≡ old.board
  pub seat : new.seat ≡ old.seat
  pub enlisted : Enlistment (pass_view_of old.pass) (pass_view_of new.pass)
  pub trail : KeepsTrail old.pass new.pass
  pub tries : EnlistTries old.pass (Some (number_of new.pass.own)) new.pass
  pub does : DoneAsBefore old.pass new.pass
  pub most : count_of new.pass ≤ count_of old.pass + 255
  pub occurs : Occurs new.seat new.pass

-- What an enlistment promises if no number is left: the reader's pass comes back, and has found 255 reporters enlisted.
pub record WordFull (old new : WordPass) : Type 0 where
  pub own : new.board ≡ old.board
  pub seat : new.seat ≡ old.seat
  pub says : LiveFull (pass_view_of old.pass) (pass_view_of new.pass)
  pub trail : KeepsTrail old.pass new.pass
  pub tries : EnlistTries old.pass None new.pass
  pub does : DoneAsBefore old.pass new.pass
  pub most : count_of new.pass ≤ count_of old.pass + 255
  pub occurs : Occurs new.seat new.pass

-- What a meeting of two passes promises: the pass `old`, then `new`, has seen all events that either had seen, after one step, a load of
-- the number of reporters; the other pass, `other_old` and then `other_new`, is as it was.
pub record WordMet (other_old other_new old new : WordPass) : Type 0 where
  pub own : (other_new.board ≡ other_old.board) × (new.board ≡ old.board)
  pub seat : new.seat ≡ old.seat
  pub says : LiveMet (pass_view_of other_old.pass) (pass_view_of other_new.pass) (pass_view_of old.pass) (pass_view_of new.pass)
  pub unchanged : other_new ≡ other_old
  pub trail : KeepsTrail old.pass new.pass
  pub does : DoneAsBefore old.pass new.pass
  pub steps : MeetingSteps old.pass new.pass
  pub taken : count_of new.pass ≡ count_of old.pass + 1
  pub occurs : Occurs new.seat new.pass

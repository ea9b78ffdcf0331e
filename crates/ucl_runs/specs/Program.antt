-- What a run of `feed`, of `show` or of a night promises, and what `ucl_night` does for its arguments. A task is what a run is to do with
-- its input. Streams are a sink, and what is known of a source, at one moment of a run.
use Rattle.std.specs.Prelude.{◌≡◌, ℕ, ⊤, Bool, List, All, Option, IfSome, Result, Ok, Err, IfErr, OnOk}
use mathlib.Core.List.{IsPrefix}
use Rattle.ucl_order.specs.declared.profile.Profile.{Profile}
use Rattle.ucl_screen.specs.declared.fault.InputFault.{InputFault}
use Rattle.ucl_board.specs.declared.night_event.NightEvent.{NightEvent}
use Rattle.ucl_io.specs.declared.stream.Source as reads
use Rattle.ucl_io.specs.declared.stream.Sink as writes
use Rattle.ucl_screen.specs.Input.{Reads}
use Rattle.ucl_screen.specs.Script.{Script}
use Rattle.ucl_screen.specs.Parsing.{MeansNight, MeansSheet, night_seen, sheet_seen}
use Rattle.ucl_command.specs.declared.night.Line.{Line}
use Rattle.ucl_command.specs.declared.night.Line.TheVariants.{Feed, Show, Night}
use Rattle.ucl_command.specs.declared.fault.LineFault.{LineFault}
use Rattle.ucl_rows.specs.declared.fault.RunFault.{RunFault}
use Rattle.ucl_rows.specs.declared.fault.RunFault.TheVariants.{Input, OutOfMemory, WriteFailed, NotOnDuty}
use Rattle.ucl_rows.specs.Ending.{Ended, Ends, ExitsWithoutCommand}
use Rattle.ucl_rows.specs.Faults.{IsOfOneThread}
use Rattle.ucl_runs.specs.Feed.{IsFed}
use Rattle.ucl_runs.specs.Show.{IsShown, Style, styled}
use Rattle.ucl_live_board.specs.declared.live_board.LiveBoard as boards
use Rattle.ucl_runs.specs.declared.night.NightEnd.{NightEnd}
use Rattle.ucl_runs.specs.Nights.{IsFirstOffDuty, IsNightEnd, IsOnDuty, IsWhyNoNight, night_output, settled_history}
use Rattle.ucl_io.specs.Stream.{WroteFirst}
use Rattle.ucl_rows.specs.Run.{BlamesOutput, CallsWithin, IfInput, IfWriteFailed, DistinguishesMemory, TextHas, WritesAll, WritesNothing, is_read_failed}

-- What a run promises. --

-- the specification of a run: the text that it writes for the bytes of an input; the faults that it may end with, by the bytes if known;
-- and why an input is refused, by the bytes left before and after and whether a read has failed
pub record Task : Type 1 where
  pub calls_for : List ℕ → List ℕ → Type 0
  pub may_fail : Option (List ℕ) → RunFault → Type 0
  pub refuses : Option (List ℕ) → Option (List ℕ) → Bool → InputFault → Type 0

-- the state of a run's two streams: of its source the bytes left, if known, its number of calls, and whether a read has failed; its sink
pub record Streams (W : Type 0) : Type 0 where
  pub left : Option (List ℕ)
  pub calls : ℕ
  pub read_failed : Bool
  pub sink : W

-- the state of a source and a sink: what the ghost functions `known` say of the source (bytes left, calls, failure), and the sink itself
abbrev pub streams_at : {S W : Type 0} → reads.Ghosts S → S → W → Streams W
streams_at known source sink = record { left = known.left source; calls = known.calls source; read_failed = known.failed source; sink = sink }

-- a run with this specification (`task`) ended with this result, and took its source and its sink from the state `before` to `after`
pub record IsRun {W : Type 0} (known : writes.Ghosts W) (task : Task) (before after : Streams W) (result : Result ⊤ RunFault) : Type 0 where
  pub text : WritesAll task.calls_for before.left (known.taken before.sink) (known.taken after.sink) result
  -- no other faults come
  pub kinds : IfErr result (task.may_fail before.left)
  -- why the input is refused; and that then, as if there is no memory, the sink is as it was
  pub input : IfErr result (λ f. IfInput f (task.refuses before.left after.left after.read_failed))
  pub unwritten : WritesNothing before.sink after.sink result
  -- lack of memory is not reported as a fault of the input
  pub memory : DistinguishesMemory result
  -- a failed read is reported exactly if the source has failed, and a failed write only if the sink has
  pub read_failed : after.read_failed ≡ is_read_failed result
  pub write_failed : BlamesOutput (known.failed after.sink) result
  -- a write that failed has the number of bytes of the text that went out
  pub written : IfErr result (λ f. IfWriteFailed f (λ count. TextHas task.calls_for before.left (WroteFirst (known.taken before.sink) (known.taken after.sink) count)))
  -- a run that ends well has not made the sink fail
  pub sound : OnOk result (known.failed after.sink ≡ known.failed before.sink)
  -- the source is called at most as often as the longest input has bytes, and two times more
  pub calls : CallsWithin before.calls after.calls

-- What each task is. --

-- the specification of `ucl_night feed`: for a script it writes reply lines and word lines; it fails only for its input, memory or output
abbrev pub feed_task : Task
feed_task = record {
  calls_for = IsFed;
  may_fail = λ known fault. IsOfOneThread fault;
  refuses = λ old new failed fault. Reads MeansNight night_seen old new failed (Err fault);
}

-- the specification of `ucl_night show`: for a sheet it writes the screen, by this tie-break order and for the group with this letter
abbrev pub show_task : Profile → ℕ → Task
show_task profile group = record {
  calls_for = IsShown profile group;
  may_fail = λ known fault. IsOfOneThread fault;
  refuses = λ old new failed fault. Reads MeansSheet sheet_seen old new failed (Err fault);
}

-- the bytes of an input, if they are known, are a script, and Q holds of its events
abbrev pub IsOfScript : Option (List ℕ) → (List NightEvent → Type 0) → Type 0
IsOfScript known Q = IfSome known (λ bytes. (night : Script) × MeansNight bytes (Ok night) × Q night.events)

-- The text of a night. --

-- a text is the output of a night of these rows, of reporters 1 and 2, on a board that was lent with a pass of it: the night ended as nights
-- do; the text has the last screen of each reader under its heading, and the closing screen; and both readers saw beginnings of the history
-- that the closing screen is of
pub record IsOutputOfNight {B R P : Type 0} (live : boards.Ghosts B R P) (lent : B) (pass : R) (rows : List NightEvent) (style : Style) (readings : ℕ) (text : List ℕ) : Type 0 where
  pub duty : All IsOnDuty rows
  pub end : NightEnd R P
  pub ends : IsNightEnd live lent pass rows style readings end
  pub text_is : text ≡ night_output end.last end.closing
  pub saw_1 : IsPrefix (live.reader end.reader_1).seen (settled_history live lent pass rows style readings end)
  pub saw_2 : IsPrefix (live.reader end.reader_2).seen (settled_history live lent pass rows style readings end)

-- a night over a live board, which was opened with its first pass: `Opens` is what is known of how that ended
module _ {B R P X : Type 0} (live : boards.Ghosts B R P) (Opens : Result (B × R) X → Type 0) where
  -- the input is a script of reporters 1 and 2, and this is the output of a night of it on the board that was opened
  pub record IsPlayed (profile : Profile) (group readings : ℕ) (bytes text : List ℕ) : Type 0 where
    pub night : Script
    pub means : MeansNight bytes (Ok night)
    pub board : B
    pub pass : R
    pub on_it : Opens (Ok (board, pass))
    pub output : IsOutputOfNight live board pass night.events (styled profile night.clubs group) readings text

  -- the input is a script of reporters 1 and 2, and a night of it on the board that was opened ends with this fault for its cause
  pub record FailsOnBoard (known : Option (List ℕ)) (fault : RunFault) : Type 0 where
    pub rows : List NightEvent
    pub script : IsOfScript known (λ events. events ≡ rows)
    pub duty : All IsOnDuty rows
    pub board : B
    pub pass : R
    pub on_it : Opens (Ok (board, pass))
    pub why : IsWhyNoNight live board rows fault

  -- the faults of a night, by its input: the input comes first, then a row of neither reporter 1 nor 2, of which the first is reported; all others
  -- are of a script of reporters 1 and 2, but lack of memory, which may come at any place
  abbrev pub IsFaultOfNight : Option (List ℕ) → RunFault → Type 0
  IsFaultOfNight known (Input e) = ⊤
  IsFaultOfNight known OutOfMemory = ⊤
  IsFaultOfNight known (NotOnDuty row) = IsOfScript known (λ events. IsFirstOffDuty events row)
  IsFaultOfNight known (WriteFailed written) = IsOfScript known (All IsOnDuty)
  IsFaultOfNight known fault = FailsOnBoard known fault

  -- the task of a night, with its options
  abbrev pub night_task : Profile → ℕ → ℕ → Task
  night_task profile group readings = record {
    calls_for = IsPlayed profile group readings;
    may_fail = IsFaultOfNight;
    refuses = feed_task.refuses;
  }

-- What `ucl_night` does for its arguments. --

-- a run of this task took the streams from `before` to `after`, and `e` has its exit status and what went to the error sink
abbrev pub RunsTask : {W : Type 0} → writes.Ghosts W → Task → Streams W → Streams W → Ended → Type 0
RunsTask known task before after e = (r : Result ⊤ RunFault) × IsRun known task before after r × Ends r e

-- these arguments ask for `feed` or `show`, which are runs of one thread
abbrev pub IsNoNight : Line → Type 0
IsNoNight (Night group readings profile) = ⊥
IsNoNight _ = ⊤

-- how `ucl_night` ends, by its parsed arguments: it has run `feed` or `show` (not a night); or, if they ask for help, are refused, or could
-- not be read for lack of memory, it has left the source alone. `e` has the exit status and what went to the error sink
abbrev pub Runs : {W : Type 0} → writes.Ghosts W → Result Line LineFault → Streams W → Streams W → Ended → Type 0
Runs known (Ok Feed) before after e = RunsTask known feed_task before after e
Runs known (Ok (Show group profile)) before after e = RunsTask known (show_task profile group) before after e
Runs known (Ok (Night group readings profile)) before after e = ⊥
Runs known (Err fault) before after e = (after ≡ record before { sink = after.sink })
    × ExitsWithoutCommand known.failed known.taken fault before.sink after.sink e

-- how `ucl_night` ends, by its parsed arguments: a night is one on a board that is opened for it, and all else is as above
abbrev pub RunsLine : {B R P X W : Type 0} → boards.Ghosts B R P → (Result (B × R) X → Type 0) → writes.Ghosts W → Result Line LineFault → Streams W → Streams W → Ended → Type 0
RunsLine live Opens known (Ok (Night group readings profile)) before after e = RunsTask known (night_task live Opens profile group readings) before after e
RunsLine live Opens known asked before after e = Runs known asked before after e

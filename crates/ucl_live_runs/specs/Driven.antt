-- Runs of a driver, whose handler is a session or a follower. A `Device` is a source and a sink at one time: what the source has left and
-- the sink has taken, each if known, and whether the sink has failed.
use Rattle.std.specs.Io.KnownBytes.{Appends, Consumes}
use Rattle.std.specs.Prelude.{Bool, Err, IfErr, IfOk, IfSome, List, OnOk, Option, Result, length, true, ℕ}
use Rattle.ucl_io.specs.Calls.{Device, HasEnded, LogsCalls, device}
use Rattle.ucl_io.specs.declared.fault.ServeFault.{ServeFault}
use Rattle.ucl_io.specs.declared.logged_io.LoggedIo.{LoggedIo}
use Rattle.std.specs.Prelude.{◌<◌, ◌^◌, ◌≡◌, ◌⊎◌}
use Rattle.ucl_io.specs.declared.fault.ServeFault.TheVariants.{Handler, ReadFailed, TooLong, WriteFailed}
use Rattle.ucl_io.specs.Output.{StoppedShort}
use Rattle.ucl_io.specs.Serving.{is_source_failed}
use Rattle.ucl_io.specs.declared.stream.Source as reads
use Rattle.ucl_io.specs.declared.stream.Sink as writes

-- what a run that hands lines to a handler owes: the text `so_far` for the lines that end among the bytes read, `whole` for a whole input.
-- `Stops` says when the handler may stop by a fault: after these bytes, with source and sink (`Device`) so before and so after; `Ends` says
-- which value a run over a whole input may return
pub record Due (Value Fault : Type 0) : Type 1 where
  pub so_far : List ℕ → List ℕ
  pub whole : List ℕ → List ℕ
  pub Stops : List ℕ → Device → Device → Fault → Type 0
  pub Ends : Value → List ℕ → Type 0

-- the source has given these bytes (of `left`, `left_after` is left), and the sink has taken, behind `taken`, just the text `so_far bytes`
abbrev pub IsOutSoFar : (List ℕ → List ℕ) → Option (List ℕ) → Option (List ℕ) → Option (List ℕ) → Option (List ℕ) → List ℕ → Type 0
IsOutSoFar so_far left left_after taken taken_after bytes = Consumes left left_after bytes × Appends taken taken_after (so_far bytes)

-- a run returns a failed write only if the sink has failed at its end; after any other outcome the sink has failed only if it had before
abbrev pub SinkEnds : {Value Fault : Type 0} → Bool → Bool → Result Value (ServeFault Fault) → Type 0
SinkEnds failed failed_after (Err (WriteFailed written)) = failed_after ≡ true
SinkEnds failed failed_after _ = failed_after ≡ failed

module _ {Value Fault : Type 0} (due : Due Value Fault) where
  -- a run stops because the sink failed in its text: that of the lines that came, or, once the input has ended, the whole text
  pub record StopsInText (bytes : List ℕ) (old new : Device) (written : ℕ) : Type 0 where
    pub text : List ℕ
    pub text_is : (text ≡ due.so_far bytes) ⊎ (HasEnded old.left new.left × (text ≡ due.whole bytes))
    pub stopped : StoppedShort 0 new.failed old.taken new.taken text written

  -- why a run that has taken these bytes fails: the source failed after them, they are more than any input has, the sink failed, or the
  -- handler stopped. In the first two cases the text due of them is out
  abbrev pub FailsAfter : List ℕ → Device → Device → ServeFault Fault → Type 0
  FailsAfter bytes old new (ReadFailed count) = (count ≡ length bytes) × Appends old.taken new.taken (due.so_far bytes)
  FailsAfter bytes old new TooLong = (2 ^ 62 < length bytes) × Appends old.taken new.taken (due.so_far bytes)
  FailsAfter bytes old new (WriteFailed written) = StopsInText bytes old new written
  FailsAfter bytes old new (Handler fault) = due.Stops bytes old new fault

  -- a run that began with device `old` and ended with `new` took some bytes and fails by this fault
  pub record Fails (old new : Device) (fault : ServeFault Fault) : Type 0 where
    pub bytes : List ℕ
    pub consumed : Consumes old.left new.left bytes
    pub why : FailsAfter bytes old new fault

  -- a whole run had this outcome: it ended well with a value, and the text due of its input is out, or it failed, as `Fails` says
  pub record IsDriven {S W State : Type 0} (source : reads.Ghosts S) (sink : writes.Ghosts W) (before after : LoggedIo S W State) (outcome : Result Value (ServeFault Fault)) : Type 0 where
    pub text : OnOk outcome (IfSome (source.left before.source) (λ bytes. Appends (sink.taken before.sink) (sink.taken after.sink) (due.whole bytes)))
    pub ends : IfOk outcome (λ value. IfSome (source.left before.source) (due.Ends value))
    -- just before each call for bytes, also in a run that failed, what was due of all lines that had an end by then was out; and no call
    -- came after one that gave no byte
    pub prompt : LogsCalls (λ time. source.calls time.0) before.log.times after.log.times (source.calls before.source) (source.calls after.source)
        (λ time. IsOutSoFar due.so_far (source.left before.source) (source.left time.0) (sink.taken before.sink) (sink.taken time.1))
    -- a failed read is answered exactly if the source has failed, and a failed write if the sink has
    pub read_failed : source.failed after.source ≡ is_source_failed outcome
    pub sink_ends : SinkEnds (sink.failed before.sink) (sink.failed after.sink) outcome
    pub fails : IfErr outcome (Fails (device source.left sink.taken sink.failed before.source before.sink) (device source.left sink.taken sink.failed after.source after.sink))

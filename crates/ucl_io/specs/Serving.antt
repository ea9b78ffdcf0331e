-- What `serve_lines` did: it takes bytes from a source, has a handler answer each line, and gives the answers to a sink.
-- `old` and `new` are source, sink and handler before and after; D are the rules of the handler. Of a line `cap` bytes are kept.
use Rattle.std.specs.Prelude.{◌≡◌, ◌⊎◌, ℕ, ◌+◌, ◌^◌, ◌<◌, Bool, true, false, List, [], ◌++◌, length, Option, Some, None, Result, Ok, Err}
use Rattle.std.specs.Io.KnownBytes.{Appends, Consumes}
use Rattle.ucl_io.specs.declared.fault.ServeFault.{ServeFault}
use Rattle.ucl_io.specs.declared.fault.ServeFault.TheVariants.{Handler, ReadFailed, TooLong, WriteFailed}
use Rattle.ucl_io.specs.declared.logged_io.LoggedIo.{LoggedIo}
use Rattle.ucl_io.specs.Calls.{Device, HasEnded, LogsCalls, device}
use Rattle.ucl_io.specs.Lines.{begun_line, ended_lines}
use Rattle.ucl_io.specs.Output.{StoppedShort}
use Rattle.ucl_io.specs.Turns.{Rules, Turns, rules}
use Rattle.ucl_io.specs.declared.stream.Source as reads
use Rattle.ucl_io.specs.declared.stream.Sink as writes

-- the rules of a handler: what it does with a line, and, when the input has ended, with the bytes after the last line feed
pub record LineRules (M F : Type 0) : Type 1 where
  pub line : Rules M F
  pub last : Rules M F

-- the rules of a handler, from its four relations: what it answers and why it does not, for a line and for the end of the input
abbrev pub rules_of : {M F : Type 0} → (M → ℕ → List ℕ → M → List ℕ → Type 0) → (M → ℕ → List ℕ → M → F → Type 0) → (M → ℕ → List ℕ → M → List ℕ → Type 0)
    → (M → ℕ → List ℕ → M → F → Type 0) → LineRules M F
rules_of answers stops ends stops_at_end = record { line = rules answers stops; last = rules ends stops_at_end }

-- a source, a sink and a handler at one time, as contracts see them
pub record Seen (M : Type 0) : Type 0 where
  pub device : Device
  pub handler : M

-- what contracts see of `time`, a source, a sink and a handler as they are at one moment
abbrev pub seen : {S W M : Type 0} → reads.Ghosts S → writes.Ghosts W → S × W × M → Seen M
seen source sink time = record { device = device source.left sink.taken sink.failed time.0 time.1; handler = time.2 }

-- the lines that a run gave to the handler, the answers, and the handler after them; and the fault for which it has no answer to the last
pub record Given (M F : Type 0) : Type 0 where
  pub lines : List (List ℕ)
  pub text : List ℕ
  pub handler : M
  pub fault : Option F

-- at the time `now` of a run these bytes had come: just the lines that had ended among them were answered, and just their answers were out;
-- all other lines of the run were given to the handler after this time
pub record IsPromptAt {M F : Type 0} (R : Rules M F) (cap : ℕ) (old now : Seen M) (given : Given M F) (bytes : List ℕ) : Type 0 where
  pub text : List ℕ
  pub later : List (List ℕ)
  pub more : List ℕ
  pub consumed : Consumes old.device.left now.device.left bytes
  pub answered : Turns R 1 old.handler (ended_lines cap [] bytes) text now.handler None
  pub out : Appends old.device.taken now.device.taken text
  pub lines_are : given.lines ≡ ended_lines cap [] bytes ++ later
  pub text_is : given.text ≡ text ++ more
  pub goes_on : Turns R (1 + length (ended_lines cap [] bytes)) now.handler later more given.handler given.fault

-- what a run did: the bytes that it took, the lines that it gave, those that it did not, and its answer to a last line without an end
pub record Run (M F : Type 0) : Type 0 where
  pub bytes : List ℕ
  pub given : Given M F
  pub rest : List (List ℕ)
  pub last : List ℕ

-- all lines were answered
abbrev pub AnsweredAll : {M F : Type 0} → Run M F → Type 0
AnsweredAll run = (run.rest ≡ []) × (run.given.fault ≡ None)

-- the handler is in the state after the last line that the run gave to it, and no answer was given to the bytes after the last line feed
abbrev pub IsLeft : {M F : Type 0} → M → Run M F → Type 0
IsLeft m run = (m ≡ run.given.handler) × (run.last ≡ [])

-- the input has ended, all its lines were answered, and `Holds` is true of the handler after them, the number of the next line, and the
-- bytes after the last line feed, which may be none
pub record HasClosed {M F : Type 0} (cap : ℕ) (old new : Seen M) (run : Run M F) (Holds : M → ℕ → List ℕ → Type 0) : Type 0 where
  pub ended : HasEnded old.device.left new.device.left
  pub all : AnsweredAll run
  pub holds : Holds run.given.handler (1 + length (ended_lines cap [] run.bytes)) (begun_line cap [] run.bytes)

-- the bytes after the last line feed were answered
abbrev pub AnswersLast : {M F : Type 0} → LineRules M F → ℕ → Seen M → Seen M → Run M F → Type 0
AnswersLast D cap old new run = HasClosed cap old new run (λ m row begun. D.last.Answers m row begun new.handler run.last)

-- the handler has no answer to the bytes after the last line feed, for this fault
abbrev pub StopsLast : {M F : Type 0} → LineRules M F → ℕ → Seen M → Seen M → Run M F → F → Type 0
StopsLast D cap old new run fault = HasClosed cap old new run (λ m row begun. D.last.Stops m row begun new.handler fault)

-- why a run ended, by its result, and how it leaves the handler: the input has ended; the source failed, or more than 2^62 bytes came, when
-- all lines that had an end were answered; the sink failed in the answers; or the handler has no answer to a line, or to the bytes after
-- the last line feed
abbrev pub ServeEnds : {M F : Type 0} → LineRules M F → ℕ → Seen M → Seen M → Run M F → Result ℕ (ServeFault F) → Type 0
ServeEnds D cap old new run (Ok count) = (count ≡ length (ended_lines cap [] run.bytes)) × AnswersLast D cap old new run
ServeEnds D cap old new run (Err (ReadFailed count)) = (count ≡ length run.bytes) × AnsweredAll run × IsLeft new.handler run
ServeEnds D cap old new run (Err TooLong) = (2 ^ 62 < length run.bytes) × AnsweredAll run × IsLeft new.handler run
ServeEnds D cap old new run (Err (WriteFailed written)) = IsLeft new.handler run ⊎ AnswersLast D cap old new run
ServeEnds D cap old new run (Err (Handler fault)) =
    ((run.given.fault ≡ Some fault) × IsLeft new.handler run) ⊎ ((run.last ≡ []) × StopsLast D cap old new run fault)

-- the sink has taken a text whole; or the result is `WriteFailed`, the sink has failed, and it took just `written` first bytes of the text
abbrev pub IsOut : {F : Type 0} → Device → Device → List ℕ → Result ℕ (ServeFault F) → Type 0
IsOut old new text (Err (WriteFailed written)) = StoppedShort 0 new.failed old.taken new.taken text written
IsOut old new text _ = Appends old.taken new.taken text × (new.failed ≡ old.failed)

-- what a run did: it took bytes, gave the first of their lines or all to the handler, gave the answers to the sink, and ended as its result says;
-- `Prompt` holds of the lines that it gave
pub record ServedBy {M F : Type 0} (D : LineRules M F) (cap : ℕ) (old new : Seen M) (result : Result ℕ (ServeFault F)) (Prompt : Given M F → Type 0) : Type 0 where
  pub run : Run M F
  pub consumed : Consumes old.device.left new.device.left run.bytes
  pub lines_are : ended_lines cap [] run.bytes ≡ run.given.lines ++ run.rest
  pub answered : Turns D.line 1 old.handler run.given.lines run.given.text run.given.handler run.given.fault
  pub prompt : Prompt run.given
  pub out : IsOut old.device new.device (run.given.text ++ run.last) result
  pub ends : ServeEnds D cap old new run result

-- what a run over a source and a sink did, with the handler m before it and n after it. At each call for bytes, also in a run that failed,
-- just the lines that had ended by then were answered, and just their answers were out
abbrev pub Served : {S W M F : Type 0} → reads.Ghosts S → writes.Ghosts W → LineRules M F → ℕ → LoggedIo S W M → LoggedIo S W M → M → M → Result ℕ (ServeFault F) → Type 0
Served source sink D cap before after m n result =
    let old = seen source sink (before.source, before.sink, m) in
    ServedBy D cap old (seen source sink (after.source, after.sink, n)) result (λ given.
    LogsCalls (λ time. source.calls time.0) before.log.times after.log.times (source.calls before.source) (source.calls after.source)
    (λ time. IsPromptAt D.line cap old (seen source sink time) given))

-- whether the result of a run is the fault that its source failed
abbrev pub is_source_failed : {V F : Type 0} → Result V (ServeFault F) → Bool
is_source_failed (Err (ReadFailed count)) = true
is_source_failed _ = false

-- How a run ends, from what its calls return; and one step more of its loops: one reply line, one row of a script, one reading.
use Rattle.ucl_runs.proofs.Common.{All, All-more, All-push, Appends, Bool, Continues, Err, HasShown, IfErr, IfSome, Input, IsDutyTold}
use Rattle.ucl_runs.proofs.Common.{IsFaultOfNight, IsFed, IsFirstOffDuty, IsOfScript, IsOnDuty, IsOutputOfNight, IsPlayed, IsReadingOf}
use Rattle.ucl_runs.proofs.Common.{IsRun, IsShown, IsStopped, IsWhyNoNight, List, MeansNight, MeansSheet, NightEvent, None, NotOnDuty, Ok}
use Rattle.ucl_runs.proofs.Common.{OnOk, Option, OutOfMemory, PassView, Profile, Reading, Result, RunFault, Script, SharedReading, Some}
use Rattle.ucl_runs.proofs.Common.{Streams, Style, Task, TextHas, WriteFailed, [], ap, arith, begins_length, begins_through, drop, false}
use Rattle.ucl_runs.proofs.Common.{feed_text, first-event, get_or, inl, inr, length, length-append, length-take-le, night_task, refl}
use Rattle.ucl_runs.proofs.Common.{screen_text, styled, styled_screen, subst, suc, sym, take, take-append-drop, take_all, zero, ℕ, ⊎_elim}
use Rattle.ucl_runs.proofs.Common.{⊤, ◌++◌, ◌+◌, ◌-◌, ◌<◌, ◌^◌, ◌∙◌, ◌∷◌, ◌≡◌, ◌≤◌, ◌⊎◌}
use Rattle.ucl_screen.specs.Script.{WrittenSheet}
use Rattle.ucl_screen.specs.Input.{Reads}
use Rattle.ucl_screen.specs.declared.fault.InputFault.{InputFault}
use Rattle.ucl_rows.specs.Faults.{handed_on}
use Rattle.ucl_io.specs.Output.{StoppedShort}
use Rattle.ucl_io.specs.Stream.{WroteFirst}
use Rattle.ucl_rows.specs.Run.{CallsWithin, DistinguishesMemory, IfInput, IfWriteFailed, is_read_failed}
use Rattle.std.specs.List.Sorted.{IsNonDecreasing}
use Rattle.std.proofs.lemmas.List.Sorted.{IsNonDecreasingBy-push}
use Rattle.ucl_screen.specs.declared.fault.InputFault.TheVariants as input
use Rattle.ucl_live_board.specs.declared.live_board.LiveBoard as boards
use Rattle.ucl_io.specs.declared.stream.Sink as writes
use Rattle.ucl_command.specs.declared.fault.LineFault.{LineFault}
use Rattle.ucl_command.specs.declared.night.Line.{Line}
use Rattle.ucl_command.specs.declared.night.Line.TheVariants.{Night}
use Rattle.ucl_rows.specs.Ending.{Ended}
use Rattle.ucl_runs.specs.Program.{RunsLine, RunsTask}

-- if the input, as far as it is known, means this script, the text of its events is what `feed` writes for the input
pub text_of_feed : (known : Option (List ℕ)) (night : Script) (text : List ℕ)
    → IfSome known (λ bytes. MeansNight bytes (Ok night)) → text ≡ feed_text night.events → IfSome known (λ bytes. IsFed bytes text)
text_of_feed None night text means is = tt
text_of_feed (Some bytes) night text means is = record { night = night; means = means; text_is = is }

-- if the input, as far as it is known, means this sheet, its screen is the text that `show` writes for the input
pub shown : (profile : Profile) (known : Option (List ℕ)) (group : ℕ) (sheet : WrittenSheet) (text : List ℕ) → IfSome known (λ bytes. MeansSheet bytes (Ok sheet))
    → text ≡ screen_text profile sheet.words sheet.clubs group
    → IfSome known (λ bytes. IsShown profile group bytes text)
shown profile None group sheet text means is = tt
shown profile (Some bytes) group sheet text means is = record { sheet = sheet; means = means; text_is = is }

-- if the input, as far as known, calls for this text, and P holds of it if it is called for, the input calls for a text of which P holds
text-has : (CallsFor : List ℕ → List ℕ → Type 0) (known : Option (List ℕ)) (text : List ℕ) (P : List ℕ → Type 0) → IfSome known (λ bytes. CallsFor bytes text)
    → ((bytes : List ℕ) → CallsFor bytes text → P text) → TextHas CallsFor known P
text-has CallsFor None text P is h = tt
text-has CallsFor (Some bytes) text P is h = (text, is, h bytes is)

-- if a sink fails within a text of fewer than 2^64 bytes, exactly the first `written` bytes of the text went out
exact : (failed : Bool) (old new : Option (List ℕ)) (text : List ℕ) (written : ℕ) → length text < 2 ^ 64 → StoppedShort 0 failed old new text written → WroteFirst old new written text
exact failed old new text written short s =
    let cut = s.first.cut in
    let told = s.told in
    let same : written ≡ s.count = omega arith in
    rw same s.first

module _ {W : Type 0} (known : writes.Ghosts W) (task : Task) (before after : Streams W) (calls : CallsWithin before.calls after.calls) where
  -- the text was written, or the output failed within it
  pub wrote : (text : List ℕ) (r : Result ⊤ RunFault) → after.read_failed ≡ false → IfSome before.left (λ bytes. task.calls_for bytes text)
      → ((bytes : List ℕ) → task.calls_for bytes text → length text < 2 ^ 64)
      → ((written : ℕ) → task.may_fail before.left (WriteFailed written)) → OnOk r (Appends (known.taken before.sink) (known.taken after.sink) text)
      → IfErr r (IsStopped 0 (known.failed after.sink) (known.taken before.sink) (known.taken after.sink) text)
      → OnOk r (known.failed after.sink ≡ known.failed before.sink) → IsRun known task before after r
  wrote text (Ok done) reads is short may out part sound = record {
    text = text-has task.calls_for before.left text (Appends (known.taken before.sink) (known.taken after.sink)) is (λ bytes called. out);
    kinds = tt;
    input = tt;
    unwritten = tt;
    memory = λ bad. absurd (cc);
    read_failed = reads;
    write_failed = tt;
    written = tt;
    sound = sound;
    calls = calls;
  }
  wrote text (Err (WriteFailed written)) reads is short may out part sound = record {
    text = tt;
    kinds = may written;
    input = tt;
    unwritten = tt;
    memory = λ bad. absurd (cc);
    read_failed = reads;
    write_failed = part.failed_is;
    written = text-has task.calls_for before.left text (WroteFirst (known.taken before.sink) (known.taken after.sink) written) is
        (λ bytes called. exact (known.failed after.sink) (known.taken before.sink) (known.taken after.sink) text written (short bytes called) part);
    sound = tt;
    calls = calls;
  }
  wrote _ _ _ _ _ _ _ part _ = absurd part

  -- nothing was written
  pub stopped : (f : RunFault) → IfWriteFailed f (λ _. ⊥) → after.sink ≡ before.sink → after.read_failed ≡ is_read_failed {U = ⊤} (Err f) → task.may_fail before.left f
      → IfInput f (task.refuses before.left after.left after.read_failed) → DistinguishesMemory {U = ⊤} (Err f) → IsRun known task before after (Err f)
  stopped (WriteFailed written) not same reads kinds input memory = absurd not
  stopped f not same reads kinds input memory = record {
    text = tt;
    kinds = kinds;
    input = input;
    unwritten = same;
    memory = memory;
    read_failed = reads;
    write_failed = tt;
    written = tt;
    sound = tt;
    calls = calls;
  }

  -- the input was refused or could not be read, or there was no memory to read it
  pub refused : {V E : Type 0} (Means : List ℕ → Result E InputFault → Type 0) (view : V → E) (e : InputFault) → Reads Means view before.left after.left after.read_failed (Err e)
      → task.refuses before.left after.left after.read_failed e → ((fault : InputFault) → task.may_fail before.left (Input fault)) → task.may_fail before.left OutOfMemory
      → after.sink ≡ before.sink → IsRun known task before after (Err (handed_on e))
  refused Means view (input.ReadFailed n) reads why may memory same = stopped (Input (input.ReadFailed n)) tt same reads.0 (may (input.ReadFailed n)) why (λ bad. absurd (cc))
  refused Means view input.OutOfMemory reads why may memory same = stopped OutOfMemory tt same reads memory tt (λ bad. absurd (cc))
  refused Means view e reads why may memory same = stopped (Input e) tt same reads.0 (may e) why (λ bad. absurd (cc))

-- if the input, as far as it is known, is this script, and Q holds of its events, the input is a script of whose events Q holds
pub scripted : (known : Option (List ℕ)) (night : Script) (Q : List NightEvent → Type 0) → IfSome known (λ bytes. MeansNight bytes (Ok night)) → Q night.events → IsOfScript known Q
scripted None night Q means h = tt
scripted (Some bytes) night Q means h = (night, means, h)

-- if the input, as far as it is known, is this script, the output of a night of its events is what `ucl_night night` writes for the input
pub played : {B R P X : Type 0} (live : boards.Ghosts B R P) (Opens : Result (B × R) X → Type 0) (board : B) (pass : R) → Opens (Ok (board, pass))
    → (profile : Profile) (group readings : ℕ) (known : Option (List ℕ)) (night : Script) (text : List ℕ) → IfSome known (λ bytes. MeansNight bytes (Ok night))
    → IsOutputOfNight live board pass night.events (styled profile night.clubs group) readings text
    → IfSome known (λ bytes. IsPlayed live Opens profile group readings bytes text)
played live Opens board pass on_it profile group readings None night text means is = tt
played live Opens board pass on_it profile group readings (Some bytes) night text means is =
    record { night = night; means = means; board = board; pass = pass; on_it = on_it; output = is }

-- a night on a board that was opened for the script that was read
module _ {B R P X : Type 0} (live : boards.Ghosts B R P) (Opens : Result (B × R) X → Type 0) (profile : Profile) (group readings : ℕ)
    (known : Option (List ℕ)) (night : Script) (means : IfSome known (λ bytes. MeansNight bytes (Ok night))) (board : B) (pass : R) (on_it : Opens (Ok (board, pass))) where
  abbrev IsWhy : RunFault → Type 0
  IsWhy f = IsWhyNoNight live board night.events f

  -- the fault of a night that failed is one that a night may end with
  pub fault_of : (f : RunFault) → IsWhy f → IsDutyTold night.events f → IsFaultOfNight live Opens known f
  fault_of (Input e) why duty = tt
  fault_of OutOfMemory why duty = tt
  fault_of (NotOnDuty row) why duty = scripted known night (λ rows. IsFirstOffDuty rows row) means duty
  fault_of (WriteFailed n) why duty = absurd why
  fault_of f why duty = record {
    rows = night.events;
    script = scripted known night (λ rows. rows ≡ night.events) means refl;
    duty = duty;
    board = board;
    pass = pass;
    on_it = on_it;
    why = why;
  }

  -- a night that failed has written nothing
  pub failed_night : {W : Type 0} (sink : writes.Ghosts W) (w : W) (k : ℕ) (b : Bool) (after : Streams W) (f : RunFault) → CallsWithin k after.calls → after.sink ≡ w
      → after.read_failed ≡ false → IsWhy f → IsDutyTold night.events f
      → IsRun sink (night_task live Opens profile group readings) (record { left = known; calls = k; read_failed = b; sink = w }) after (Err f)
  failed_night sink w k b after (Input e) calls same reads why duty = absurd why
  failed_night sink w k b after (WriteFailed n) calls same reads why duty = absurd why
  failed_night sink w k b after f calls same reads why duty =
      stopped sink (night_task live Opens profile group readings) (record { left = known; calls = k; read_failed = b; sink = w }) after calls f tt same reads
      (fault_of f why duty) tt (λ bad. absurd (cc))

-- a night that was asked for, and ran, is what the arguments ask for
pub night_ran : {B R P X W : Type 0} (live : boards.Ghosts B R P) (Opens : Result (B × R) X → Type 0) (known : writes.Ghosts W) (asked : Result Line LineFault) (line : Line)
    (group readings : ℕ) (profile : Profile) (before after : Streams W) (e : Ended) → asked ≡ Ok line → line ≡ Night group readings profile
    → RunsTask known (night_task live Opens profile group readings) before after e → RunsLine live Opens known asked before after e
night_ran live Opens known asked line group readings profile before after e is night runs = rw (is, night) runs

-- a number from 1 to 2 is 1 or 2
one_or_two : (n : ℕ) → 1 ≤ n → n ≤ 2 → (n ≡ 1) ⊎ (n ≡ 2)
one_or_two zero low high = absurd (omega arith)
one_or_two (suc zero) low high = inl (omega arith)
one_or_two (suc (suc n)) low high = inr (omega arith)

-- if the first i rows are of reporters 1 and 2, and the next one is, so are the first i + 1
pub duty_more : (i : ℕ) (rows : List NightEvent) (row : NightEvent) → i < length rows → row ≡ get_or rows i row → 1 ≤ row.reporter → row.reporter ≤ 2
    → All IsOnDuty (take i rows) → All IsOnDuty (take (i + 1) rows)
duty_more i rows row below is low high so_far = All-more IsOnDuty rows i row below so_far (subst IsOnDuty is (one_or_two row.reporter low high))

-- if the first i rows are of reporters 1 and 2, and there are no more than i, all rows are
pub duty_all : (i : ℕ) (rows : List NightEvent) → length rows ≤ i → All IsOnDuty (take i rows) → All IsOnDuty rows
duty_all i rows past all = subst (All IsOnDuty) (take_all i rows past) all

-- if the first i events are of reporters 1 and 2, and the next is of one above 2, that is the first off duty, in row 5 + i of the script
pub first_off_duty : (i : ℕ) (rows : List NightEvent) (event : NightEvent) → i < length rows → event ≡ get_or rows i event → All IsOnDuty (take i rows)
    → 2 < event.reporter → IsFirstOffDuty rows (5 + i)
first_off_duty i rows event below is so_far high = record {
  before = take i rows;
  event = event;
  after = drop (i + 1) rows;
  rows_are = sym (take-append-drop i rows) ∙ ap (λ (rest : List NightEvent). take i rows ++ rest) (first-event i rows event below is);
  on_duty = so_far;
  off_duty = ⊎_elim (λ one. omega arith) (λ two. omega arith);
  row_is = let many : length (take i rows) ≡ i = length-take-le i rows (omega arith) in omega arith;
}

-- versions that never fall, and are at most `seen`, still never fall if one that is at least `seen` is added
pub rises_more : (versions : List ℕ) (seen version : ℕ) → IsNonDecreasing versions → All (λ v. v ≤ seen) versions → seen ≤ version → IsNonDecreasing (versions ++ version ∷ [])
rises_more versions seen version rises high low = IsNonDecreasingBy-push (λ v. v) versions version rises (λ d some. (let last = high (length versions - 1) d (omega arith) in omega arith))

-- if a reader's pass has shown so many readings, and then takes one more, of which `text` is the screen, it has shown one more, and `text`
-- is its last screen
pub shown_more : (style : Style) (k m z : PassView) (reading : Reading) (readings : ℕ) (last : Option (List ℕ)) (text : List ℕ)
    → HasShown style k m readings last → Continues m z → SharedReading m reading z → text ≡ styled_screen style reading.board
    → HasShown style k z (readings + 1) (Some text)
shown_more style k m z reading readings last text h on read is =
    let longer = begins_length k.seen m.seen h.on.seen in
    record {
      legal = on.sound.legal;
      on = record {
        seen = begins_through k.seen m.seen z.seen h.on.seen on.on.seen;
        listed = (let a = h.on.listed in let b = on.on.listed in omega arith);
        share = on.on.share ∙ h.on.share;
      };
      many = (let all = ap length read.shown in let one = length-append m.shown (reading.version ∷ []) in let before = h.many in omega arith);
      rises = subst IsNonDecreasing (sym read.shown) (rises_more m.shown (length m.seen) reading.version h.rises h.high read.low);
      low = subst (All (λ v. length k.seen ≤ v)) (sym read.shown) (All-push (λ v. length k.seen ≤ v) m.shown reading.version h.low (let low = read.low in omega arith));
      high = subst (All (λ v. v ≤ length z.seen)) (sym read.shown)
          (All-push (λ v. v ≤ length z.seen) m.shown reading.version (λ i d below. (let a = h.high i d below in let b = read.low in let c = read.high in omega arith)) read.high);
      last_is = record { before = m.shown; version = reading.version; last = read.shown; text_is = is ∙ ap (λ (r : Reading). styled_screen style r.board) read.snapshot };
    }

-- a reading that a pass, `m` and then `z`, has just taken is the last reading of the pass
pub just_read : (m z : PassView) (reading : Reading) → SharedReading m reading z → IsReadingOf z reading
just_read m z reading is = record { before = _; last = is.shown; high = is.high; snapshot = is.snapshot }

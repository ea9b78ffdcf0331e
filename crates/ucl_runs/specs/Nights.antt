-- A night: two reporters in threads enter the rows of a script on a board, while two readers show it.
use Rattle.std.specs.Prelude.{◌≡◌, ◌≢◌, ◌⊎◌, ℕ, ◌+◌, ◌<◌, ◌≤◌, ◌==◌, true, false, List, [], ◌∷◌, ◌++◌, All, length, map, take, slice_get, slice_index_or, Option}
use Rattle.std.specs.Prelude.{Some, None, filter, option_map, if◌then◌else◌, codes, String, string_bytes, ⊤, Result, IfErr, IfOk, MatchResult}
use mathlib.Core.List.{IsPrefix}
use Rattle.std.specs.List.Sorted.{IsNonDecreasing}
use Rattle.std.specs.Result.{is_ok}
use Rattle.ucl_word.specs.declared.event.EventCall.{EventCall}
use Rattle.ucl_word.specs.declared.event.Accepted.{Accepted}
use Rattle.ucl_word.specs.declared.refusal.Refusal.{Refusal}
use Rattle.ucl_board.specs.declared.entry.Entry.{Entry}
use Rattle.ucl_board.specs.declared.night_event.NightEvent.{NightEvent}
use Rattle.ucl_board.specs.History.{IsLegal, Attempt, attempted, entry_of, sequential_reply, accepted_of, board_of, snapshot_at}
use Rattle.ucl_screen.specs.Script.{first_event_row}
use Rattle.ucl_live_board.specs.declared.live_board.LiveBoard as boards
use Rattle.ucl_live_board.specs.LiveRecords.{LiveReported}
use Rattle.ucl_live_board.specs.Passes.{PassView, IsSound, SeesOn, Continues, kept_pass, split_pass}
use Rattle.ucl_live_board.specs.Settling.{AreAlone}
use Rattle.ucl_live_board.specs.Shares.{first_half, second_half}
use Rattle.ucl_rows.specs.declared.fault.RunFault.{RunFault}
use Rattle.ucl_rows.specs.declared.fault.RunFault.TheVariants.{Input, OutOfMemory, WriteFailed, NotOnDuty, NoThread, TooManyReporters, Strangers}
use Rattle.ucl_rows.specs.Faults.{HasNoNumberLeft}
use Rattle.ucl_rows.specs.Run.{MatchDuty}
use Rattle.ucl_runs.specs.declared.config.NightConfig.{NightConfig}
use Rattle.ucl_runs.specs.declared.night.NightEnd.{NightEnd}
use Rattle.ucl_runs.specs.declared.threads.Workers.{Workers}
use Rattle.ucl_runs.specs.Show.{Style, styled, styled_screen}

-- the number on the board of a reporter of a script: `first` for reporter 1, and `second` for any other, which is reporter 2
abbrev pub number_of_two : ℕ → ℕ → ℕ → ℕ
number_of_two first second reporter = if reporter == 1 then first else second

-- the attempt (an event to enter, under a number on the board) that a row of a script makes; `number` gives its reporter's number
abbrev pub attempt_by : (ℕ → ℕ) → NightEvent → Attempt
attempt_by number row = attempted (number row.reporter) row.call

-- this is reporter 1 or 2
abbrev pub IsOneOfTwo : ℕ → Type 0
IsOneOfTwo reporter = (reporter ≡ 1) ⊎ (reporter ≡ 2)

-- a row of the script is of reporter 1 or 2
abbrev pub IsOnDuty : NightEvent → Type 0
IsOnDuty row = IsOneOfTwo row.reporter

-- the events of a reporter's rows, in script order
abbrev pub calls_of : ℕ → List NightEvent → List EventCall
calls_of reporter rows = map (λ (row : NightEvent). row.call) (filter (λ (row : NightEvent). row.reporter == reporter) rows)

-- an attempt is refused after the first `point` entries of a history
pub record IsRefusedAt (history : List Entry) (attempt : Attempt) (point : ℕ) : Type 0 where
  pub within : point ≤ length history
  pub reply : is_ok (sequential_reply (take point history) attempt.call) ≡ false

-- an attempt is accepted after the first `point` entries of a history, and is the next entry
pub record IsEnteredAt (history : List Entry) (attempt : Attempt) (point : ℕ) : Type 0 where
  pub entry : slice_get history point ≡ Some (entry_of attempt.reporter attempt.call)
  pub reply : is_ok (sequential_reply (take point history) attempt.call) ≡ true

-- an attempt has its linearization point after so many entries of a history: there it is refused, or is the next entry
abbrev pub HasLinearizationPoint : List Entry → Attempt → ℕ → Type 0
HasLinearizationPoint history attempt point = IsRefusedAt history attempt point ⊎ IsEnteredAt history attempt point

-- the linearization points of two rows of one reporter: `point` ≤ `next`, and `point` < `next` if the first row's attempt is accepted
pub record ComesFirst (history : List Entry) (attempt : Attempt) (point next : ℕ) : Type 0 where
  pub never_falls : point ≤ next
  pub rises : IsEnteredAt history attempt point → point < next

-- the entry of a history at this position is that of row `index`: the row has its linearization point there, and is accepted
pub record IsOfRow (number : ℕ → ℕ) (rows : List NightEvent) (point : ℕ → ℕ) (history : List Entry) (position index : ℕ) : Type 0 where
  pub row : NightEvent
  pub here : slice_get rows index ≡ Some row
  pub point_is : point index ≡ position
  pub entered : IsEnteredAt history (attempt_by number row) position

-- the entry of a history at this position is that of exactly one row; `point i` is the linearization point of row i
pub record IsOfOneRow (number : ℕ → ℕ) (rows : List NightEvent) (point : ℕ → ℕ) (history : List Entry) (position : ℕ) : Type 0 where
  pub index : ℕ
  pub is : IsOfRow number rows point history position index
  pub alone : (other : ℕ) → IsOfRow number rows point history position other → other ≡ index

-- a history is an interleaving of rows, `number` giving their reporters' numbers: it is legal; each row has a linearization point; the
-- points of one reporter's rows never fall in script order, and rise after an accepted row; each entry is that of exactly one row
pub record IsInterleaving (number : ℕ → ℕ) (rows : List NightEvent) (history : List Entry) : Type 0 where
  pub legal : IsLegal history
  pub point : ℕ → ℕ
  pub each : (i : ℕ) (row : NightEvent) → slice_get rows i ≡ Some row → HasLinearizationPoint history (attempt_by number row) (point i)
  pub in_order : (i j : ℕ) (row next : NightEvent) → slice_get rows i ≡ Some row → slice_get rows j ≡ Some next → i < j → row.reporter ≡ next.reporter
      → ComesFirst history (attempt_by number row) (point i) (point j)
  pub one_row : (position : ℕ) → position < length history → IsOfOneRow number rows point history position

-- rows of the same match are of the same reporter
abbrev pub EachMatchHasOneReporter : List NightEvent → Type 0
EachMatchHasOneReporter rows = (i j : ℕ) (row other : NightEvent) → slice_get rows i ≡ Some row → slice_get rows j ≡ Some other → row.call.game ≡ other.call.game → row.reporter ≡ other.reporter

-- the board after all rows were entered one after the other, in script order, under these numbers of their reporters
abbrev pub night_board : (ℕ → ℕ) → List NightEvent → List ℕ
night_board number rows = board_of (accepted_of (map (attempt_by number) rows))

-- if each match has one reporter, each interleaving of the rows comes to the same board: that of the rows entered one after the other
abbrev pub ScheduleDoesNotMatter : Type 0
ScheduleDoesNotMatter = (number : ℕ → ℕ) (rows : List NightEvent) (history : List Entry) → IsInterleaving number rows history → EachMatchHasOneReporter rows →
    board_of history ≡ night_board number rows

-- the share of `lent`, a night's pass, is split: reporters' `two` has a half, `one` an eighth; readers' `left` a quarter, `right` an eighth
pub record HaveShares (lent one two left right : PassView) : Type 0 where
  pub reporter_2 : two.share ≡ second_half lent.share
  pub reader_1 : left.share ≡ second_half (first_half lent.share)
  pub reader_2 : right.share ≡ second_half (first_half (first_half lent.share))
  pub reporter_1 : one.share ≡ first_half (first_half (first_half lent.share))

-- a reporter's pass is sound (it has seen a legal history, and knows its own entries), and has entered nothing yet
abbrev pub IsFresh : PassView → Type 0
IsFresh pass = IsSound pass × (pass.mine ≡ [])

-- a reader's pass has read nothing yet, and has seen a legal history
abbrev pub IsNew : PassView → Type 0
IsNew pass = (pass.shown ≡ []) × IsLegal pass.seen

-- a text is the screen, in this style, of the board at the last of these versions: after as many first entries of the history
pub record IsScreenOfLast (style : Style) (history : List Entry) (versions text : List ℕ) : Type 0 where
  pub before : List ℕ
  pub version : ℕ
  pub last : versions ≡ before ++ version ∷ []
  pub text_is : text ≡ styled_screen style (board_of (take version history))

-- the last screen of a reader whose readings of a history had these versions; none exactly if it took no reading
abbrev pub IsLastScreen : Style → List Entry → List ℕ → Option (List ℕ) → Type 0
IsLastScreen style history versions None = versions ≡ []
IsLastScreen style history versions (Some text) = IsScreenOfLast style history versions text

-- a reader's pass, `old` and now `new`, has taken so many readings of a legal history: their versions never fall, none is below what the pass
-- had seen before or above what it has seen now, and `last` is its last screen
pub record HasShown (style : Style) (old new : PassView) (readings : ℕ) (last : Option (List ℕ)) : Type 0 where
  pub on : SeesOn old new
  pub legal : IsLegal new.seen
  pub many : length new.shown ≡ readings
  pub rises : IsNonDecreasing new.shown
  pub low : All (λ version. length old.seen ≤ version) new.shown
  pub high : All (λ version. version ≤ length new.seen) new.shown
  pub last_is : IsLastScreen style new.seen new.shown last

-- `row` is the number in the script of the first of these rows that is not of reporter 1 or 2: event i, counted from 1, is row i + 4
pub record IsFirstOffDuty (rows : List NightEvent) (row : ℕ) : Type 0 where
  pub before : List NightEvent
  pub event : NightEvent
  pub after : List NightEvent
  pub rows_are : rows ≡ before ++ event ∷ after
  pub on_duty : All IsOnDuty before
  pub off_duty : IsOnDuty event → ⊥
  pub row_is : row ≡ length before + first_event_row

-- if a night's fault is `NotOnDuty`, it names the first row not of reporter 1 or 2; if it is any other, all rows are of these two
abbrev pub IsDutyTold : List NightEvent → RunFault → Type 0
IsDutyTold rows f = MatchDuty f (IsFirstOffDuty rows) (All IsOnDuty rows)

-- the bytes of the last screen of a reader, counted from 0, in a list of the last screens of all; none if it has none there
abbrev pub last_shown : {Z : Type 0} → List (Option (String Z)) → ℕ → Option (List ℕ)
last_shown last reader = option_map string_bytes (slice_index_or last reader None)

-- the text of a reader's last screen under this heading, and nothing if it has none
abbrev pub last_text : List ℕ → Option (List ℕ) → List ℕ
last_text heading None = []
last_text heading (Some text) = heading ++ text

-- the text of a night: the last screens of both readers, if there are any, and the screen of the board at the end
abbrev pub night_text : Option (List ℕ) → Option (List ℕ) → List ℕ → List ℕ
night_text one two closing = (last_text (codes "READER 1\n") one ++ last_text (codes "READER 2\n") two) ++ (codes "FINAL\n" ++ closing)

-- the output of a night: `last` has the last screens of its two readers, and `closing` is the screen of the board at its end
abbrev pub night_output : {Y Z : Type 0} → List (Option (String Y)) → String Z → List ℕ
night_output last closing = night_text (last_shown last 0) (last_shown last 1) (string_bytes closing)

-- the style of the screens of a night: its tie-break rules, clubs and group
abbrev pub style_of : {G : Type 0} → NightConfig G → Style
style_of config = styled config.profile config.night.now.roster config.group

-- What the workers of a night are lent and hand back: a worker is a reporter or a reader, in a thread of its own. --

module _ {B R P : Type 0} (live : boards.Ghosts B R P) where
  -- one report of an event by a reporter's pass, `old` and then `new`: what every board that threads share promises of it, and what this one does
  pub record IsOneReport (old : P) (call : EventCall) (new : P) : Type 0 where
    pub reply : Result Accepted Refusal
    pub says : LiveReported (live.reporter old) call reply (live.reporter new)
    pub once : live.reported old call reply new

  -- a reporter's pass, `old` and then `new`, has reported these events, one after another and each once, whatever the replies
  abbrev pub HasReported : List EventCall → P → P → Type 0
  HasReported [] old new = new ≡ old
  HasReported (call ∷ calls) old new = (next : P) × IsOneReport old call next × HasReported calls next new

module _ {B R P : Type 0} (live : boards.Ghosts B R P) (board : B) where
  -- a reporter's pass of the board that has entered nothing yet
  abbrev pub IsFreshOn : P → Type 0
  IsFreshOn pass = live.is_reporter board pass × IsFresh (live.reporter pass)

  -- a reader's pass of the board that has shown nothing yet
  abbrev pub IsNewOn : R → Type 0
  IsNewOn pass = live.is_reader board pass × IsNew (live.reader pass)

  -- the pass of a reporter, before and after, has entered the reporter's rows of the script
  abbrev pub HasEnteredOn : {G : Type 0} → NightConfig G → P → ℕ → P → Type 0
  HasEnteredOn config old reporter new = live.is_reporter board new × HasReported live (calls_of reporter config.night.now.events.items) old new

  -- the pass of a reader, before and after, has shown its readings; beside it is its last screen
  abbrev pub HasShownOn : {G Z : Type 0} → NightConfig G → R → R × Option (String Z) → Type 0
  HasShownOn config old end = live.is_reader board end.0
      × HasShown (style_of config) (live.reader old) (live.reader end.0) config.readings (option_map string_bytes end.1)

  -- the four passes that the workers are lent are of the board, and the readers' are new
  abbrev pub AreReady : Workers P R → Type 0
  AreReady lent = live.is_reporter board lent.reporter_1 × live.is_reporter board lent.reporter_2 × IsNewOn lent.reader_1 × IsNewOn lent.reader_2

  -- the workers handed back what they were lent: the reporters have entered their rows, and each reader that found memory has shown its readings
  pub record HaveWorked {G Z E : Type 0} (config : NightConfig G) (lent : Workers P R) (back : Workers P (Result (R × Option (String Z)) E)) : Type 0 where
    pub reporter_1 : HasEnteredOn config lent.reporter_1 1 back.reporter_1
    pub reporter_2 : HasEnteredOn config lent.reporter_2 2 back.reporter_2
    pub reader_1 : IfOk back.reader_1 (HasShownOn config lent.reader_1)
    pub reader_2 : IfOk back.reader_2 (HasShownOn config lent.reader_2)

-- Why a night fails, and what it promises. --

module _ {B R P : Type 0} (live : boards.Ghosts B R P) (board : B) where
  -- the pass of a reporter was new, and has entered the reporter's rows of a night, each once, and nothing else
  pub record EnteredRowsOf (rows : List NightEvent) (reporter : ℕ) (pass : P) : Type 0 where
    pub own : live.is_reporter board pass
    pub before : P
    pub fresh : IsFreshOn live board before
    pub entered : HasReported live (calls_of reporter rows) before pass

  -- a pass that entered a reporter's rows of a night is at its end this one: it has perhaps seen more, and has entered nothing more
  pub record HasEnteredAll (rows : List NightEvent) (reporter : ℕ) (end : PassView) : Type 0 where
    pub pass : P
    pub rows_entered : EnteredRowsOf rows reporter pass
    pub always : Continues (live.reporter pass) end
    pub mine : end.mine ≡ (live.reporter pass).mine

  -- both reporters have entered their rows of a night
  pub record HaveEntered (rows : List NightEvent) : Type 0 where
    pub first : P
    pub second : P
    pub entered_1 : EnteredRowsOf rows 1 first
    pub entered_2 : EnteredRowsOf rows 2 second

  -- two reporters have entered the rows of a night, and then one of them has read this version, which is not that of their events only
  pub record FoundStrangers (rows : List NightEvent) (version : ℕ) : Type 0 where
    pub entered : HaveEntered rows
    pub last : P
    pub own : live.is_reporter board last
    pub high : version ≤ length (live.reporter last).seen
    pub met_1 : IsPrefix (live.reporter entered.first).seen (take version (live.reporter last).seen)
    pub met_2 : IsPrefix (live.reporter entered.second).seen (take version (live.reporter last).seen)
    pub others : AreAlone (live.reporter entered.first) (live.reporter entered.second) version → ⊥

  -- why a night of these rows failed, which reads no input and writes no output: no number is left, or there are strangers, only if that is
  -- so; a thread is missing only once each worker has its pass; and memory only once both reporters have entered their rows
  abbrev pub IsWhyNoNight : List NightEvent → RunFault → Type 0
  IsWhyNoNight rows (Input e) = ⊥
  IsWhyNoNight rows (WriteFailed written) = ⊥
  IsWhyNoNight rows TooManyReporters = HasNoNumberLeft live board
  IsWhyNoNight rows NoThread = (lent : Workers P R) × AreReady live board lent
  IsWhyNoNight rows OutOfMemory = HaveEntered rows
  IsWhyNoNight rows (Strangers version) = FoundStrangers rows version
  IsWhyNoNight rows (NotOnDuty row) = ⊤

-- what a night promises on the board and the pass that were lent, of these rows, in this style, if each reader takes as many readings as asked
module _ {B R P : Type 0} (live : boards.Ghosts B R P) (lent : B) (pass : R) (rows : List NightEvent) (style : Style) (asked : ℕ) where
  -- what is known of the pass of reporter 1 at the end
  abbrev pub pass_of_reporter_1 : NightEnd R P → PassView
  pass_of_reporter_1 end = live.reporter end.reporter_1

  -- what is known of the pass of reporter 2 at the end
  abbrev pub pass_of_reporter_2 : NightEnd R P → PassView
  pass_of_reporter_2 end = live.reporter end.reporter_2

  -- the numbers on the board of reporters 1 and 2 of the script
  abbrev pub numbers_of : NightEnd R P → ℕ → ℕ
  numbers_of end = number_of_two (pass_of_reporter_1 end).number (pass_of_reporter_2 end).number

  -- what the pass of reporter 2 has seen, up to the version that it read last
  abbrev pub settled_history : NightEnd R P → List Entry
  settled_history end = take end.settled.version (pass_of_reporter_2 end).seen

  -- how a night that ended well has ended
  pub record IsNightEnd (end : NightEnd R P) : Type 0 where
    -- the four passes are of the board that was lent, and the reporters' numbers differ
    pub readers : live.is_reader lent end.reader_1 × live.is_reader lent end.reader_2
    pub reporters : live.is_reporter lent end.reporter_1 × live.is_reporter lent end.reporter_2
    pub apart : (pass_of_reporter_1 end).number ≢ (pass_of_reporter_2 end).number
    -- each reporter's pass has entered the reporter's rows, each once, and nothing else
    pub entered_1 : HasEnteredAll live lent rows 1 (pass_of_reporter_1 end)
    pub entered_2 : HasEnteredAll live lent rows 2 (pass_of_reporter_2 end)
    -- the settled history is an interleaving of the rows, the settled reading is of it, and the closing screen is of that
    pub merge : IsInterleaving (numbers_of end) rows (settled_history end)
    pub settled : end.settled ≡ snapshot_at (pass_of_reporter_2 end).seen end.settled.version
    pub closing : string_bytes end.closing ≡ styled_screen style end.settled.board
    -- reporter 2's pass has seen it, both have entered just its events, and what reporter 1's pass and the lent one had seen are prefixes of it
    pub count : (end.settled.version ≤ length (pass_of_reporter_2 end).seen) × (length (pass_of_reporter_1 end).mine + length (pass_of_reporter_2 end).mine ≡ end.settled.version)
    pub beginning : IsPrefix (pass_of_reporter_1 end).seen (settled_history end)
    pub since : IsPrefix (live.reader pass).seen (settled_history end)
    -- reporter 1's pass has shown nothing, and reporter 2's only the settled version
    pub readings : ((pass_of_reporter_1 end).shown ≡ []) × ((pass_of_reporter_2 end).shown ≡ end.settled.version ∷ [])
    -- if each match has one reporter, the board is that of the rows in script order: the schedule does not matter
    pub board : EachMatchHasOneReporter rows → end.settled.board ≡ night_board (numbers_of end) rows
    -- the four passes have the whole share of the lent one
    pub shares : HaveShares (live.reader pass) (pass_of_reporter_1 end) (pass_of_reporter_2 end) (live.reader end.reader_1) (live.reader end.reader_2)
    -- what a reader showed are versions of the history that it has seen, none before what the lent pass had seen: reader 1's pass was split off the
    -- lent one after reporter 2's, and reader 2's after that
    pub shown_1 : HasShown style (split_pass (kept_pass (live.reader pass))) (live.reader end.reader_1) asked (last_shown end.last 0)
    pub shown_2 : HasShown style (split_pass (kept_pass (kept_pass (live.reader pass)))) (live.reader end.reader_2) asked (last_shown end.last 1)

  -- a night ended with this result
  pub record NightPromise (result : Result (NightEnd R P) RunFault) : Type 0 where
    -- a night reads no input and writes no output, so it has no fault of these. It answers 30 only if the board has no number left, 27 only once
    -- each worker has its pass, 23 only once both reporters have entered their rows, and 31 only if they have, and the board then has events that
    -- are not theirs, or they have one number
    pub kinds : IfErr result (IsWhyNoNight live lent rows)
    -- a row of a reporter who is not on duty is reported exactly if there is one, and the first is
    pub duty : MatchResult result (λ _. All IsOnDuty rows) (IsDutyTold rows)
    -- the rows are interleaved, the readers have shown what they read, and all passes are of the board that was lent
    pub night : IfOk result IsNightEnd

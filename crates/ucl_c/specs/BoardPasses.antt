-- What becomes of a pass of a board, or of none, in each call of C, and why a call is not done.
use Rattle.std.specs.Prelude.{ℕ, ◌≡◌, ◌&&◌, nat_le, nat_lt, if◌then◌else◌, [], ◌∷◌, Option, None, Some, unwrap_or, Result, Ok, Err}
use Rattle.atomic_table.specs.Seated.{TableId}
use Rattle.ucl_word.specs.declared.event.EventCall.{EventCall}
use Rattle.ucl_word.specs.declared.event.Accepted.{Accepted}
use Rattle.ucl_word.specs.declared.refusal.Refusal.{Refusal}
use Rattle.ucl_word.specs.Names.{found_of, kind_with, refusal_code}
use Rattle.ucl_board.specs.declared.reading.Reading.{Reading}
use Rattle.ucl_words.specs.WordRecords.{WordOpened, WordReported, WordRead, WordSplit, WordEnlisted, WordFull}
use Rattle.ucl_log.specs.Log.{number_of}
use Rattle.ucl_words.specs.WordViews.{WordPass}
use Rattle.ucl_c.specs.declared.board_pass.AnyPass.{AnyPass}
use Rattle.ucl_c.specs.declared.board_pass.AnyPass.TheVariants.{Nobody, Reader, Reporter}
use Rattle.ucl_c.specs.declared.fault.Fault.{Fault}
use Rattle.ucl_c.specs.declared.fault.Fault.TheVariants.{FullBoard, NoMatch, NoPass, NotAReader, NotAReporter, OutOfMemory}
use Rattle.ucl_c.specs.Codes.{expected_told}
use Rattle.ucl_c.specs.Faults.{first_fault, fault_of_kind, fault_of_twelve, fault_unless}

-- what a handle, a pointer for C, owns if it is not null: a counted reference to this board, and a pass of that board or none
pub record PassHeld : Type 0 where
  pub board : TableId
  pub pass : AnyPass

-- this pass is of this board, or there is no pass
abbrev pub IsPassOf : TableId → AnyPass → Type 0
IsPassOf board Nobody = Unit {0}
IsPassOf board (Reader pass) = pass.board ≡ board
IsPassOf board (Reporter pass) = pass.board ≡ board

-- What becomes of a pass. --

-- this is a reader's pass, the first of a board that was just opened
abbrev pub IsOpened : AnyPass → Type 0
IsOpened (Reader pass) = WordOpened pass
IsOpened _ = ⊥

-- the first of these passes, a reader's, was split: afterwards it is the second, and the third was split off
abbrev pub IsSplit : AnyPass → AnyPass → AnyPass → Type 0
IsSplit (Reader old) (Reader new) (Reader second) = WordSplit old new second
IsSplit _ _ _ = ⊥

-- a reader's pass, `old` before and `new` after, was split, and the second pass was turned into that of a reporter, `reporter`
pub record SplitsAndEnlists (old new reporter : WordPass) : Type 0 where
  pub second : WordPass
  pub split : WordSplit old new second
  pub enlisted : WordEnlisted second reporter

-- by the first of these passes, a reader's, a reporter was enlisted: afterwards it is the second, and the third is the reporter's pass
abbrev pub IsEnlisted : AnyPass → AnyPass → AnyPass → Type 0
IsEnlisted (Reader old) (Reader new) (Reporter reporter) = SplitsAndEnlists old new reporter
IsEnlisted _ _ _ = ⊥

-- a reader's pass, `old` before and `new` after, was split, but the second pass, `found` afterwards, got no number: all 255 are given
pub record SplitsForNone (old new : WordPass) : Type 0 where
  pub second : WordPass
  pub split : WordSplit old new second
  pub found : WordPass
  pub full : WordFull second found

-- a reporter's pass, first before and last after, made this call, and the board gave this reply: it accepted or refused the event
abbrev pub IsReported : AnyPass → EventCall → Result Accepted Refusal → AnyPass → Type 0
IsReported (Reporter old) call reply (Reporter new) = WordReported old call reply new
IsReported _ _ _ _ = ⊥

-- a reader's or a reporter's pass, first before and last after, has made this reading of the board
abbrev pub IsRead : AnyPass → Reading → AnyPass → Type 0
IsRead (Reader old) reading (Reader new) = WordRead old reading new
IsRead (Reporter old) reading (Reporter new) = WordRead old reading new
IsRead _ _ _ = ⊥

-- the pass is a reporter's and this is its number, which is worked out from its own steps on the board
abbrev pub IsNumberOf : AnyPass → ℕ → Type 0
IsNumberOf (Reporter pass) number = number ≡ number_of pass.pass.own
IsNumberOf _ number = ⊥

-- Why a call is not done. --

-- `NoPass` or `NotAReader` unless this is a reader's pass: only such a pass is split, or enlists a reporter
abbrev pub fault_of_split : AnyPass → Option Fault
fault_of_split Nobody = Some NoPass
fault_of_split (Reader pass) = None
fault_of_split (Reporter pass) = Some NotAReader

-- `NoPass` or `NotAReporter` unless this is a reporter's pass: only such a pass enters events, and has a number
abbrev pub fault_of_report : AnyPass → Option Fault
fault_of_report Nobody = Some NoPass
fault_of_report (Reader pass) = Some NotAReporter
fault_of_report (Reporter pass) = None

-- `NoPass` if there is no pass: any pass reads the board
abbrev pub fault_of_read : AnyPass → Option Fault
fault_of_read Nobody = Some NoPass
fault_of_read _ = None

-- the fault of a call that asks for memory and was not done: this one, or `OutOfMemory` if it is none
abbrev pub or_memory : Option Fault → Fault
or_memory None = OutOfMemory
or_memory (Some fault) = fault

-- why a pass, `old` before and `new` after, enlisted no reporter: for `FullBoard` all 255 numbers are given, and the pass was split and the
-- second pass lost; for any other fault the pass is unchanged, since it is no reader's or memory is lacking
abbrev pub IsNotEnlisted : Fault → AnyPass → AnyPass → Type 0
IsNotEnlisted FullBoard (Reader old) (Reader new) = SplitsForNone old new
IsNotEnlisted FullBoard _ _ = ⊥
IsNotEnlisted fault old new = (new ≡ old) × (fault ≡ or_memory (fault_of_split old))

-- the fault of an event, from the number of its match and the code of its kind: the kind is judged first, then the match
abbrev pub fault_of_call : ℕ → ℕ → Option Fault
fault_of_call game code = first_fault (fault_of_kind code ∷ fault_unless (nat_le 1 game && nat_le game 12) NoMatch ∷ [])

-- the fault of a call to enter an event, from the pass, the number of the match and the code of the kind: the event is judged first
abbrev pub fault_of_event : AnyPass → ℕ → ℕ → Option Fault
fault_of_event pass game code = first_fault (fault_of_call game code ∷ fault_of_report pass ∷ [])

-- the fault of a reading, from the pass and how many words there is room for: the room, which has to be for 12, is judged first
abbrev pub fault_of_reading : AnyPass → ℕ → Option Fault
fault_of_reading pass room = first_fault (fault_of_twelve room ∷ fault_of_read pass ∷ [])

-- What a call of C returns for the reply to an event. --

-- an event as a caller gives it: its match, how many events that had when the caller saw it last, `expected`, and the code of its kind
pub record AskedEvent : Type 0 where
  pub game : ℕ
  pub expected : ℕ
  pub code : ℕ

-- `call`, an event as a board takes it, is the event that a caller gave, `asked`
pub record IsCallOf (asked : AskedEvent) (call : EventCall) : Type 0 where
  pub kind : kind_with asked.code ≡ Some call.kind
  pub game_is : call.game ≡ asked.game
  pub expected_is : call.expected ≡ expected_told asked.expected

-- the status for a board's reply to an event: 0 if it was accepted, otherwise the number of the rule that refuses it
abbrev pub status_of_reply : Result Accepted Refusal → ℕ
status_of_reply (Ok accepted) = 0
status_of_reply (Err refusal) = refusal_code refusal

-- what a call leaves where it writes a match's event number: that number, if the event was accepted or is stale; else `before`, as it was
abbrev pub number_after : Result Accepted Refusal → ℕ → ℕ
number_after (Ok accepted) before = accepted.number
number_after (Err refusal) before = unwrap_or (found_of refusal) before

-- a reporter's pass, `old` before and `new` after, has had a reply to the event `asked`: the call returned its status, and wrote `after`,
-- the match's event number, over `before` if the reply has one
pub record IsReply (asked : AskedEvent) (old new : AnyPass) (status before after : ℕ) : Type 0 where
  pub call : EventCall
  pub is_call : IsCallOf asked call
  pub reply : Result Accepted Refusal
  pub reported : IsReported old call reply new
  pub status_is : status ≡ status_of_reply reply
  pub number_is : after ≡ number_after reply before

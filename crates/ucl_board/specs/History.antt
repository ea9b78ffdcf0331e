-- Histories: which are legal, the board after one, and the reply of a board to the next event.
use Rattle.std.specs.Prelude.{ℕ, ◌-◌, ◌==◌, List, [], ◌∷◌, ◌++◌, map, filter, take, slice_set, if◌then◌else◌, Result}
use Rattle.std.specs.List.{fold}
use Rattle.std.specs.Result.{is_ok}
use Rattle.ucl_word.specs.declared.record.MatchRecord.{MatchRecord}
use Rattle.ucl_word.specs.declared.event.EventCall.{EventCall}
use Rattle.ucl_word.specs.declared.event.Accepted.{Accepted}
use Rattle.ucl_word.specs.declared.refusal.Refusal.{Refusal}
use Rattle.ucl_word.specs.Record.{IsReporter}
use Rattle.ucl_word.specs.Layout.{word_of}
use Rattle.ucl_word.specs.Rules.{after, reply_of}
use Rattle.ucl_word.specs.Counts.{EachMay, MatchEntry, counted_match, IsAccepted}
use Rattle.ucl_board.specs.declared.entry.Entry.{Entry}
use Rattle.ucl_board.specs.declared.reading.Reading.{Reading}
use Rattle.ucl_board.specs.Fixtures.{match_numbers, IsMatch}
use Rattle.ucl_board.specs.Words.{game_at, version_of}

-- an entry without the number of its match, for lists of the entries of one match
abbrev pub of_match : Entry → MatchEntry
of_match entry = record { reporter = entry.reporter; kind = entry.kind }

-- the entries of one match in a history
abbrev pub entries_of : ℕ → List Entry → List MatchEntry
entries_of game history = map of_match (filter (λ entry. entry.game == game) history)

-- the record of a match after a history, counted from the entries of this match
abbrev pub match_after : List Entry → ℕ → MatchRecord
match_after history game = counted_match (entries_of game history)

-- the board after a history: the words of matches 1 to 12
unfoldable pub board_of : List Entry → List ℕ
board_of history = map (λ game. word_of (match_after history game)) match_numbers

-- `entry` may come next after `history`: its match has a number from 1 to 12, and accepts its event after the entries of this match
pub record MayFollow (history : List Entry) (entry : Entry) : Type 0 where
  pub game : IsMatch entry.game
  pub accepted : IsAccepted (entries_of entry.game history) (of_match entry)

-- a legal history: each entry is of a match of the group, and is accepted after the entries before it
abbrev pub IsLegal : List Entry → Type 0
IsLegal history = EachMay MayFollow history

-- a history with this entry at its end
abbrev pub followed_by : List Entry → Entry → List Entry
followed_by history entry = history ++ entry ∷ []

-- the reply to an event after a history if events are entered one after the other: accepted, or why it is refused
abbrev pub sequential_reply : List Entry → EventCall → Result Accepted Refusal
sequential_reply history call = reply_of (match_after history call.game) call

-- the reading of the board with these words: the words and their version
abbrev pub reading_of : List ℕ → Reading
reading_of words = record { board = words; version = version_of words }

-- the reading of the board as it was when the history had `point` entries: the board after these entries, with `point` as its version
abbrev pub snapshot_at : List Entry → ℕ → Reading
snapshot_at history point = record { board = board_of (take point history); version = point }

-- an attempt: an event with the number of the reporter who enters it, whether it is accepted or refused
pub record Attempt : Type 0 where
  pub reporter : ℕ
  pub call : EventCall

-- the attempt of the reporter with this number to enter this event
abbrev pub attempted : ℕ → EventCall → Attempt
attempted reporter call = record { reporter = reporter; call = call }

-- an attempt whose reporter has a number from 1 to 255, and whose match has one from 1 to 12
abbrev pub IsAttempt : Attempt → Type 0
IsAttempt attempt = IsReporter attempt.reporter × IsMatch attempt.call.game

-- the words of a board after an attempt: if the event is accepted, the word of its match is that of the record after it; else they stay
abbrev pub board_after : List ℕ → Attempt → List ℕ
board_after words attempt =
    let game = game_at words attempt.call.game in
    if is_ok (reply_of game attempt.call)
    then slice_set words (attempt.call.game - 1) (word_of (after game attempt.reporter attempt.call.kind)) else words

-- the entry of an accepted event: its match and kind, with the number of the reporter who entered it
abbrev pub entry_of : ℕ → EventCall → Entry
entry_of reporter call = record { game = call.game; reporter = reporter; kind = call.kind }

-- a history after an attempt: with the event's entry at its end if the event is accepted, else as it was
abbrev pub after_attempt : List Entry → Attempt → List Entry
after_attempt history attempt =
    if is_ok (sequential_reply history attempt.call) then followed_by history (entry_of attempt.reporter attempt.call) else history

-- the history of the accepted ones of these attempts, made one after the other on the fresh board
abbrev pub accepted_of : List Attempt → List Entry
accepted_of attempts = fold after_attempt [] attempts

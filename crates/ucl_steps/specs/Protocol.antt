-- The snapshot protocol: what a caller holds between two steps on match words, and what comes of each step.
-- A report loads a word (Look), then replaces it by a compare-and-exchange (Swap). A reading loads all words (First), then all again
-- (Second), and begins anew if they differ.
use Rattle.std.specs.Prelude.{ℕ, ◌+◌, ◌==◌, if◌then◌else◌, List, [], ◌∷◌, ◌++◌, length, Option, Some, None, Result, Ok, Err, slice_index}
use Rattle.ucl_word.specs.declared.event.EventCall.{EventCall}
use Rattle.ucl_word.specs.declared.event.Accepted as event
use Rattle.ucl_word.specs.declared.refusal.Refusal.{Refusal}
use Rattle.ucl_word.specs.declared.refusal.Refusal.TheVariants.{Stale}
use Rattle.ucl_word.specs.Record.{IsReporter}
use Rattle.ucl_word.specs.Rules.{refusal_of, after}
use Rattle.ucl_word.specs.Layout.{word_of, record_at}
use Rattle.ucl_board.specs.Fixtures.{IsMatch}
use Rattle.ucl_board.specs.History.{reading_of}
use Rattle.ucl_steps.specs.declared.step.Call.{Call}
use Rattle.ucl_steps.specs.declared.step.Call.TheVariants.{Event, Reading}
use Rattle.ucl_steps.specs.declared.trace.Reply.{Reply}
use Rattle.ucl_steps.specs.declared.trace.Reply.TheVariants.{Accepted, Refused, Copied}

-- What a caller holds between two steps on match words. NoCall: nothing, since no call is under way. Holding: the event of a report, the
-- word that it loaded, and the one that is to take its place. Collecting: the words that a reading's first collect has loaded so far.
-- Checking: all twelve, how many the second collect has found again, and the reading's linearization point: the length of the history at
-- the twelfth load of the first.
pub data Pending : Type 0 where
  NoCall : Pending
  Holding : (e : EventCall) (old new : ℕ) → Pending
  Collecting : (words : List ℕ) → Pending
  Checking : (words : List ℕ) (checked point : ℕ) → Pending

-- the reply to a report: accepted or refused, as the rules answer its event
abbrev pub report_reply : Result event.Accepted Refusal → Reply
report_reply (Ok accepted) = Accepted accepted
report_reply (Err refusal) = Refused refusal

-- what comes of a step: the call goes on and its caller holds this, or the call has this reply
pub data Outcome : Type 0 where
  GoesOn : (held : Pending) → Outcome
  Answers : (reply : Reply) → Outcome

-- what comes of a Look of the reporter with this number, by whether the rules refuse the event: a refusal is the reply; else the caller
-- holds the word found and the one that is to take its place
abbrev pub by_rules : ℕ → EventCall → ℕ → Option Refusal → Outcome
by_rules number event found (Some refusal) = Answers (Refused refusal)
by_rules number event found None = GoesOn (Holding event found (word_of (after (record_at found) number event.kind)))

-- the outcome of a Look, the load of a report, by the reporter with this number, if it finds this word: a refusal, or what is to be swapped
abbrev pub look_outcome : ℕ → EventCall → ℕ → Outcome
look_outcome number event found = by_rules number event found (refusal_of (record_at found) event.expected event.kind)

-- the outcome of a Swap, the compare-and-exchange of a report: if it finds the old word, which the Look loaded, the event is accepted with
-- the number of the new word; else the event is stale, with the number of the word found
abbrev pub swap_outcome : ℕ → ℕ → ℕ → Outcome
swap_outcome old new found = Answers (if found == old
    then Accepted (record { number = (record_at new).number })
    else Refused (Stale (record_at found).number))

-- what a reading holds that has loaded these words in its first collect: after the twelfth the second collect begins, and the length of the
-- history at that load is kept as the reading's linearization point
abbrev pub collected : List ℕ → ℕ → Pending
collected words point = if length words == 12 then Checking words 0 point else Collecting words

-- the outcome of a First, which loads the next word of a reading's first collect after these; the history has the length `point` then
abbrev pub first_outcome : List ℕ → ℕ → ℕ → Outcome
first_outcome words found point = GoesOn (collected (words ++ found ∷ []) point)

-- the outcome of a Second, a load of a reading's second collect, after `checked` equal words: if it finds the word of the first collect,
-- the next word comes, and after the twelfth the words are the reply, with their version; else the reading begins anew
abbrev pub second_outcome : List ℕ → ℕ → ℕ → ℕ → Outcome
second_outcome words checked point found =
    if found == slice_index words checked
    then (if checked == 11 then Answers (Copied (reading_of words)) else GoesOn (Checking words (checked + 1) point))
    else GoesOn (Collecting [])

-- a pass with this number (0 for a reader) may make this call: a reporter may enter events of matches 1 to 12, and every pass may read
abbrev pub MayAsk : ℕ → Call → Type 0
MayAsk number (Event event) = IsReporter number × IsMatch event.game
MayAsk number Reading = Unit {0}

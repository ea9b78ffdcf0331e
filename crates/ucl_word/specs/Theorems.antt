-- Theorems on all records, words and lists of entries.
use Rattle.std.specs.Prelude.{◌≡◌, ◌↔◌, ℕ, ◌+◌, ◌≤◌, true, List, Some, None}
use Rattle.ucl_word.specs.declared.record.MatchRecord.{MatchRecord}
use Rattle.ucl_word.specs.declared.record.State.{State}
use Rattle.ucl_word.specs.declared.record.State.TheVariants.{Scheduled, InPlay, Finished}
use Rattle.ucl_word.specs.declared.event.Side.{Side}
use Rattle.ucl_word.specs.declared.event.Kind.TheVariants.{KickOff, Goal, Disallow, Yellow, SecondYellow, FullTime, Reopen}
use Rattle.ucl_word.specs.Record.{IsReporter, IsValid}
use Rattle.ucl_word.specs.Layout.{word_of, record_at, IsWord}
use Rattle.ucl_word.specs.Migration.{IsFirstWord, is_word, is_first_word, read_word}
use Rattle.ucl_word.specs.Rules.{refusal_of, after}
use Rattle.ucl_word.specs.Counts.{MatchEntry, count, counted_match, IsLegalMatch}

-- two valid records that pack to the same word are the same record
abbrev pub WordsDiffer : Type 0
WordsDiffer = (game other : MatchRecord) → IsValid game → IsValid other → word_of game ≡ word_of other → game ≡ other

-- unpacking the word of a valid record gives this record
abbrev pub WordsAreRead : Type 0
WordsAreRead = (game : MatchRecord) → IsValid game → record_at (word_of game) ≡ game

-- no word is the packing of a valid record in both the first and the present layout
abbrev pub LayoutsDiffer : Type 0
LayoutsDiffer = (word : ℕ) → IsWord word → IsFirstWord word → ⊥

-- the test of each layout is true of exactly the words of valid records in this layout (present, first); and whatever reading a word
-- gives, which converts it to the present layout, is the word of a valid record (read)
pub record WordsAreTested : Type 0 where
  pub present : (word : ℕ) → (is_word word ≡ true) ↔ IsWord word
  pub first : (word : ℕ) → (is_first_word word ≡ true) ↔ IsFirstWord word
  pub read : (word new : ℕ) → read_word word ≡ Some new → IsWord new

-- a match in play accepts full time, whatever its event number, which is how many events it accepted
abbrev pub CanBeEnded : Type 0
CanBeEnded = (game : MatchRecord) → IsValid game → game.state ≡ InPlay → refusal_of game game.number FullTime ≡ None

-- a match that has just been reopened accepts full time; one that has accepted 4094 events or more is not reopened
abbrev pub ReopenedCanBeEnded : Type 0
ReopenedCanBeEnded = (game : MatchRecord) (reporter : ℕ) → IsValid game → IsReporter reporter → refusal_of game game.number Reopen ≡ None
    → IsValid (after game reporter Reopen) × (refusal_of (after game reporter Reopen) (game.number + 1) FullTime ≡ None)

-- how often a match was kicked off, ended and reopened, by its state. Scheduled: never. In play: it was kicked off once, and ended as often
-- as reopened. Finished: it was kicked off once, and ended once more than reopened
abbrev pub CaseOf : State → ℕ → ℕ → ℕ → Type 0
CaseOf Scheduled kick_offs full_times reopenings = (kick_offs ≡ 0) × (full_times ≡ 0) × (reopenings ≡ 0)
CaseOf InPlay kick_offs full_times reopenings = (kick_offs ≡ 1) × (full_times ≡ reopenings)
CaseOf Finished kick_offs full_times reopenings = (kick_offs ≡ 1) × (full_times ≡ reopenings + 1)

-- these entries have as many kick-offs, full times and reopenings as a match in this state has
abbrev pub IsCase : State → List MatchEntry → Type 0
IsCase state entries = CaseOf state (count KickOff entries) (count FullTime entries) (count Reopen entries)

-- a legal list of entries has as many kick-offs, full times and reopenings as go with the state of its match, and with no other state
abbrev pub OneCaseHolds : Type 0
OneCaseHolds = (entries : List MatchEntry) → IsLegalMatch entries → (state : State)
    → IsCase state entries ↔ (state ≡ (counted_match entries).state)

-- the record that is counted from a legal list of entries is valid
abbrev pub CountsAreValid : Type 0
CountsAreValid = (entries : List MatchEntry) → IsLegalMatch entries → IsValid (counted_match entries)

-- no side has more disallowed goals than goals, nor more second yellows than yellows: so goals and yellows, as differences, are exact
pub record IsBalanced (entries : List MatchEntry) : Type 0 where
  pub goals : (side : Side) → count (Disallow side) entries ≤ count (Goal side) entries
  pub yellows : (side : Side) → count (SecondYellow side) entries ≤ count (Yellow side) entries

-- no legal list of entries has more disallowed goals than goals or more second yellows than yellows, for either side
abbrev pub CountsAreBalanced : Type 0
CountsAreBalanced = (entries : List MatchEntry) → IsLegalMatch entries → IsBalanced entries

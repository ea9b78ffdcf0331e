-- Theorems on all fixtures and histories.
-- An attempt is an event that is entered, accepted or refused; it is stale if it expects another event number than its match has.
use Rattle.std.specs.Prelude.{◌≡◌, ◌≢◌, ℕ, ◌≤◌, List, [], ◌∷◌, All, ◌++◌, length, take, true, Err}
use Rattle.std.specs.List.{fold}
use Rattle.std.specs.Result.{is_ok}
use mathlib.Core.List.{IsPrefix}
use Rattle.ucl_word.specs.declared.refusal.Refusal.TheVariants.{Stale}
use Rattle.ucl_word.specs.Layout.{word_of}
use Rattle.ucl_board.specs.declared.entry.Entry.{Entry}
use Rattle.ucl_board.specs.Fixtures.{at, fixture_of, IsMatch, IsSlot}
use Rattle.ucl_board.specs.Words.{AreWords, word_at, game_at, max_version, version_of}
use Rattle.ucl_board.specs.History.{entries_of, match_after, board_of, IsLegal, followed_by, sequential_reply, Attempt, IsAttempt, board_after, after_attempt}
use Rattle.ucl_board.specs.History.{accepted_of}

-- exactly one match of the group is that of the club in slot `home`, 1 to 4, at home against the club in slot `away`
pub record MeetOnce (home away : ℕ) : Type 0 where
  pub game : ℕ
  pub within : IsMatch game
  pub plays : fixture_of game ≡ at home away
  pub alone : (other : ℕ) → IsMatch other → fixture_of other ≡ at home away → other ≡ game

-- each club of a group plays each other club exactly once at home
abbrev pub EachPairMeetsOnce : Type 0
EachPairMeetsOnce = (home away : ℕ) → IsSlot home → IsSlot away → home ≢ away → MeetOnce home away

-- each prefix of a legal history is legal
abbrev pub BeginningsAreLegal : Type 0
BeginningsAreLegal = (history rest : List Entry) → IsLegal (history ++ rest) → IsLegal history

-- the words of the board after a legal history are those of valid records, and hold for each match the record counted from its entries
abbrev pub BoardsAreCounted : Type 0
BoardsAreCounted = (history : List Entry) → IsLegal history → AreWords (board_of history)
    × ((game : ℕ) → IsMatch game → game_at (board_of history) game ≡ match_after history game)

-- the version of the board after a legal history is the length of the history, which is at most the greatest version
abbrev pub VersionsAreLengths : Type 0
VersionsAreLengths = (history : List Entry) → IsLegal history
    → (version_of (board_of history) ≡ length history) × (length history ≤ max_version)

-- at two points of a history at which a match has the same event number, its entries and its word are the same
abbrev pub SameNumberSameWord : Type 0
SameNumberSameWord = (history : List Entry) (point other game : ℕ)
    → (match_after (take point history) game).number ≡ (match_after (take other history) game).number
    → (entries_of game (take point history) ≡ entries_of game (take other history))
    × (word_of (match_after (take point history) game) ≡ word_of (match_after (take other history) game))

-- at two points of a legal history at which a match has the same word, its entries are the same
abbrev pub SameWordSameEntries : Type 0
SameWordSameEntries = (history : List Entry) (point other game : ℕ) → IsLegal history
    → word_of (match_after (take point history) game) ≡ word_of (match_after (take other history) game)
    → entries_of game (take point history) ≡ entries_of game (take other history)

-- with `entry` at the end of `history`, the word of its match differs from before, and the words of the other matches do not
pub record ChangesOneWord (history : List Entry) (entry : Entry) : Type 0 where
  pub changed : word_at (board_of (followed_by history entry)) entry.game ≢ word_at (board_of history) entry.game
  pub others : (game : ℕ) → IsMatch game → game ≢ entry.game
      → word_at (board_of (followed_by history entry)) game ≡ word_at (board_of history) game

-- an entry at the end of a legal history changes the word of its match, and no other
abbrev pub OneWordChanges : Type 0
OneWordChanges = (history : List Entry) (entry : Entry) → IsLegal (followed_by history entry) → ChangesOneWord history entry

-- two entries of one match, each at the end of a legal history, are the same if this match has the same word before both and after both
abbrev pub EntryIsKnown : Type 0
EntryIsKnown = (history other : List Entry) (entry twin : Entry) → IsLegal (followed_by history entry) → IsLegal (followed_by other twin)
    → entry.game ≡ twin.game
    → word_at (board_of history) entry.game ≡ word_at (board_of other) entry.game
    → word_at (board_of (followed_by history entry)) entry.game ≡ word_at (board_of (followed_by other twin)) entry.game
    → entry ≡ twin

-- if these attempts are made one after the other on a fresh board, the accepted ones are a legal history, the board that is left is the
-- one counted from this history, and its version is the length of this history
pub record IsCounted (attempts : List Attempt) : Type 0 where
  pub legal : IsLegal (accepted_of attempts)
  pub board : fold board_after (board_of []) attempts ≡ board_of (accepted_of attempts)
  pub version : version_of (fold board_after (board_of []) attempts) ≡ length (accepted_of attempts)

-- whatever attempts are made on a fresh board, which has no events yet, the board that they leave is counted from the accepted ones
abbrev pub AttemptsAreCounted : Type 0
AttemptsAreCounted = (attempts : List Attempt) → All IsAttempt attempts → IsCounted attempts

-- made after this history, the attempt is refused as stale, and leaves the history and its board as they were
pub record IsStaleAgain (history : List Entry) (attempt : Attempt) : Type 0 where
  pub refused : sequential_reply history attempt.call ≡ Err (Stale (match_after history attempt.call.game).number)
  pub history_is : after_attempt history attempt ≡ history
  pub board_is : board_after (board_of history) attempt ≡ board_of history

-- an attempt that was accepted is stale if it is made again, whatever was attempted since
abbrev pub AcceptedEventsGoStale : Type 0
AcceptedEventsGoStale = (history : List Entry) (attempt : Attempt) (since : List Attempt)
    → IsLegal history → All IsAttempt (attempt ∷ since)
    → is_ok (sequential_reply history attempt.call) ≡ true → IsStaleAgain (fold after_attempt history (attempt ∷ since)) attempt

-- an attempt was accepted after `history`, and `since` were made after it; making it again before the attempts `rest` changes nothing: the
-- history and the board after `rest` are the same as without the repetition
abbrev pub RepeatsChangeNothing : Type 0
RepeatsChangeNothing = (history : List Entry) (attempt : Attempt) (since rest : List Attempt)
    → IsLegal history → All IsAttempt (attempt ∷ since)
    → is_ok (sequential_reply history attempt.call) ≡ true
    → (fold after_attempt (fold after_attempt history (attempt ∷ since)) (attempt ∷ rest)
    ≡ fold after_attempt (fold after_attempt history (attempt ∷ since)) rest)
    × (fold board_after (fold board_after (board_of history) (attempt ∷ since)) (attempt ∷ rest)
    ≡ fold board_after (fold board_after (board_of history) (attempt ∷ since)) rest)

-- made after `history`, these attempts leave a history that begins with it and is legal, and the board of that history
pub record IsGoneOn (history : List Entry) (attempts : List Attempt) : Type 0 where
  pub begins : IsPrefix history (fold after_attempt history attempts)
  pub legal : IsLegal (fold after_attempt history attempts)
  pub board : fold board_after (board_of history) attempts ≡ board_of (fold after_attempt history attempts)

-- whatever attempts are made after a legal history, they leave a legal history that begins with it, and the board of that history
abbrev pub BoardsGoOn : Type 0
BoardsGoOn = (history : List Entry) (attempts : List Attempt) → IsLegal history → All IsAttempt attempts → IsGoneOn history attempts

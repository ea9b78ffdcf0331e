-- The event that the fields of a row mean, and the board after a history.
use Rattle.std.specs.Prelude.{◌≡◌, ℕ, ◌+◌, ◌++◌, List, [], ◌∷◌, length, Option, Some, option_and_then}
use Rattle.ucl_word.specs.declared.event.EventCall.{EventCall}
use Rattle.ucl_word.specs.Names.{kind_named}
use Rattle.ucl_board.specs.declared.entry.Entry.{Entry}
use Rattle.ucl_board.specs.declared.night_event.NightEvent.{NightEvent}
use Rattle.ucl_board.specs.History.{IsLegal, Attempt, after_attempt, attempted, board_of}
use Rattle.ucl_screen.specs.Numbers.{number, in_range}
use Rattle.ucl_screen.specs.Rows.{FourFields}

-- `o >>= f` is f at the value of o, or None if o is None; `do` chains such steps
infixl 10 ◌>>=◌
abbrev pub ◌>>=◌ : {A B : Type 0} → Option A → (A → Option B) → Option B
o >>= f = option_and_then f o

-- the number of a reporter, 1 to 255, that a field gives in 1 to 3 digits; None if the field is anything else
abbrev pub reporter_in : List ℕ → Option ℕ
reporter_in text = in_range 1 255 (number 3 text)

-- the number of a match, 1 to 12, that a field gives in 1 or 2 digits; None if the field is anything else
abbrev pub match_in : List ℕ → Option ℕ
match_in text = in_range 1 12 (number 2 text)

-- the expected event number, 0 to 65535, that a field gives in 1 to 5 digits; None if the field is anything else
abbrev pub expected_in : List ℕ → Option ℕ
expected_in text = in_range 0 65535 (number 5 text)

-- the event call of three fields: a match, an expected event number, and the word of a kind of event; None if one of them is bad
abbrev pub call_in : List ℕ → List ℕ → List ℕ → Option EventCall
call_in match_no expected name = do
  game ← match_in match_no
  number ← expected_in expected
  kind ← kind_named name
  Some (record { game = game; expected = number; kind = kind })

-- the event of the four fields of a row: a reporter, a match, an expected event number, and the word of a kind; None if one of them is bad
abbrev pub event_of : FourFields → Option NightEvent
event_of f = do
  reporter ← reporter_in f.first
  call ← call_in f.second f.third f.fourth
  Some (record { reporter = reporter; call = call })

-- the attempt to enter an event of a script: who enters it, and the event
abbrev pub attempt_of : NightEvent → Attempt
attempt_of event = attempted event.reporter event.call

-- the history is legal, each event accepted after those before it; the board after it has these words, and the version is its length
pub record IsBoardAfter (history : List Entry) (words : List ℕ) (version : ℕ) : Type 0 where
  pub legal : IsLegal history
  pub words_are : board_of history ≡ words
  pub version_is : version ≡ length history

-- the outputs of `each`, joined, for events entered one after the other, the first from row `row` on a board with this history
unfoldable pub each_in_turn : {X : Type 0} → (ℕ → List Entry → NightEvent → List X) → ℕ → List Entry → List NightEvent → List X
each_in_turn each row history [] = []
each_in_turn each row history (event ∷ events) = each row history event ++ each_in_turn each (row + 1) (after_attempt history (attempt_of event)) events
